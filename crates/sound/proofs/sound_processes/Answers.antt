-- `sound::sound_processes` meets its contract: the processes from p on say what all say. Assumes nothing.
use mathlib.Core.Path.{sym, ◌∙◌}
use native.Mathlib.Omega.{arith}
use Rattle.lists.specs.Loops.{every_start, every_turn, every_stop, every_end}
use Rattle.sound.specs.States.{process_sound}
use Rattle.sound.proofs.sound_processes.Goals as goal

pub loop-p-init : goal.loop-p-init
loop-p-init c = every_start _ _

pub sound_process-requires : goal.sound_process-requires
sound_process-requires c = (c.requires, omega arith)

pub loop-p-preserved : goal.loop-p-preserved
loop-p-preserved c =
    let f = process_sound c.args.ports.now c.args.state.now c.args.z.streams in
    let turn = every_turn f c.args.z.processes c.loop-p.p (omega arith) in
    c.loop-p.invariant ∙ turn (rw (← c.sound_process.ensures) c.if-not-sound_process.false)

pub returns-then-not-sound_process : goal.returns-then-not-sound_process
returns-then-not-sound_process c =
    let f = process_sound c.args.ports.now c.args.state.now c.args.z.streams in
    let stop = every_stop f c.args.z.processes c.loop-p.p (omega arith) in
    sym (c.loop-p.invariant ∙ stop (rw (← c.sound_process.ensures) c.if-not-sound_process.true))

pub returns : goal.returns
returns c =
    let f = process_sound c.args.ports.now c.args.state.now c.args.z.streams in
    sym (c.loop-p.invariant ∙ every_end f c.args.z.processes c.loop-p.p (omega arith))
