-- `sound::sound_pipes` meets its contract: the pipes from q on say what all say. Assumes nothing.
use mathlib.Core.Path.{sym, ◌∙◌, ap}
use native.Mathlib.Omega.{arith}
use Rattle.lists.specs.Loops.{every_start, every_turn, every_stop, every_end}
use Rattle.sound_rows.specs.Sound.{end_sound}
use Rattle.sound.specs.States.{pipe_sound}
use Rattle.sound.proofs.sound_pipes.Goals as goal

pub loop-q-init : goal.loop-q-init
loop-q-init c = every_start _ _

pub sound_end-requires : goal.sound_end-requires
sound_end-requires c =
    rw c.end.ensures (c.requires.ends c.loop-q.q (omega arith))

pub loop-q-preserved : goal.loop-q-preserved
loop-q-preserved c =
    let f = pipe_sound c.args.ports.now c.args.state.now in
    let e = ap (end_sound c.args.state.now) c.end.ensures in
    c.loop-q.invariant
    ∙ every_turn f c.args.z.pipes c.loop-q.q (omega arith) (sym (c.sound_end.ensures ∙ e) ∙ c.if-not-sound_end.false)

pub returns-then-not-sound_end : goal.returns-then-not-sound_end
returns-then-not-sound_end c =
    let f = pipe_sound c.args.ports.now c.args.state.now in
    let e = ap (end_sound c.args.state.now) c.end.ensures in
    sym
    (c.loop-q.invariant
    ∙ every_stop f c.args.z.pipes c.loop-q.q (omega arith) (sym (c.sound_end.ensures ∙ e) ∙ c.if-not-sound_end.true))

pub returns : goal.returns
returns c =
    let f = pipe_sound c.args.ports.now c.args.state.now in
    sym (c.loop-q.invariant ∙ every_end f c.args.z.pipes c.loop-q.q (omega arith))
