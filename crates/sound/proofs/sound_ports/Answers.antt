-- `sound::sound_ports` meets its contract: the ports from i on say what all say. Assumes nothing.
use mathlib.Core.Path.{sym, ◌∙◌, ap}
use native.Mathlib.Omega.{arith}
use Rattle.sound_rows.specs.Sound.{port_sound}
use Rattle.lists.specs.Loops.{every_start, every_turn, every_stop, every_end}
use Rattle.sound.proofs.sound_ports.Invariants.{one}
use Rattle.sound.proofs.sound_ports.Goals as goal

pub loop-i-init : goal.loop-i-init
loop-i-init c = every_start _ _

pub sound_port-requires : goal.sound_port-requires
sound_port-requires c =
    rw c.port.ensures (c.requires.0.ports c.args.p c.loop-i.i c.requires.1 (omega arith))

pub loop-i-preserved : goal.loop-i-preserved
loop-i-preserved c =
    let f = one c.args.ports.now c.args.state.now c.args.p in
    let e = ap (port_sound c.args.state.now) c.port.ensures in
    c.loop-i.invariant
    ∙ every_turn f c.args.z.streams c.loop-i.i (omega arith) (sym (c.sound_port.ensures ∙ e) ∙ c.if-not-sound_port.false)

pub returns-then-not-sound_port : goal.returns-then-not-sound_port
returns-then-not-sound_port c =
    let f = one c.args.ports.now c.args.state.now c.args.p in
    let e = ap (port_sound c.args.state.now) c.port.ensures in
    sym
    (c.loop-i.invariant
    ∙ every_stop f c.args.z.streams c.loop-i.i (omega arith) (sym (c.sound_port.ensures ∙ e) ∙ c.if-not-sound_port.true))

pub returns : goal.returns
returns c =
    let f = one c.args.ports.now c.args.state.now c.args.p in
    sym (c.loop-i.invariant ∙ every_end f c.args.z.streams c.loop-i.i (omega arith))
