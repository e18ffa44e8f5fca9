-- `step_rules::can_use_all` meets its contract: the streams from i on say what all say. Assumes nothing.
use Rattle.std.proofs.Common.{sym, ◌∙◌, ap, arith}
use Rattle.fire.specs.Firing.{can_use, every_next, every_stop, every_end}
use Rattle.port_table.specs.PortsOf.{ports_at}
use Rattle.step_rules.specs.Fits.{ports_at_lem}
use Rattle.step_rules.proofs.can_use_all.Goals as goal

pub loop-i-preserved : goal.loop-i-preserved
loop-i-preserved c =
    let a = c.args in
    let q = c.loop-i in
    let m = c.requires.0.streams in
    let f = can_use a.state.now in
    let e = ap f (ports_at_lem a.ports.now a.p q.i (omega arith) ∙ sym c.port.ensures) in
    sym (every_next f (ports_at a.ports.now a.p) q.i a.z.streams (omega arith) m (e ∙ sym c.can_use.ensures ∙ c.if-not-can_use.false))
    ∙ q.invariant

pub returns-then-not-can_use : goal.returns-then-not-can_use
returns-then-not-can_use c =
    let a = c.args in
    let q = c.loop-i in
    let m = c.requires.0.streams in
    let f = can_use a.state.now in
    let e = ap f (ports_at_lem a.ports.now a.p q.i (omega arith) ∙ sym c.port.ensures) in
    sym (every_stop f (ports_at a.ports.now a.p) q.i a.z.streams (omega arith) m (e ∙ sym c.can_use.ensures ∙ c.if-not-can_use.true))
    ∙ q.invariant

pub returns : goal.returns
returns c =
    let a = c.args in
    let q = c.loop-i in
    sym (every_end (can_use a.state.now) (ports_at a.ports.now a.p) q.i a.z.streams (omega arith)) ∙ q.invariant
