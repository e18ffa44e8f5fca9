-- `wakeups::fill_wakeups` meets its contract: the ranks below r are in the table. Assumes nothing.
use Rattle.std.proofs.Common.{arith}
use Rattle.step_order.proofs.Steps.{step_inside}
use Rattle.wakeups.specs.Filled.{filled_none, filled_next, filled_all}
use Rattle.wakeups.proofs.fill_wakeups.Goals as goal

pub loop-r-init : goal.loop-r-init
loop-r-init c = filled_none _ _ c.requires.3

pub foreign-at-requires : goal.foreign-at-requires
foreign-at-requires c = rw c.step_of.ensures (c.requires.0, step_inside c.args.z c.loop-r.r (omega (arith, c.count-r-end.ensures.0)))

pub loop-r-preserved : goal.loop-r-preserved
loop-r-preserved c =
    let e = c.foreign-at.ensures in
    filled_next _ _ _ _ c.requires.2 (omega (arith, c.count-r-end.ensures.0)) (rw c.step_of.ensures at e.0) e.1 (omega arith)
    c.loop-r.invariant

pub returns : goal.returns
returns c = filled_all _ _ (omega (arith, c.count-r-end.ensures.0)) c.loop-r.invariant
