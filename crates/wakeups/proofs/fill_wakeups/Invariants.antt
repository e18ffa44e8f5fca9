-- `wakeups::fill_wakeups` meets its contract: the ranks below r are in the table. Assumes nothing.
use Rattle.wakeups.specs.Filled.{Filled}
use Rattle.wakeups.proofs.fill_wakeups.Given as goal

abbrev pub invariant-loop-r : goal.invariant-loop-r
invariant-loop-r l = Filled l.ports l.z l.r l.wakeups
