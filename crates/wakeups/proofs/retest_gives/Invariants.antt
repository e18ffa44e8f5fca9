-- `wakeups::retest_gives` meets its contract: the flags of the first i gives are tested. Assumes nothing.
use Rattle.wakeups.specs.Wakeups.{flag_at}
use Rattle.wakeups.specs.Renewed.{GiveRank, Renewed}
use Rattle.wakeups.proofs.retest_gives.Given as goal

abbrev pub invariant-loop-i : goal.invariant-loop-i
invariant-loop-i l = Renewed (flag_at l.ports l.state l.z) (GiveRank l.z l.p l.i) l.initial.set.words l.set.words
