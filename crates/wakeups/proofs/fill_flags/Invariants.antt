-- `wakeups::fill_flags` meets its contract: the flags of the ranks below r are tested. Assumes nothing.
use Rattle.std.proofs.Common.{◌<◌}
use Rattle.wakeups.specs.Wakeups.{flag_at}
use Rattle.wakeups.specs.Renewed.{Renewed}
use Rattle.wakeups.proofs.fill_flags.Given as goal

abbrev pub invariant-loop-r : goal.invariant-loop-r
invariant-loop-r l = Renewed (flag_at l.ports l.state l.z) (λ x. x < l.r) l.initial.set.words l.set.words
