-- `sweeps::clear` meets its contract: the first p words are 0. Assumes nothing.
use Rattle.std.proofs.Common.{◌≡◌}
use Rattle.integers.specs.Fill.{fill_by}
use Rattle.sweeps.proofs.clear.Given as goal

abbrev pub invariant-loop-p : goal.invariant-loop-p
invariant-loop-p l = l.out ≡ fill_by (λ p. 0) l.p l.initial.out
