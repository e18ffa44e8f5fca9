-- `figures::sums_of` meets its contract: the sums are those of the pipes that begin before process p. Assumes nothing.
use mathlib.Core.Path.{◌≡◌}
use Rattle.figures.specs.Sums.{sums_at}
use Rattle.figures.proofs.sums_of.Given as goal

abbrev pub invariant-loop-p : goal.invariant-loop-p
invariant-loop-p l = l.sums ≡ sums_at l.f.nest l.f.stream l.p
