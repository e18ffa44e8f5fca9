-- `prospect::outlooks_along` meets its contract: the outlooks are those of the first i streams. Assumes nothing.
use mathlib.Core.Path.{◌≡◌}
use lib.ListN.{length}
use Rattle.prospect.specs.Prospects.{FirstOutlooks}
use Rattle.prospect.proofs.outlooks_along.Given as goal

abbrev pub invariant-loop-i : goal.invariant-loop-i
invariant-loop-i l = (length l.out ≡ 6) × (FirstOutlooks l.v.description l.i l.out)
