-- `body::gather` meets its contract: after i turns the first i values are in the registers. Assumes nothing.
use mathlib.Core.Path.{◌≡◌}
use Rattle.body.specs.Store.{gathered}
use Rattle.body.proofs.gather.Given as goal

abbrev pub invariant-loop-i : goal.invariant-loop-i
invariant-loop-i l = l.out ≡ gathered l.store l.places l.i
