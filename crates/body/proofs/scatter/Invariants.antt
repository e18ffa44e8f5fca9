-- `body::scatter` meets its contract: what is left from turn i on gives the whole. Assumes nothing.
use mathlib.Core.Path.{◌≡◌}
use lib.ListN.{drop}
use Rattle.meaning.specs.Body.{scatter}
use Rattle.body.proofs.scatter.Given as goal

abbrev pub invariant-loop-i : goal.invariant-loop-i
invariant-loop-i l =
    scatter l.store (drop l.i l.places) (drop l.i l.registers) ≡ scatter l.initial.store l.places l.registers
