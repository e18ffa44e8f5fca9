-- `untouched::untouched` meets its contract: the inner loop goes on where it stopped, with those passed marked. Assumes nothing.
use mathlib.Core.Path.{◌≡◌}
use mathlib.Core.Bool.{false}
use Prim.Native.Nat.{ℕ, ◌-◌, ◌≤◌, ◌<◌}
use Rattle.untouched.specs.Touched.{Touch, Marked}
use Rattle.untouched.specs.Search.{number_on}
use Rattle.untouched.proofs.untouched.Given as goal

abbrev pub invariant-elements : goal.invariant-elements
invariant-elements l =
    record {
      none : l.found ≡ false;
      passed : l.k ≤ l.instances;
      marked : Marked (number_on l.f l.walk) l.k l.elements l.marks;
      touched : (i : ℕ) → i < l.q → Touch (number_on l.f l.walk) l.instances i;
    }

abbrev pub invariant-loop-marks : goal.invariant-loop-marks
invariant-loop-marks l =
    record { none : l.found ≡ false; passed : l.k ≤ l.instances; marked : Marked (number_on l.f l.walk) l.k l.elements l.marks }

abbrev pub decreases-loop-marks : goal.decreases-loop-marks
decreases-loop-marks l = l.instances - l.k
