-- The number of steps that a list of granted steps has when all values are out. Assumes nothing.
use Rattle.std.specs.Prelude.{ℕ, suc, ◌+◌, ◌*◌, length}
use Rattle.meaning.specs.Lists.{total}
use Rattle.meaning.specs.Array.{Array}
use Rattle.network.specs.Wiring.{Wired}

module _ {A : Array} (W : Wired A) where
  -- "the instances plus, for each pipe, twice its elements times one more than its processes"
  abbrev pub step_total : ℕ
  step_total = W.instances + total (λ r. 2 * (length r.elements * suc (length r.stops))) A.pipes
