-- `walk::fill_walk` meets its contract: after p processes the walk of those is stored. Assumes nothing.
use mathlib.Core.Path.{◌≡◌}
use Prim.Native.Nat.{ℕ, ◌<◌}
use lib.ListN.{get_or}
use Rattle.integers.specs.Vectors.{zero3}
use Rattle.meaning.specs.Walk.{walk as walk_of}
use Rattle.walk.specs.Words.{vector_at}
use Rattle.walk.specs.Walked.{passed}
use Rattle.walk.proofs.fill_walk.Given as goal

abbrev pub invariant-loop-p : goal.invariant-loop-p
invariant-loop-p l =
    (l.from ≡ passed l.n l.p) × ((k : ℕ) → k < l.from → vector_at l.walk k ≡ get_or (walk_of l.n) k zero3)
