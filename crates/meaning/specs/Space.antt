-- Document 01, words of the trade: boxes and row order, the process space, and of a process its count, first and last. What is said of
-- place here holds of any matrix, so an index map has the same words: its box, and the instances that touch an element.
use Rattle.std.specs.Prelude.{Bool, not, cond, ◌&&◌, List, [], ◌∷◌, map, ℕ, ◌+◌, ◌*◌, eqb, length, ℤ, pos, ◌-ℤ◌}
use Rattle.std.specs.Int.Signed.{le_z, lt_z}
use Rattle.integers.specs.Differences.{up}
use Rattle.integers.specs.Words.{eq_z}
use Rattle.integers.specs.Vectors.{zero2, zero3, image}
use Rattle.integers.specs.declared.V3.{V3}
use Rattle.integers.specs.declared.V2.{V2}
use Rattle.integers.specs.declared.Matrix.{Matrix}
use Rattle.meaning.specs.declared.Nest.{Nest}
use Rattle.meaning.specs.Lists.{filter, best_or, each}
use Rattle.meaning.specs.Loops.{progression, size, instances, step_of}

-- two points are one
abbrev pub eq2 : V2 → V2 → Bool
eq2 p q = eq_z p.a q.a && eq_z p.b q.b

-- ---- boxes

-- the points from a least to a greatest corner
pub record Box : Type 0 where
  pub lo : V2
  pub hi : V2

abbrev pub inside : Box → V2 → Bool
inside k p = le_z k.lo.a p.a && le_z p.a k.hi.a && le_z k.lo.b p.b && le_z p.b k.hi.b

-- "row order: last coordinate fastest"
unfoldable pub points : Box → List V2
points k =
    each (λ i. map (λ j. record { a = i; b = j }) (progression k.lo.b (pos 1) (size k.lo.b k.hi.b)))
    (progression k.lo.a (pos 1) (size k.lo.a k.hi.a))

-- the number of a point in row order
abbrev pub row_index : Box → V2 → ℕ
row_index k p = up (p.a -ℤ k.lo.a) * size k.lo.b k.hi.b + up (p.b -ℤ k.lo.b)

-- the smallest box around a list of points
abbrev pub min_z : ℤ → ℤ → ℤ
min_z u v = cond (lt_z v u) v u

abbrev pub max_z : ℤ → ℤ → ℤ
max_z u v = cond (lt_z u v) v u

abbrev pub widen : Box → V2 → Box
widen k p =
    record {
      lo = record { a = min_z k.lo.a p.a; b = min_z k.lo.b p.b };
      hi = record { a = max_z k.hi.a p.a; b = max_z k.hi.b p.b };
    }

unfoldable pub widen_all : Box → List V2 → Box
widen_all k [] = k
widen_all k (p ∷ l) = widen_all (widen k p) l

unfoldable pub around : List V2 → Box
around [] = record { lo = zero2; hi = zero2 }
around (p ∷ l) = widen_all (record { lo = p; hi = p }) l

-- "the smallest box around" a matrix's values at "all instances"
unfoldable pub box_of : Nest → Matrix → Box
box_of n m = around (map (image m) (instances n))

-- ---- the instances that a matrix sends to a point

unfoldable pub sent_to : Nest → Matrix → V2 → List V3
sent_to n m y = filter (λ x. eq2 (image m x) y) (instances n)

abbrev pub count_of : Nest → Matrix → V2 → ℕ
count_of n m y = length (sent_to n m y)

-- those "of least and greatest step"; they are the outermost points in the bounds of the line of points that m sends to y, on a face of the
-- bounds or not (request 2.2; `longer-strides` of requests)
abbrev pub sooner : Nest → V3 → V3 → Bool
sooner n v u = lt_z (step_of n v) (step_of n u)

abbrev pub later : Nest → V3 → V3 → Bool
later n v u = lt_z (step_of n u) (step_of n v)

unfoldable pub first_of : Nest → Matrix → V2 → V3
first_of n m y = best_or zero3 (sooner n) (sent_to n m y)

unfoldable pub last_of : Nest → Matrix → V2 → V3
last_of n m y = best_or zero3 (later n) (sent_to n m y)

-- ---- processes

-- the process space (the report's equation (2): `box-basis` of geometry); the processes in row order
abbrev pub space : Nest → Box
space n = box_of n n.place

abbrev pub processes : Nest → List V2
processes n = points (space n)

abbrev pub instances_at : Nest → V2 → List V3
instances_at n y = sent_to n n.place y

-- (the report's equation (4): `count-is` of geometry)
abbrev pub count : Nest → V2 → ℕ
count n y = count_of n n.place y

abbrev pub first : Nest → V2 → V3
first n y = first_of n n.place y

abbrev pub last : Nest → V2 → V3
last n y = last_of n n.place y

-- "a process with no instance is null"
abbrev pub computing : Nest → V2 → Bool
computing n y = not (eqb (count n y) 0)
