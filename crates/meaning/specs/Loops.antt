-- Document 01, words of the trade: the instances and their written order, step, place; line and divisor of a matrix; increment.
use Rattle.std.specs.Prelude.{cond, List, [], ◌∷◌, map, ℕ, zero, suc, ℤ, pos, ◌+ℤ◌, ◌-ℤ◌}
use Rattle.std.specs.Int.Signed.{lt_z}
use Rattle.integers.specs.Differences.{up}
use Rattle.integers.specs.Vectors.{dot, cross, neg3, image}
use Rattle.integers.specs.declared.V3.{V3}
use Rattle.integers.specs.declared.V2.{V2}
use Rattle.integers.specs.declared.Matrix.{Matrix}
use Rattle.lattice.specs.declared.Short.{Short}
use Rattle.lattice.specs.Shorten.{shortened}
use Rattle.meaning.specs.declared.Nest.{Nest}
use Rattle.meaning.specs.Lists.{each}

-- n numbers from a on, d apart
unfoldable pub progression : ℤ → ℤ → ℕ → List ℤ
progression a d zero = []
progression a d (suc n) = a ∷ progression (a +ℤ d) d n

-- how many whole numbers there are from a to b
abbrev pub size : ℤ → ℤ → ℕ
size a b = up (b +ℤ pos 1 -ℤ a)

-- the values of one loop as it runs: "direction 1 from left to right bound, −1 from right to left"
abbrev pub loop : ℤ → ℤ → ℤ → List ℤ
loop left right direction = progression (cond (lt_z direction (pos 0)) right left) direction (size left right)

-- the instances, "whole points in the bounds", in the order of the plain run, "loop 0 outermost"
unfoldable pub instances : Nest → List V3
instances n =
    each (λ i. each (λ j. map (λ k. record { x = i; y = j; z = k }) (loop n.left.z n.right.z n.direction.z))
    (loop n.left.y n.right.y n.direction.y)) (loop n.left.x n.right.x n.direction.x)

-- step and place of an instance or a vector
abbrev pub step_of : Nest → V3 → ℤ
step_of n v = dot n.step v

abbrev pub place_of : Nest → V3 → V2
place_of n v = image n.place v

-- "turned so that its step is positive"
abbrev pub turn : V3 → V3 → V3
turn step v = cond (lt_z (dot step v) (pos 0)) (neg3 v) v

-- "the vector before shortening", "for three" loops "the cross product of the two rows"; for two the padded rows' is "the row's second word
-- and its first negated" (`flat-cross` of geometry)
abbrev pub unshortened : Matrix → V3
unshortened m = cross m.top m.low

-- shortened, with the divisor that was taken out
abbrev pub short_of : Matrix → Short
short_of m = shortened (unshortened m)

-- "the shortest non-zero whole vector that" a matrix "sends to zero, turned"; "found by dividing out the greatest common divisor"
-- (that this is the shortest, lattice's `shortest` says)
unfoldable pub line_of : Nest → Matrix → V3
line_of n m = turn n.step (short_of m).vector

-- the divisor of a matrix: the one that its line's shortening took out
abbrev pub divisor : Matrix → ℕ
divisor m = (short_of m).divisor

-- increment: the line of place
abbrev pub increment : Nest → V3
increment n = line_of n n.place
