-- Document 01, words of the trade: pipes, their processes and elements in order, soak and drain.
use Rattle.std.specs.Prelude.{Bool, not, cond, ◌&&◌, ◌||◌, List, [], ◌∷◌, map, reverse, ℕ, zero, suc, ◌+◌, pos, negsuc, neg_ℤ}
use Rattle.std.specs.Int.Signed.{lt_z}
use Rattle.integers.specs.Words.{eq_z}
use Rattle.integers.specs.Vectors.{neg2, shift2, image}
use Rattle.integers.specs.declared.V2.{V2}
use Rattle.meaning.specs.declared.Nest.{Nest}
use Rattle.meaning.specs.declared.Stream.{Stream}
use Rattle.meaning.specs.Lists.{filter, any, position}
use Rattle.meaning.specs.Loops.{size}
use Rattle.meaning.specs.Space.{Box, inside, space, processes, instances_at, first, computing}
use Rattle.meaning.specs.Streams.{stationary, move, elements, touches, pass}

-- ---- a line of points in a box

-- how often one can go on from p by d without leaving a box, at most f times
unfoldable pub stays : Box → V2 → ℕ → V2 → ℕ
stays k d zero p = 0
stays k d (suc f) p = cond (inside k (shift2 p (pos 1) d)) (suc (stays k d f (shift2 p (pos 1) d))) 0

-- at all: no more often than the box is wide and high, unless d is zero
abbrev pub reach : Box → V2 → V2 → ℕ
reach k d p = stays k d (size k.lo.a k.hi.a + size k.lo.b k.hi.b) p

-- n points from p on, d apart
unfoldable pub march : V2 → V2 → ℕ → List V2
march p d zero = []
march p d (suc n) = p ∷ march (shift2 p (pos 1) d) d n

-- the points of a box on the line through p along d, in the order of d
unfoldable pub line_in : Box → V2 → V2 → List V2
line_in k d p = march (shift2 p (neg_ℤ (pos (reach k (neg2 d) p))) d) d (reach k (neg2 d) p + suc (reach k d p))

-- ---- pipes

-- the line of processes along the move through process y, from the entry on; and how many stand before y
unfoldable pub pipe : Nest → Stream → V2 → List V2
pipe n s y = line_in (space n) (move n s) y

abbrev pub before : Nest → Stream → V2 → ℕ
before n s y = reach (space n) (neg2 (move n s)) y

-- "a line of processes along the move that has a computing process"
abbrev pub is_pipe : Nest → Stream → V2 → Bool
is_pipe n s y = any (computing n) (pipe n s y)

-- "it enters at its point whose predecessor lies outside the process space"
abbrev pub is_entry : Nest → Stream → V2 → Bool
is_entry n s y = not (inside (space n) (shift2 y (negsuc 0) (move n s)))

-- a stream's pipes by their entries, in row order
abbrev pub entries : Nest → Stream → List V2
entries n s = filter (λ y. is_entry n s y && is_pipe n s y) (processes n)

-- ---- a pipe's elements, "those that its processes use"

abbrev pub uses : Nest → Stream → V2 → V2 → Bool
uses n s y e = any (λ x. touches s x e) (instances_at n y)

-- in row order
unfoldable pub used_on : Nest → Stream → V2 → List V2
used_on n s y = filter (λ e. any (λ p. uses n s p e) (pipe n s y)) (elements n s)

-- a vector that leads back in row order
abbrev pub backward : V2 → Bool
backward v = lt_z v.a (pos 0) || (eq_z v.a (pos 0) && lt_z v.b (pos 0))

-- "of a moving pipe in the order of index map times increment; of a stationary pipe in the order in which the pipe, from its entry on,
-- passes the processes that hold them" (that a moving pipe's are a whole segment, `pipe-line` of geometry says; that every element is on
-- one pipe at one index, `home-element`)
unfoldable pub pipe_elements : Nest → Stream → V2 → List V2
pipe_elements n s y =
    cond (stationary n s) (map (λ p. image s.map (first n p)) (filter (computing n) (pipe n s y)))
    (cond (backward (pass n s)) (reverse (used_on n s y)) (used_on n s y))

-- ---- soak and drain: "the pipe's elements before the first and after the last that a process uses" (those of its first and last instance:
-- `soak-first` and `drain-last` of geometry; the report's equations (8) and (9): `soak-report` and `drain-report`)

abbrev pub soak : Nest → Stream → V2 → ℕ
soak n s y = position (uses n s y) (pipe_elements n s y)

abbrev pub drain : Nest → Stream → V2 → ℕ
drain n s y = position (uses n s y) (reverse (pipe_elements n s y))
