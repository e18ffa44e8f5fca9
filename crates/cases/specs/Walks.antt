-- Cases of request 2.4, computed: walks beside the written order, with null processes, long strides and a loop from right to left;
-- descriptions with and without one.
use Rattle.std.specs.Prelude.{◌≡◌, refl, List, [], ◌∷◌, map, ℕ, ℤ, pos}
use Rattle.integers.specs.Bytes.{bits_at, word_at}
use Rattle.lattice.specs.Gcd.{gcd_of, euclid}
use Rattle.meaning.specs.Limits.{gauge_limits}
use Rattle.meaning.specs.Lists.{filter, any, every, best, best_or, each, numbers_from}
use Rattle.meaning.specs.Tests.{refusal}
use Rattle.meaning.specs.Loops.{progression, instances, line_of}
use Rattle.meaning.specs.Space.{points, widen_all, around, box_of, sent_to, first_of, last_of}
use Rattle.meaning.specs.Description.{nest_of, stream_of, body_line, description_of}
use Rattle.meaning.specs.Walk.{walk, walk_refusal}
use Rattle.meaning.specs.Comparison.{Case, ◌is◌, number, planar, spatial, eq_list, first_wrong, agree}
use Rattle.meaning.specs.Designs.{pair, polynomial, design_two, turned, decimating, matrix_slanted, nest}

-- the walk of two loops, and of three
abbrev on_plane : List ℕ → List ℤ
on_plane s = each planar (walk (nest s))

abbrev in_space : List ℕ → List ℤ
in_space s = each spatial (walk (nest s))

-- places i+j with step i+j and 2i+j with step 2i+j
abbrev still : List ℕ
still = polynomial 2 2 (pair (pos 1) (pos 1)) (pair (pos 1) (pos 1)) (pair (pos 1) (pos 1)) (pos 0 ∷ pos 0 ∷ pos 1 ∷ [])

abbrev strided : List ℕ
strided = polynomial 2 2 (pair (pos 3) (pos 1)) (pair (pos 2) (pos 1)) (pair (pos 1) (pos 1)) (pos 0 ∷ pos 0 ∷ pos 0 ∷ [])

abbrev pub walks : List Case
walks =
    -- design two: process i+j from its greatest j to its least
    (on_plane design_two
    is (pos 0 ∷ pos 0 ∷ pos 0 ∷ pos 1 ∷ pos 1 ∷ pos 0 ∷ pos 0 ∷ pos 2 ∷ pos 1 ∷ pos 1 ∷ pos 2 ∷ pos 0 ∷ pos 1 ∷ pos 2 ∷ pos 2 ∷ pos 1
    ∷ pos 2 ∷ pos 2 ∷ []))
    -- loop 0 from right to left, place i: the walk begins at process 0, the loops at 2
    ∷ (on_plane turned
    is (pos 0 ∷ pos 0 ∷ pos 0 ∷ pos 1 ∷ pos 0 ∷ pos 2 ∷ pos 1 ∷ pos 0 ∷ pos 1 ∷ pos 1 ∷ pos 1 ∷ pos 2 ∷ pos 2 ∷ pos 0 ∷ pos 2 ∷ pos 1
    ∷ pos 2 ∷ pos 2 ∷ []))
    -- increment (1,−2): process 2 runs (0,2) and (1,0), all others one instance
    ∷ (on_plane (decimating 1 2)
    is (pos 0 ∷ pos 0 ∷ pos 0 ∷ pos 1 ∷ pos 0 ∷ pos 2 ∷ pos 1 ∷ pos 0 ∷ pos 1 ∷ pos 1 ∷ pos 1 ∷ pos 2 ∷ []))
    -- the slanted grid: nothing at the null processes between the others
    ∷ (in_space matrix_slanted
    is (pos 0 ∷ pos 0 ∷ pos 0 ∷ pos 0 ∷ pos 0 ∷ pos 1 ∷ pos 0 ∷ pos 1 ∷ pos 0 ∷ pos 0 ∷ pos 1 ∷ pos 1
    ∷ pos 1 ∷ pos 0 ∷ pos 0 ∷ pos 1 ∷ pos 0 ∷ pos 1 ∷ pos 1 ∷ pos 1 ∷ pos 0 ∷ pos 1 ∷ pos 1 ∷ pos 1 ∷ []))
    -- an increment of step 0 has no walk; a stream that would be refused, by 13, leaves the walk as it is
    ∷ (number (walk_refusal gauge_limits still) is number 8)
    ∷ (number (walk_refusal gauge_limits strided) is number 0)
    ∷ (on_plane strided
    is (pos 0 ∷ pos 0 ∷ pos 0 ∷ pos 1 ∷ pos 0 ∷ pos 2 ∷ pos 1 ∷ pos 0 ∷ pos 1 ∷ pos 1 ∷ pos 1 ∷ pos 2 ∷ pos 2 ∷ pos 0 ∷ pos 2 ∷ pos 1
    ∷ pos 2 ∷ pos 2 ∷ []))
    ∷ []

pub proved : map (λ c. c.got) walks ≡ map (λ c. c.wanted) walks
unfolding eq_list first_wrong bits_at word_at gcd_of euclid filter any every best best_or each numbers_from refusal progression instances
    line_of points widen_all around box_of sent_to first_of last_of nest_of stream_of body_line description_of walk walk_refusal
proved = agree walks refl
