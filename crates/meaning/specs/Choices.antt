-- Cases of request 2.10, computed as one table: how many step vectors get each answer, and the refusals in order; `cases` has more.
use Rattle.std.specs.Prelude.{◌≡◌, refl, List, [], ◌∷◌, map, ℕ, replicate, ℤ, pos}
use Rattle.integers.specs.Bytes.{bits_at, word_at}
use Rattle.lattice.specs.Gcd.{gcd_of, euclid}
use Rattle.meaning.specs.Limits.{limits_of}
use Rattle.meaning.specs.Lists.{filter, any, every, each, numbers_from}
use Rattle.meaning.specs.Tests.{refusal}
use Rattle.meaning.specs.Loops.{progression, instances, line_of}
use Rattle.meaning.specs.Space.{points, widen_all, around, box_of}
use Rattle.meaning.specs.Description.{nest_of, stream_of, body_line, description_of}
use Rattle.meaning.specs.Accept.{tests_from, refusal_of, accept}
use Rattle.meaning.specs.Answers.{answer_number}
use Rattle.meaning.specs.StepVectors.{vectors, step_vectors}
use Rattle.meaning.specs.Comparison.{Case, ◌is◌, naturals, eq_list, first_wrong, agree}
use Rattle.meaning.specs.Designs.{pair, polynomial, design_one}

-- a call's number and its counts
abbrev pub counted : ℕ → List ℕ → ℕ → List ℤ
counted board s k = let c = step_vectors (limits_of board) s k (replicate 18 9) in naturals (answer_number c.answer ∷ c.counts)

-- counts: accepted, 8, and 10 to 17
abbrev pub counts : ℕ → ℕ → ℕ → ℕ → ℕ → ℕ → ℕ → ℕ → ℕ → ℕ → List ℤ
counts a n8 n10 n11 n12 n13 n14 n15 n16 n17 =
    naturals (0 ∷ a ∷ 0 ∷ 0 ∷ 0 ∷ 0 ∷ 0 ∷ 0 ∷ 0 ∷ n8 ∷ 0 ∷ n10 ∷ n11 ∷ n12 ∷ n13 ∷ n14 ∷ n15 ∷ n16 ∷ n17 ∷ [])

-- refused: the number, and the counts as they were lent
abbrev refused : ℕ → List ℤ
refused n = naturals (n ∷ replicate 18 9)

-- the polynomial product with step, place, and loading of a, b and c
abbrev pub product : List ℤ → List ℤ → List ℤ → List ℕ
product step place loading = polynomial 2 2 step place (pair (pos 1) (pos 1)) loading

abbrev pub one : List ℤ
one = pos 1 ∷ pos 0 ∷ pos 0 ∷ []

abbrev pub choices : List Case
choices =
    -- design one: "accepted 1, refusal 8 three times, 12 four times, 15 once"
    (counted 0 design_one 1 is counts 1 3 0 0 4 0 0 1 0 0)
    ∷ (counted 1 design_one 0 is counts 0 1 0 0 0 0 0 0 0 0)
    -- the step as lent is of no account, not even one that is 8
    ∷ (counted 0 (product (pair (pos 0) (pos 0)) (pair (pos 1) (pos 0)) one) 1 is counts 1 3 0 0 4 0 0 1 0 0)
    -- 33 before 34, 34 before 1, and the description's own 1 to 7 as lent: a step of 9 is 4, place 0 is 7
    ∷ (counted 2 [] 4 is refused 33)
    ∷ (counted 1 [] 4 is refused 34)
    ∷ (counted 0 design_one 4 is refused 34)
    ∷ (counted 0 [] 3 is refused 1)
    ∷ (counted 0 (product (pair (pos 9) (pos 1)) (pair (pos 1) (pos 0)) one) 1 is refused 4)
    ∷ (counted 0 (product (pair (pos 2) (pos 1)) (pair (pos 0) (pos 0)) one) 1 is refused 7)
    ∷ []

pub proved : map (λ c. c.got) choices ≡ map (λ c. c.wanted) choices
unfolding eq_list first_wrong bits_at word_at gcd_of euclid filter any every each numbers_from refusal progression instances line_of points
    widen_all around box_of nest_of stream_of body_line description_of tests_from refusal_of accept vectors step_vectors
proved = agree choices refl
