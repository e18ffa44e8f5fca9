-- More cases of request 2.10, computed: the larger k, other places, three loops, and places that lie apart.
use Rattle.std.specs.Prelude.{◌≡◌, refl, List, [], ◌∷◌, map, ℕ, ℤ, pos, negsuc}
use Rattle.integers.specs.Bytes.{bits_at, word_at}
use Rattle.lattice.specs.Gcd.{gcd_of, euclid}
use Rattle.meaning.specs.Lists.{filter, any, every, each, numbers_from}
use Rattle.meaning.specs.Tests.{refusal}
use Rattle.meaning.specs.Loops.{progression, instances, line_of}
use Rattle.meaning.specs.Space.{points, widen_all, around, box_of}
use Rattle.meaning.specs.Description.{nest_of, stream_of, body_line, description_of}
use Rattle.meaning.specs.Accept.{tests_from, refusal_of, accept}
use Rattle.meaning.specs.StepVectors.{vectors, step_vectors}
use Rattle.meaning.specs.Comparison.{Case, ◌is◌, eq_list, first_wrong, agree}
use Rattle.meaning.specs.Designs.{product_by, pair, design_one, matrix_product, column_with, spaced}
use Rattle.meaning.specs.Choices.{counted, counts, product, one}

-- place 2i+j with loading of a, b and c
abbrev leaning : List ℤ → List ℕ
leaning loading = product (pair (pos 2) (pos 1)) (pair (pos 2) (pos 1)) loading

abbrev pub choices : List Case
choices =
    -- design one, and with another step as lent
    (counted 1 design_one 2 is counts 6 5 0 0 8 0 0 6 0 0)
    ∷ (counted 0 design_one 3 is counts 14 7 0 0 12 0 2 14 0 0)
    ∷ (counted 1 (product (pair (negsuc 7) (pos 8)) (pair (pos 1) (pos 0)) one) 1 is counts 1 3 0 0 4 0 0 1 0 0)
    -- place 2i+j, a without a loading vector and with one, which is 16 before b's 13
    ∷ (counted 0 (leaning (pos 0 ∷ pos 0 ∷ pos 1 ∷ [])) 1 is counts 0 1 0 0 4 4 0 0 0 0)
    ∷ (counted 0 (leaning one) 1 is counts 0 1 0 0 2 0 0 0 6 0)
    -- three loops; places that lie apart
    ∷ (counted 0 matrix_product 1 is counts 4 7 0 0 12 0 0 4 0 0)
    ∷ (counted 0 (column_with (product_by 3)) 1 is counts 4 9 0 0 10 0 0 4 0 0)
    ∷ (counted 0 spaced 1 is counts 3 3 0 0 0 0 0 3 0 0)
    ∷ []

pub proved : map (λ c. c.got) choices ≡ map (λ c. c.wanted) choices
unfolding eq_list first_wrong bits_at word_at gcd_of euclid filter any every each numbers_from refusal progression instances line_of points
    widen_all around box_of nest_of stream_of body_line description_of tests_from refusal_of accept vectors step_vectors
proved = agree choices refl
