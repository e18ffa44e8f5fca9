-- Cases of request 2.3, computed as one table: rounds from seed 1 and back, what Fill and Make leave, and their refusals in order.
use Rattle.std.specs.Prelude.{◌≡◌, refl, List, [], ◌∷◌, map, ℕ, replicate, ℤ, pos, negsuc}
use Rattle.integers.specs.Bytes.{bits_at, word_at}
use Rattle.meaning.specs.declared.Sizes.{Sizes}
use Rattle.meaning.specs.Lists.{every, each, numbers_from}
use Rattle.meaning.specs.Tests.{refusal}
use Rattle.meaning.specs.Description.{sizes}
use Rattle.meaning.specs.Answers.{answer_number, made_number, made_values}
use Rattle.meaning.specs.Accept.{byte_tests}
use Rattle.meaning.specs.Generator.{after, previous, before, fill, make}
use Rattle.meaning.specs.Comparison.{Case, ◌is◌, naturals, number, eq_list, first_wrong, agree}

-- a call's number and its list
abbrev filled : ℕ → ℕ → List ℕ → List ℤ
filled seed n list = let f = fill seed n list in naturals (answer_number f.answer ∷ f.list)

abbrev refused : ℕ → Sizes → List ℕ → List ℤ
refused seed z out = let f = make seed z out in naturals (made_number f.answer ∷ f.output)

-- the words of a description made of seed 1, two loops, one stream and one line
abbrev small : List ℕ
small = (make 1 (sizes 2 1 1) (replicate 92 0)).output

abbrev pub loads : List Case
loads =
    -- "the first value written is the state after the first such round"; the rest stays
    (filled 1 5 (replicate 7 9) is naturals (0 ∷ 270369 ∷ 67634689 ∷ 2647435461 ∷ 307599695 ∷ 2398689233 ∷ 9 ∷ 9 ∷ []))
    ∷ (filled 1 0 (9 ∷ []) is naturals (0 ∷ 9 ∷ []))
    ∷ (filled 4294967295 2 (0 ∷ 0 ∷ []) is naturals (0 ∷ 253983 ∷ 4228382207 ∷ []))
    -- and back
    ∷ (naturals (previous 270369 ∷ before 5 2398689233 ∷ after 3 (before 3 77) ∷ []) is naturals (1 ∷ 1 ∷ 77 ∷ []))
    -- 29 before 31; a list as long as n is filled
    ∷ (filled 0 5 [] is number 29)
    ∷ (filled 1 2 (9 ∷ []) is naturals (31 ∷ 9 ∷ []))
    ∷ (filled 0 1 (9 ∷ []) is naturals (29 ∷ 9 ∷ []))
    -- seed 0 is 29 whatever the sizes; sizes 4 1 1 are 30 before a short output is 31
    ∷ (refused 0 (sizes 4 1 1) [] is number 29)
    ∷ (refused 0 (sizes 2 1 1) (replicate 2 9) is naturals (29 ∷ 9 ∷ 9 ∷ []))
    ∷ (refused 1 (sizes 4 1 1) [] is number 30)
    ∷ (refused 1 (sizes 2 7 1) (9 ∷ []) is naturals (30 ∷ 9 ∷ []))
    ∷ (refused 1 (sizes 2 1 1) (9 ∷ []) is naturals (31 ∷ 9 ∷ []))
    ∷ (number (made_number (make 1 (sizes 2 1 1) (replicate 91 0)).answer) is number 31)
    -- a description of 92 bytes
    ∷ (naturals (made_values (make 1 (sizes 2 1 1) (replicate 92 0)).answer) is number 92)
    ∷ (map (word_at small) (numbers_from 0 23)
    is (pos 2 ∷ pos 1 ∷ pos 1 ∷ pos 50 ∷ pos 54 ∷ pos 2 ∷ pos 34 ∷ pos 1 ∷ negsuc 0 ∷ negsuc 4 ∷ negsuc 3 ∷ pos 1 ∷ pos 0
    ∷ pos 2 ∷ pos 4 ∷ pos 0 ∷ pos 0 ∷ pos 2 ∷ pos 0 ∷ pos 1 ∷ pos 0 ∷ pos 1 ∷ pos 15 ∷ []))
    ∷ (number (refusal (byte_tests small)) is number 0)
    ∷ []

pub proved : map (λ c. c.got) loads ≡ map (λ c. c.wanted) loads
unfolding eq_list first_wrong bits_at word_at every each numbers_from refusal after before fill make
proved = agree loads refl
