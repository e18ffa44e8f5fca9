-- Request 2.10, "how many step vectors work": the description with every small step vector, how many of them get each answer of Accept,
-- and the call, for any board, bytes and k: the answer, and the lent counts afterwards.
use Rattle.std.specs.Prelude.{Bool, cond, List, [], ◌∷◌, ◌++◌, map, ℕ, zero, suc, ◌+◌, ◌*◌, eqb, ltb, length, take, drop, ℤ, pos, neg_ℤ}
use Rattle.meaning.specs.declared.Limits.{Limits}
use Rattle.meaning.specs.Lists.{filter, each, numbers}
use Rattle.meaning.specs.Tests.{Test, ◌if◌, refusal}
use Rattle.meaning.specs.Loops.{progression}
use Rattle.meaning.specs.Description.{bytes, sizes_of, step_at, description_of, refused5}
use Rattle.meaning.specs.Accept.{refused33, refused6, refused7, byte_tests, accept}
use Rattle.meaning.specs.Answers.{accept_number, Answer}
use Rattle.meaning.specs.Calls.{answer}

-- ---- the vectors

-- "entries from −k to k", and the vectors of r of them (that every vector is there, and once, `Vectors` of HowManyWork says)
abbrev pub entries : ℕ → List ℤ
entries k = progression (neg_ℤ (pos k)) (pos 1) (2 * k + 1)

unfoldable pub vectors : ℕ → ℕ → List (List ℤ)
vectors k zero = [] ∷ []
vectors k (suc r) = each (λ e. map (λ v. e ∷ v) (vectors k r)) (entries k)

-- "replace the step coefficients": the bytes of a description with other ones (`Replaced` of HowManyWork)
abbrev pub with_step : List ℕ → List ℤ → List ℕ
with_step s v = let at = 4 * step_at (sizes_of s) in take at s ++ (bytes v ++ drop (at + 4 * length v) s)

-- ---- how many get each answer

-- what Accept answers to it: 0 for "accepted", or the "refusal number of Accept"
abbrev pub answer_to : Limits → List ℕ → List ℤ → ℕ
answer_to l s v = accept_number (accept l (with_step s v))

-- the answers, one for each vector
abbrev pub answers_to : Limits → List ℕ → ℕ → List ℕ
answers_to l s k = map (answer_to l s) (vectors k (sizes_of s).loops)

-- how many of them are a
abbrev pub how_many : ℕ → List ℕ → ℕ
how_many a answers = length (filter (λ x. eqb x a) answers)

-- "accepted, and each refusal number of Accept": from 0 to 17
abbrev pub answer_count : ℕ
answer_count = 18

abbrev pub counts_of : Limits → List ℕ → ℕ → List ℕ
counts_of l s k = let answers = answers_to l s k in map (λ a. how_many a answers) (numbers answer_count)

-- ---- STEP VECTORS

-- an answer, and the counts afterwards
pub record Counted : Type 0 where
  pub answer : Answer
  pub counts : List ℕ

-- "k from 0 to 3"
abbrev pub refused34 : ℕ → Bool
refused34 k = ltb 3 k

-- "34 for another k, after 33 and before 1; the description itself is declined only by 1 to 7"
abbrev pub vector_tests : Limits → List ℕ → ℕ → List Test
vector_tests l s k =
    let n = (description_of s).nest in
    (33 if refused33 l) ∷ (34 if refused34 k)
    ∷ (byte_tests s ++ ((5 if refused5 n) ∷ (6 if refused6 l n) ∷ (7 if refused7 n) ∷ []))

unfoldable pub step_vectors : Limits → List ℕ → ℕ → List ℕ → Counted
step_vectors l s k lent =
    let n = refusal (vector_tests l s k) in
    record { answer = answer n; counts = cond (eqb n 0) (counts_of l s k) lent }
