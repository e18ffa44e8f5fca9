-- The words of answers: number, first and second value. Assumes nothing.
use Rattle.std.specs.Prelude.{◌≡◌, cond, List, [], ◌∷◌, ℕ, ◌+◌, ◌*◌, ◌≤◌, length, get_or, set, Result, Ok, Err}
use Rattle.std.proofs.Common.{◌∙◌, ap, arith}
use Rattle.std.proofs.Math.Seq.{set_out}
use Rattle.refusals.specs.declared.Refusal.{Refusal}
use Rattle.meaning.specs.declared.Figures.{Figures}
use Rattle.meaning.specs.declared.Divisors.{Divisors}
use Rattle.meaning.specs.declared.Ran.{Ran}
use Rattle.meaning.specs.declared.Readiness.{Readiness}
use Rattle.meaning.specs.Answers.{answer_number, ran_number, ran_values, ready_number, ready_values, Answer, ReadyAnswer, RunAnswer}
use Rattle.answer_words.specs.declared.Words.{Words}

-- a number, and values, 0 where there are none
abbrev pub words_of : ℕ → List ℕ → Words
words_of n vs = record { number = n; first = get_or vs 0 0; second = get_or vs 1 0 }

abbrev pub of_answer : Answer → Words
of_answer a = words_of (answer_number a) []

abbrev pub of_ran : RunAnswer → Words
of_ran a = words_of (ran_number a) (ran_values a)

abbrev pub of_readiness : ReadyAnswer → Words
of_readiness a = words_of (ready_number a) (ready_values a)

-- ---- the values of an answer that is not declined

abbrev pub figure_words : Figures × Divisors → List ℕ
figure_words v =
    let f = v.0 in
    let g = v.1 in
    f.processes ∷ f.instances ∷ f.elements ∷ f.pipes ∷ f.words ∷ f.steps
    ∷ g.place ∷ g.stream0 ∷ g.stream1 ∷ g.stream2 ∷ g.stream3 ∷ g.stream4 ∷ g.stream5 ∷ []

abbrev pub ran_words : Ran → List ℕ
ran_words r = r.steps ∷ cond r.ready 1 0 ∷ []

abbrev pub ready_words : Readiness → List ℕ
ready_words r = r.count ∷ r.lowest ∷ []

abbrev pub made_words : ℕ → List ℕ
made_words n = n ∷ []

-- the values of an answer, or the words as they were where it is declined
abbrev pub left : {A : Type 0} → (A → List ℕ) → Result A Refusal → List ℕ → List ℕ
left values (Ok v) words = values v
left values (Err e) words = words

-- ---- a list of answers

-- the k-th answer in a list of answers, three words each; a place that the list does not have is passed over
abbrev pub noted : List ℕ → ℕ → Words → List ℕ
noted xs k w = set (set (set xs (3 * k) w.number) (3 * k + 1) w.first) (3 * k + 2) w.second

-- a list without the place of its first word has no room for it
pub noted_out : (xs : List ℕ) (k : ℕ) (w : Words) → length xs ≤ k → noted xs k w ≡ xs
noted_out xs k w h =
    let a = set_out xs (3 * k) w.number (omega arith) in
    let b = set_out xs (3 * k + 1) w.first (omega arith) in
    ap (λ (l : List ℕ). set (set l (3 * k + 1) w.first) (3 * k + 2) w.second) a
    ∙ ap (λ (l : List ℕ). set l (3 * k + 2) w.second) b
    ∙ set_out xs (3 * k + 2) w.second (omega arith)
