-- What the answers of the calls leave in words, by the answers of meaning: their numbers; their values, or the words as they were where there
-- are none. Assumes nothing.
use Rattle.std.specs.Prelude.{◌≡◌, List, [], ◌∷◌, ℕ, Result, Ok, Err}
use Rattle.std.proofs.Common.{ap}
use Rattle.refusals.specs.declared.Refusal.{Refusal}
use Rattle.refusals.specs.Numbers.{refusal_number, numbered}
use Rattle.meaning.specs.declared.Figures.{Figures}
use Rattle.meaning.specs.declared.Divisors.{Divisors}
use Rattle.meaning.specs.declared.Ran.{Ran}
use Rattle.meaning.specs.declared.Readiness.{Readiness}
use Rattle.meaning.specs.Answers.{declined_number, accept_values, ran_values, ready_values, made_values}
use Rattle.meaning.specs.Answers.{Acceptance, Answer, MakeAnswer, ReadyAnswer, RunAnswer}
use Rattle.answer_words.specs.Words.{words_of, of_answer, of_ran, of_readiness, left, figure_words, ran_words, ready_words, made_words}

-- the values, or the words as they were where there is none
abbrev pub or_kept : List ℕ → List ℕ → List ℕ
or_kept [] words = words
or_kept (value ∷ values) words = value ∷ values

-- ---- as the code comes by them

pub number_is : {A : Type 0} (r : Result A Refusal) {a : Result A ℕ} → numbered r ≡ a → refusal_number r ≡ declined_number a
number_is {A} (Ok v) e = ap (declined_number {A = A}) e
number_is {A} (Err n) e = ap (declined_number {A = A}) e

pub accepted_left : (r : Result (Figures × Divisors) Refusal) {a : Acceptance} (words : List ℕ) → numbered r ≡ a
    → left figure_words r words ≡ or_kept (accept_values a) words
accepted_left (Ok v) words e = ap (λ (a : Acceptance). or_kept (accept_values a) words) e
accepted_left (Err n) words e = ap (λ (a : Acceptance). or_kept (accept_values a) words) e

pub ran_left : (r : Result Ran Refusal) {a : RunAnswer} (words : List ℕ) → numbered r ≡ a
    → left ran_words r words ≡ or_kept (ran_values a) words
ran_left (Ok v) words e = ap (λ (a : RunAnswer). or_kept (ran_values a) words) e
ran_left (Err n) words e = ap (λ (a : RunAnswer). or_kept (ran_values a) words) e

pub ready_left : (r : Result Readiness Refusal) {a : ReadyAnswer} (words : List ℕ) → numbered r ≡ a
    → left ready_words r words ≡ or_kept (ready_values a) words
ready_left (Ok v) words e = ap (λ (a : ReadyAnswer). or_kept (ready_values a) words) e
ready_left (Err n) words e = ap (λ (a : ReadyAnswer). or_kept (ready_values a) words) e

pub made_left : (r : Result ℕ Refusal) {a : MakeAnswer} (words : List ℕ) → numbered r ≡ a
    → left made_words r words ≡ or_kept (made_values a) words
made_left (Ok v) words e = ap (λ (a : MakeAnswer). or_kept (made_values a) words) e
made_left (Err n) words e = ap (λ (a : MakeAnswer). or_kept (made_values a) words) e

-- ---- in three words

pub answer_words : (r : Result Unit Refusal) {a : Answer} → numbered r ≡ a → words_of (refusal_number r) [] ≡ of_answer a
answer_words (Ok v) e = ap of_answer e
answer_words (Err n) e = ap of_answer e

pub run_words : (r : Result Ran Refusal) {a : RunAnswer} → numbered r ≡ a
    → words_of (refusal_number r) (left ran_words r (0 ∷ 0 ∷ [])) ≡ of_ran a
run_words (Ok v) e = ap of_ran e
run_words (Err n) e = ap of_ran e

pub readiness_words : (r : Result Readiness Refusal) {a : ReadyAnswer} → numbered r ≡ a
    → words_of (refusal_number r) (left ready_words r (0 ∷ 0 ∷ [])) ≡ of_readiness a
readiness_words (Ok v) e = ap of_readiness e
readiness_words (Err n) e = ap of_readiness e
