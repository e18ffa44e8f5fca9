-- What Fill answers and leaves, by its refusal. Assumes nothing.
use Rattle.std.specs.Prelude.{◌≡◌, refl, List, ℕ, suc, ◌≤◌, eqb, ltb, length}
use Rattle.std.proofs.Common.{sym, ◌∙◌, arith}
use borrow.Author.Tests.{eq-eqb, ne_eqb, ltb-false}
use Rattle.integers.specs.Fill.{fill_by}
use Rattle.meaning.specs.Answers.{Done, Refused}
use Rattle.meaning.specs.Tests.{refusal}
use Rattle.meaning.specs.Generator.{after, fill_tests, fill}
use Rattle.lists.specs.Fills.{fill_front}
use Rattle.decode.specs.Refusals.{passed}

module _ (seed n : ℕ) (list : List ℕ) where
  pub long_enough : refusal (fill_tests seed n list) ≡ 0 → n ≤ length list
  long_enough e =
      let p29 = passed 29 (eqb seed 0) _ (λ g. omega arith) e in
      let p31 = passed 31 (ltb (length list) n) _ (λ g. omega arith) p29.1 in ltb-false _ _ p31.0

  pub filled_call : {out : List ℕ} → refusal (fill_tests seed n list) ≡ 0 → out ≡ fill_by (λ i. after (suc i) seed) n list
      → (Done ≡ (fill seed n list).answer) × (out ≡ (fill seed n list).list)
  unfolding fill
  filled_call e o = rw (eq-eqb _ 0 e) (refl, o ∙ fill_front (λ i. after (suc i) seed) n list (long_enough e))

  pub declined_call : {r : ℕ} → r ≡ refusal (fill_tests seed n list) → (r ≡ 0 → ⊥)
      → (Refused r ≡ (fill seed n list).answer) × (list ≡ (fill seed n list).list)
  unfolding fill
  declined_call e z = rw (sym e, ne_eqb _ 0 z) (refl, refl)
