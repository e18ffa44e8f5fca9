-- What Make answers and leaves, by its refusal. Assumes nothing.
use Rattle.std.specs.Prelude.{◌≡◌, refl, List, ℕ, ◌*◌, ◌≤◌, eqb, ltb, length}
use Rattle.std.proofs.Common.{sym, ◌∙◌, arith}
use borrow.Author.Tests.{eq-eqb, ne_eqb, ltb-false}
use Rattle.meaning.specs.declared.Sizes.{Sizes}
use Rattle.meaning.specs.Answers.{Made, Refused}
use Rattle.meaning.specs.Tests.{refusal}
use Rattle.meaning.specs.Description.{words_of, refused2}
use Rattle.meaning.specs.Generator.{made_words, make_tests, make}
use Rattle.decode.specs.Offsets.{Sized}
use Rattle.decode.specs.Refusals.{passed, sizes_in_range}
use Rattle.make.specs.Words.{words_to, all_words}

module _ (seed : ℕ) (z : Sizes) (out : List ℕ) where
  -- none of them applies
  pub fitting : refusal (make_tests seed z out) ≡ 0 → Sized z × (4 * words_of z ≤ length out)
  fitting e =
      let p29 = passed 29 (eqb seed 0) _ (λ g. omega arith) e in
      let p30 = passed 30 (refused2 z) _ (λ g. omega arith) p29.1 in
      let p31 = passed 31 (ltb (length out) (4 * words_of z)) _ (λ g. omega arith) p30.1 in
      (sizes_in_range z p30.0, ltb-false _ _ p31.0)

  pub made_call : {n : ℕ} {left : List ℕ} → refusal (make_tests seed z out) ≡ 0 → n ≡ words_of z
      → left ≡ words_to (made_words z seed) (words_of z) out
      → (Made (4 * n) ≡ (make seed z out).answer) × (left ≡ (make seed z out).output)
  unfolding make
  made_call e w l = rw (eq-eqb _ 0 e, w) (refl, l ∙ all_words z seed out (fitting e).1)

  pub declined_call : {r : ℕ} → r ≡ refusal (make_tests seed z out) → (r ≡ 0 → ⊥)
      → (Refused r ≡ (make seed z out).answer) × (out ≡ (make seed z out).output)
  unfolding make
  declined_call e n = rw (sym e, ne_eqb _ 0 n) (refl, refl)
