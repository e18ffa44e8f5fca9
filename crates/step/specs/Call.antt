-- What Step answers and leaves. Assumes nothing.
use Rattle.std.specs.Prelude.{◌≡◌, List, ◌++◌, ℕ}
use Rattle.std.proofs.Math.Path.{refl}
use Rattle.std.proofs.Common.{◌∙◌}
use borrow.Author.Tests.{ne_eqb}
use Rattle.meaning.specs.declared.Limits.{Limits}
use Rattle.meaning.specs.Answers.{Answer, Refused}
use Rattle.meaning.specs.Tests.{refusal}
use Rattle.meaning.specs.Description.{description_of}
use Rattle.meaning.specs.Rules.{Memory}
use Rattle.meaning.specs.Calls.{answer, memory_tests, refused_by, step_of, step}
use Rattle.opening.specs.Opening.{own_last}
use Rattle.named_step.specs.Stepped.{own_tests, Stepped}

-- the whole call
module _ (l : Limits) (s : List ℕ) (kind number stream : ℕ) (M : Memory) {n : ℕ}
    (e : n ≡ refused_by l s (memory_tests (description_of s) M)) where
  abbrev whole : ℕ
  whole = refused_by l s (memory_tests (description_of s) M ++ own_tests l s M (step_of l s kind number stream))

  pub opened_call : n ≡ 0 → {r : Answer} {M' : Memory} → Stepped s kind number stream M r M'
      → (r ≡ (step l s kind number stream M).answer) × (M' ≡ (step l s kind number stream M).memory)
  unfolding step
  opened_call h t =
      let z : whole ≡ refusal (own_tests l s M (step_of l s kind number stream)) = own_last l s M _ ∙ rw (← e, h) refl in
      rw z (t.answers l, t.leaves l)

  pub refused_call : (n ≡ 0 → ⊥) → (Refused n ≡ (step l s kind number stream M).answer) × (M ≡ (step l s kind number stream M).memory)
  unfolding step
  refused_call h =
      let z : whole ≡ n = own_last l s M _ ∙ rw (← e, ne_eqb n 0 h) refl in
      rw (z, ne_eqb n 0 h) (refl, refl)
