-- What the call answers and leaves. Assumes nothing.
use Rattle.std.specs.Prelude.{◌≡◌, refl, cond, List, ℕ, eqb, length}
use Rattle.std.proofs.Common.{sym, ◌∙◌, ap}
use Rattle.std.proofs.Math.Path.{subst}
use borrow.Author.Tests.{ne_eqb}
use Rattle.meaning.specs.declared.Description.{Description}
use Rattle.meaning.specs.Answers.{Answer, Done, Refused}
use Rattle.meaning.specs.declared.Limits.{Limits}
use Rattle.meaning.specs.Tests.{Test, refusal}
use Rattle.meaning.specs.Limits.{gauge_limits}
use Rattle.meaning.specs.Description.{description_of}
use Rattle.meaning.specs.Body.{final_values}
use Rattle.meaning.specs.Accept.{refusal_of}
use Rattle.meaning.specs.Calls.{length_of, answer, plain_run}
use Rattle.declines.specs.Tests.{plain_lengths, plain_fits}
use Rattle.survey.specs.Accepted.{accepted_within}
use Rattle.elements.specs.Few.{accepted_few}
use Rattle.written_order.specs.Places.{Fitting}

-- the call's own tests, of the lengths of values and of output
abbrev pub own_tests : Description → ℕ → ℕ → List Test
own_tests d values output = plain_lengths (length_of d) values output

-- what the call answers and leaves once its description is accepted
pub record Called (d : Description) (values output : List ℕ) (r : Answer) (out : List ℕ) : Type 0 where
  pub answers : r ≡ answer (refusal (own_tests d (length values) (length output)))
  pub leaves : out ≡ cond (eqb (refusal (own_tests d (length values) (length output))) 0) (final_values d values) output

-- the number by the count of elements, and none of them applies
pub own_is : (d : Description) (values output : ℕ) {n k : ℕ} → k ≡ length_of d → n ≡ refusal (plain_lengths k values output)
    → n ≡ refusal (own_tests d values output)
own_is d values output k e = e ∙ ap (λ (k : ℕ). refusal (plain_lengths k values output)) k

pub lengths_are : (d : Description) (values output : ℕ) {n : ℕ} → n ≡ refusal (own_tests d values output) → n ≡ 0
    → (values ≡ length_of d) × (output ≡ length_of d)
lengths_are d values output e z = plain_fits (length_of d) values output (sym e ∙ z)

module _ (d : Description) (values output : List ℕ) {n : ℕ} (e : n ≡ refusal (own_tests d (length values) (length output))) where
  -- the values copied, and the instances run on the copy
  pub run_done : n ≡ 0 → {copy out : List ℕ} → copy ≡ values → out ≡ final_values d copy → Called d values output Done out
  run_done z c o = let q = sym e ∙ z in record { answers = rw q refl; leaves = rw q (o ∙ ap (final_values d) c) }

  pub run_refused : (n ≡ 0 → ⊥) → Called d values output (Refused n) output
  run_refused f = let q = ne_eqb n 0 f in record { answers = rw (← e, q) refl; leaves = rw (← e, q) refl }

-- an accepted description has a table with room
pub accepted_fitting : (s : List ℕ) → refusal_of gauge_limits s ≡ 0 → Fitting (description_of s)
accepted_fitting s e = record { few = accepted_few s e; instances = (accepted_within gauge_limits s e).1.instances }

module _ (l : Limits) (s values output : List ℕ) where
  pub accepted_call : {d : Description} {r : Answer} {out : List ℕ} → refusal_of l s ≡ 0 → d ≡ description_of s
      → Called d values output r out → (r ≡ (plain_run l s values output).answer) × (out ≡ (plain_run l s values output).output)
  unfolding plain_run
  accepted_call {r} {out} z e h =
      let c = subst (λ (d : Description). Called d values output r out) e h in rw z (c.answers, c.leaves)

  pub refused_call : {n : ℕ} → n ≡ refusal_of l s → (n ≡ 0 → ⊥)
      → (Refused n ≡ (plain_run l s values output).answer) × (output ≡ (plain_run l s values output).output)
  unfolding plain_run
  refused_call {n} e f = rw (← e, ne_eqb n 0 f, ne_eqb n 0 f) (refl, refl)
