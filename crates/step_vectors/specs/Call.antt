-- What Step vectors answers and leaves, by its refusal. Assumes nothing.
use Rattle.std.specs.Prelude.{◌≡◌, ℕ, ◌≤◌, ◌<◌, length}
use Rattle.std.proofs.Math.Path.{refl, sym, ap}
use Rattle.std.proofs.Common.{◌∙◌, subst, arith}
use mathlib.Core.List.{List, map}
use borrow.Author.Tests.{eq-eqb, ne_eqb, ltb-false}
use Rattle.integers.specs.declared.V3.{V3}
use Rattle.meaning.specs.declared.Limits.{Limits}
use Rattle.meaning.specs.declared.Description.{Description}
use Rattle.meaning.specs.Answers.{Done, Refused}
use Rattle.meaning.specs.Limits.{gauge_limits, UpTo}
use Rattle.meaning.specs.Lists.{numbers}
use Rattle.meaning.specs.Tests.{refusal}
use Rattle.meaning.specs.Loops.{instances}
use Rattle.meaning.specs.Description.{sizes_of, description_of}
use Rattle.meaning.specs.StepVectors.{vectors, answer_to, how_many, answer_count, vector_tests, step_vectors}
use Rattle.meaning.specs.HowManyWork.{step_vector}
use Rattle.lists.specs.Members.{map_same}
use Rattle.choices.specs.Answers.{Passes, passes, later_tests, possible, possible_lt}
use Rattle.choices.specs.Answers as Accept
use Rattle.survey.specs.declared.Survey.{Survey}
use Rattle.prospect.specs.declared.Prospect.{Prospect}
use Rattle.prospect.specs.Own.{Own, Laid, own_laid}
use Rattle.prospect.specs.Prospects.{ProspectOf, answering, answer_by, answer_is}
use Rattle.step_vectors.specs.Tally.{tally_of, Tallying}

pub loops_are : (s : List ℕ) {v : Survey} → Own (description_of s) v → v.description.sizes.loops ≡ (sizes_of s).loops
unfolding description_of
loops_are s o = ap (λ (d : Description). d.sizes.loops) o.same

module _ (l : Limits) (s : List ℕ) (k : ℕ) (lent : List ℕ) where
  pub declined_call : {r : ℕ} → r ≡ refusal (vector_tests l s k) → (r ≡ 0 → ⊥)
      → (Refused r ≡ (step_vectors l s k lent).answer) × (lent ≡ (step_vectors l s k lent).counts)
  unfolding step_vectors
  declined_call e n = rw (sym e, ne_eqb _ 0 n) (refl, refl)

  -- a call that is not declined
  module _ (none : refusal (vector_tests l s k) ≡ 0) where
    few : k ≤ 3
    few = (passes l s k none).0

    lets : Passes l s
    lets = (passes l s k none).1

    -- the description at a step of its own can be walked
    pub laid : {v : Survey} → UpTo l gauge_limits → Own (description_of s) v → Laid v
    laid u o =
        let n = length (instances (description_of s).nest) in
        own_laid o lets.rank (omega (arith, ltb-false l.instances n lets.instances, u.instances))

    module _ {v : Survey} {p : Prospect} (o : Own (description_of s) v) (h : ProspectOf l v.description p) where
      -- its answers are those of the description as lent
      answer_at : (x : V3) → answer_by p x ≡ refusal (later_tests l (description_of s) x)
      answer_at x = answer_is l v.description x h ∙ ap (λ (d : Description). refusal (later_tests l d x)) o.same

      pub tallying : Tallying p k (sizes_of s).loops
      tallying =
          let z = Accept.sizes_fit lets in
          record {
            few = few;
            least = z.loops.0;
            most = z.loops.1;
            answering = λ x w. answering h w;
            below = λ x. subst (λ (n : ℕ). n < answer_count) (sym (answer_at x)) (possible_lt _ (possible l (description_of s) x));
          }

      pub counted_call : {counts : List ℕ} → counts ≡ tally_of p k (sizes_of s).loops
          → (Done ≡ (step_vectors l s k lent).answer) × (counts ≡ (step_vectors l s k lent).counts)
      unfolding step_vectors
      counted_call e =
          rw (eq-eqb _ 0 none) (
            refl,
            e ∙ ap (λ (answers : List ℕ). map (λ a. how_many a answers) (numbers answer_count))
                (map_same (λ x. answer_by p (step_vector x)) (answer_to l s) (vectors k (sizes_of s).loops)
                (λ x i. answer_at (step_vector x) ∙ sym (Accept.answer_is lets k few x i))),
          )
