-- The refusals 33, 34 and 1 to 7 in stages, and what the survey of a description at a step of its own then holds. Assumes nothing.
use Rattle.std.specs.Prelude.{◌≡◌, Bool, List, [], ◌∷◌, ◌++◌, ℕ, eqb, ltb, Result, IfOk}
use Rattle.std.proofs.Math.Path.{refl, ap, ap₂}
use Rattle.std.proofs.Common.{◌∙◌, arith}
use Rattle.refusals.specs.declared.Refusal.{Refusal}
use Rattle.refusals.specs.Numbers.{refusal_number}
use Rattle.meaning.specs.declared.Limits.{Limits}
use Rattle.meaning.specs.declared.Nest.{Nest}
use Rattle.meaning.specs.declared.Description.{Description}
use Rattle.meaning.specs.Tests.{Test, ◌if◌, refusal}
use Rattle.meaning.specs.Loops.{instances}
use Rattle.meaning.specs.Description.{description_of}
use Rattle.meaning.specs.Accept.{refused33, refused6, refused7}
use Rattle.meaning.specs.StepVectors.{refused34, vector_tests}
use Rattle.geometry.specs.Tests.{numbered}
use Rattle.decode.specs.Refusals.{first_tests, passed}
use Rattle.decode.specs.Ranged.{Decoded, decoded}
use Rattle.survey.specs.declared.Ground.{Ground}
use Rattle.survey.specs.declared.Survey.{Survey}
use Rattle.survey.specs.Grounds.{six, seven}
use Rattle.survey.specs.Stages.{goes_on, stops}
use Rattle.survey.specs.Surveys.{GroundOf}
use Rattle.prospect.specs.Own.{Own}

-- 33, 34 and 1 to 5
abbrev pub early_tests : Limits → List ℕ → ℕ → List Test
early_tests l s k = (33 if refused33 l) ∷ (34 if refused34 k) ∷ first_tests s

pub early_decoded : (l : Limits) (s : List ℕ) (k : ℕ) → refusal (early_tests l s k) ≡ 0 → Decoded s
early_decoded l s k e =
    let p33 = passed 33 (refused33 l) _ (λ g. omega arith) e in
    let p34 = passed 34 (refused34 k) _ (λ g. omega arith) p33.1 in decoded s p34.1

-- 6 and 7, by the ground, and of loops
abbrev pub ground_tests : Limits → Ground → List Test
ground_tests l g = (6 if ltb l.instances g.instances) ∷ (7 if eqb g.divisor 0) ∷ []

abbrev last_tests : Limits → Nest → List Test
last_tests l n = (6 if refused6 l n) ∷ (7 if refused7 n) ∷ []

-- the survey, or the refusal of the call
pub record Surveying (l : Limits) (s : List ℕ) (k : ℕ) (r : Result Survey Refusal) : Type 0 where
  pub refusal_is : refusal_number r ≡ refusal (vector_tests l s k)
  pub own : IfOk r (λ v. Own (description_of s) v)

-- all of them
all_tests_lem : (l : Limits) (s : List ℕ) (k : ℕ)
    → refusal (early_tests l s k ++ last_tests l (description_of s).nest) ≡ refusal (vector_tests l s k)
unfolding description_of
all_tests_lem l s k = refl

module _ (l : Limits) (s : List ℕ) (k : ℕ) {q : ℕ} (e : q ≡ refusal (early_tests l s k)) where
  pub early_stops : (q ≡ 0 → ⊥) → q ≡ refusal (vector_tests l s k)
  early_stops f = stops (early_tests l s k) (last_tests l (description_of s).nest) e f ∙ all_tests_lem l s k

  -- the ground at another step has the same 6 and 7
  pub early_goes_on : {v : Survey} {r : ℕ} → q ≡ 0 → Own (description_of s) v → r ≡ refusal (ground_tests l v.loops)
      → r ≡ refusal (vector_tests l s k)
  unfolding numbered instances
  early_goes_on {v} z o h =
      goes_on (early_tests l s k) (last_tests l (description_of s).nest) tt e z
      (h ∙ ap₂ (λ (a b : Bool). refusal ((6 if a) ∷ (7 if b) ∷ []))
      (six g l refl ∙ ap (λ (d : Description). refused6 l d.nest) o.same)
      (seven g refl ∙ ap (λ (d : Description). refused7 d.nest) o.same))
      ∙ all_tests_lem l s k
    where
      g : GroundOf v.description.nest v.loops
      g = v.surveyed.ground
