-- `step_vectors::survey_of` meets its contract: words that 1 to 5 do not refuse may be decoded and surveyed. Assumes nothing.
use mathlib.Core.Path.{◌≡◌, refl, sym, ◌∙◌, ap, subst}
use mathlib.Core.List.{List}
use Prim.Native.Nat.{ℕ}
use native.Mathlib.Omega.{arith}
use Rattle.refusals.specs.declared.Refusal.{Refusal}
use Rattle.refusals.specs.Numbers.{number_of, refusal_number, number-positive}
use Rattle.meaning.specs.declared.Limits.{Limits}
use Rattle.meaning.specs.declared.Description.{Description}
use Rattle.meaning.specs.Tests.{refusal}
use Rattle.meaning.specs.Limits.{limits_of}
use Rattle.meaning.specs.StepVectors.{vector_tests}
use Rattle.decode.specs.Ranged.{Decoded}
use Rattle.survey.specs.Surveys.{may_survey}
use Rattle.prospect.specs.Own.{Own}
use Rattle.step_vectors.specs.Stages.{early_tests, ground_tests, early_decoded, early_stops, early_goes_on}
use borrow.Author.Rules.{rules}
use Rattle.step_vectors.proofs.survey_of.Goals as goal

-- the early refusals, by the limits that are handed on
early_is : (s : List ℕ) (k : ℕ) {r : ℕ} {l m : Limits} → r ≡ refusal (early_tests m s k) → l ≡ m → r ≡ refusal (early_tests l s k)
early_is s k e h = e ∙ ap (λ (l : Limits). refusal (early_tests l s k)) (sym h)

may_decode : (s : List ℕ) (k : ℕ) {l m : Limits} → 0 ≡ refusal (early_tests m s k) → l ≡ m → Decoded s
may_decode s k {l = l} e h = early_decoded l s k (sym (early_is s k e h))

pub description-requires : goal.description-requires
description-requires c =
    let a = c.args in (may_decode a.s.now a.k c.in_ok-early_refusal.ensures c.requires).sized

pub own_survey-v-requires : goal.own_survey-v-requires
own_survey-v-requires c =
    let a = c.args in may_survey (may_decode a.s.now a.k c.in_ok-early_refusal.ensures c.requires) c.description.ensures

pub returns : goal.returns
returns c =
    let a = c.args in
    let h = subst (λ (d : Description). Own d c.own_survey-v.result) c.description.ensures c.own_survey-v.ensures in
    record {
      refusal_is =
          early_goes_on a.limits a.s.now a.k (early_is a.s.now a.k c.in_ok-early_refusal.ensures c.requires) refl h
          c.in_ok-ground_refusal.ensures;
      own = h;
    }

-- 6 and 7, where one of them applies
pub returns-in_err-ground_refusal : goal.returns-in_err-ground_refusal
returns-in_err-ground_refusal c =
    let a = c.args in
    let h = subst (λ (d : Description). Own d c.own_survey-v.result) c.description.ensures c.own_survey-v.ensures in
    let r : refusal_number c.from_residual-in_err-ground_refusal.result ≡ refusal (ground_tests a.limits c.own_survey-v.result.loops)
    = search rules in
    let e : refusal_number c.from_residual-in_err-ground_refusal.result ≡ refusal (vector_tests a.limits a.s.now a.k)
    = early_goes_on a.limits a.s.now a.k (early_is a.s.now a.k c.in_ok-early_refusal.ensures c.requires) refl h r in
    record { refusal_is = e; own = search rules }

-- those before, likewise
stopped : (l : Limits) (s : List ℕ) (k : ℕ) (e : Refusal) {r : ℕ} → number_of e ≡ refusal (early_tests l s k)
    → r ≡ refusal (early_tests l s k) → r ≡ refusal (vector_tests l s k)
stopped l s k e h m = early_stops l s k m (λ z. omega (arith, number-positive e, h, m, z))

pub returns-in_err-early_refusal : goal.returns-in_err-early_refusal
returns-in_err-early_refusal c =
    let a = c.args in
    let r : refusal_number c.from_residual.result ≡ refusal (early_tests (limits_of a.board) a.s.now a.k) = search rules in
    let e : number_of c.in_err-early_refusal.field-0.0 ≡ refusal (early_tests (limits_of a.board) a.s.now a.k)
    = c.in_err-early_refusal.ensures in
    record {
      refusal_is =
          stopped a.limits a.s.now a.k c.in_err-early_refusal.field-0.0 (early_is a.s.now a.k e c.requires)
          (early_is a.s.now a.k r c.requires);
      own = search rules;
    }
