-- `walkable::nest_survey` meets its contract: the tests of the loops count only where none of 33 and 1 to 5 applies, and then the words are
-- in range. Assumes nothing.
use mathlib.Core.Path.{◌≡◌, refl, sym, ◌∙◌, ap, subst}
use mathlib.Core.List.{List}
use native.Mathlib.Omega.{arith}
use Rattle.refusals.specs.declared.Refusal.{Refusal}
use Rattle.refusals.specs.Numbers.{number_of, refusal_number, number-positive}
use Prim.Native.Nat.{ℕ}
use Rattle.meaning.specs.declared.Limits.{Limits}
use Rattle.meaning.specs.declared.Description.{Description}
use Rattle.meaning.specs.Tests.{refusal}
use Rattle.meaning.specs.Description.{description_of}
use Rattle.meaning.specs.Walk.{walk_refusal}
use Rattle.geometry.specs.Tests.{numbered}
use Rattle.numbering.specs.Ranges.{Bounded}
use Rattle.survey.specs.InRange.{nest_bounded}
use Rattle.survey.specs.Accepted.{early_decoded}
use Rattle.survey.specs.Surveys.{may_survey}
use Rattle.survey.specs.Stages.{layout_tests, early_tests, walk_tests_lem, goes_on, stops}
use borrow.Author.Rules.{rules}
use Rattle.walkable.proofs.nest_survey.Goals as goal

pub description-requires : goal.description-requires
description-requires c = (early_decoded c.args.limits c.args.s.now (sym c.in_ok-early_refusal.ensures)).sized

pub survey_of-v-requires : goal.survey_of-v-requires
survey_of-v-requires c = may_survey (early_decoded c.args.limits c.args.s.now (sym c.in_ok-early_refusal.ensures)) c.description.ensures

pub nest_refusal-requires : goal.nest_refusal-requires
nest_refusal-requires c = (
  subst (λ (d : Description). Bounded d.nest) (sym (c.survey_of-v.ensures ∙ c.description.ensures))
      (nest_bounded (early_decoded c.args.limits c.args.s.now (sym c.in_ok-early_refusal.ensures)).ranged.nest),
  c.survey_of-v.result.surveyed.ground,
)

-- the tests of the loops after those before them, by the refusal of the loops
loops : (l : Limits) (s : List ℕ) {d : Description} {r : ℕ} → 0 ≡ refusal (early_tests l s) → d ≡ description_of s
    → r ≡ refusal (layout_tests l d.nest) → r ≡ walk_refusal l s
unfolding numbered
loops l s z h e =
    goes_on (early_tests l s) (layout_tests l (description_of s).nest) tt z refl
    (e ∙ ap (λ (d : Description). refusal (layout_tests l d.nest)) h)
    ∙ walk_tests_lem l s

pub returns : goal.returns
returns c =
    let h = c.survey_of-v.ensures ∙ c.description.ensures in
    record {
      number = loops c.args.limits c.args.s.now c.in_ok-early_refusal.ensures h c.in_ok-nest_refusal.ensures;
      surveyed = record { description_is = h };
    }

-- those before them, where one applies
stopped : (l : Limits) (s : List ℕ) (e : Refusal) {r : ℕ} → number_of e ≡ refusal (early_tests l s) → r ≡ refusal (early_tests l s)
    → r ≡ walk_refusal l s
stopped l s e h k =
    stops (early_tests l s) (layout_tests l (description_of s).nest) k (λ z. omega (arith, number-positive e, h, k, z))
    ∙ walk_tests_lem l s

pub returns-in_err-early_refusal-clause-number : goal.returns-in_err-early_refusal-clause-number
returns-in_err-early_refusal-clause-number c =
    let k : refusal_number c.from_residual.result ≡ refusal (early_tests c.args.limits c.args.s.now) = search rules in
    stopped c.args.limits c.args.s.now c.in_err-early_refusal.field-0.0 c.in_err-early_refusal.ensures k

pub returns-in_err-nest_refusal-clause-number : goal.returns-in_err-nest_refusal-clause-number
returns-in_err-nest_refusal-clause-number c =
    let n = c.survey_of-v.result.description.nest in
    let e : refusal_number c.from_residual-in_err-nest_refusal.result ≡ refusal (layout_tests c.args.limits n) = search rules in
    loops c.args.limits c.args.s.now c.in_ok-early_refusal.ensures (c.survey_of-v.ensures ∙ c.description.ensures) e
