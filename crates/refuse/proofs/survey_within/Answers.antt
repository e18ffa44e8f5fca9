-- `refuse::survey_within` meets its contract: where none of 33 and 1 to 10 applies the streams' tests decide, and the words are in range
-- and the processes' filled; else that refusal stands. Assumes nothing.
use mathlib.Core.Path.{◌≡◌, refl, sym, ◌∙◌, ap, subst}
use native.Mathlib.Omega.{arith}
use Rattle.refusals.specs.Numbers.{number_of, refusal_number, number-positive}
use Rattle.meaning.specs.declared.Description.{Description}
use Rattle.meaning.specs.Tests.{refusal}
use Rattle.meaning.specs.Description.{streams_of}
use Rattle.meaning.specs.Accept.{tests_from}
use Rattle.meaning.specs.Walk.{walk_refusal}
use Rattle.decode.specs.Ranged.{Ranged}
use Rattle.survey.specs.Stages.{walk_goes_on, walk_stops}
use Rattle.survey.specs.Accepted.{walk_within}
use Rattle.walkable.specs.Walkable.{walkable}
use borrow.Author.Rules.{rules}
use Rattle.refuse.proofs.survey_within.Goals as goal

pub walked_refusal-requires : goal.walked_refusal-requires
walked_refusal-requires c =
    let l = c.args.limits in
    let b = c.args.s.now in
    let h = c.in_ok-v.ensures in
    let k = h.surveyed in
    let e = sym h.number in (
      subst Ranged (sym k.0.description_is) (walk_within l b e).0.ranged,
      walkable c.requires k.0 e,
      k.1,
    )

pub returns : goal.returns
returns c =
    let h = c.in_ok-v.ensures in
    let k = h.surveyed in
    record {
      number = walk_goes_on c.args.limits c.args.s.now h.number refl
          (c.in_ok-walked_refusal.ensures
          ∙ ap (λ (d : Description). refusal (tests_from c.args.limits d 0 (streams_of d))) k.0.description_is);
      surveyed = k;
    }

pub returns-in_err-v-clause-number : goal.returns-in_err-v-clause-number
returns-in_err-v-clause-number c =
    let k : refusal_number c.from_residual.result ≡ walk_refusal c.args.limits c.args.s.now = search rules in
    let h : number_of c.in_err-v.field-0.0 ≡ walk_refusal c.args.limits c.args.s.now = c.in_err-v.ensures.number in
    walk_stops c.args.limits c.args.s.now k (λ z. omega (arith, number-positive c.in_err-v.field-0.0))

pub returns-in_err-walked_refusal-clause-number : goal.returns-in_err-walked_refusal-clause-number
returns-in_err-walked_refusal-clause-number c =
    let h = c.in_ok-v.ensures in
    let d = c.in_ok-v.v.description in
    let k : refusal_number c.from_residual-in_err-walked_refusal.result ≡ refusal (tests_from c.args.limits d 0 (streams_of d))
    = search rules in
    walk_goes_on c.args.limits c.args.s.now h.number refl
    (k ∙ ap (λ (d : Description). refusal (tests_from c.args.limits d 0 (streams_of d))) h.surveyed.0.description_is)
