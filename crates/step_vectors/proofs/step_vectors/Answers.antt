-- `step_vectors::step_vectors` meets its contract. Assumes nothing.
use mathlib.Core.Path.{◌≡◌, sym, ◌∙◌, ap, subst}
use native.Mathlib.Omega.{arith}
use Rattle.refusals.specs.Numbers.{number_of, numbered, number-positive}
use Rattle.meaning.specs.declared.Limits.{Limits}
use Rattle.meaning.specs.Answers.{Done, Refused}
use Rattle.meaning.specs.Tests.{refusal}
use Rattle.meaning.specs.StepVectors.{vector_tests, step_vectors}
use Rattle.step_vectors.specs.Tally.{tally_of, Tallying}
use Rattle.step_vectors.specs.Call.{loops_are, declined_call, laid, tallying, counted_call}
use borrow.Author.Rules.{rules}
use Rattle.step_vectors.proofs.step_vectors.Goals as goal

pub prospect_of-p-requires : goal.prospect_of-p-requires
prospect_of-p-requires c =
    let a = c.args in
    let u = c.limits_of-limits.ensures.1 in
    let v = c.in_ok-v.ensures in
    (laid c.limits_of-limits.result a.s.now a.k a.counts.now (sym v.refusal_is) u v.own, u)

pub tally-requires : goal.tally-requires
tally-requires c =
    let a = c.args in
    let v = c.in_ok-v.ensures in
    subst (Tallying c.prospect_of-p.result a.k) (sym (loops_are a.s.now v.own))
    (tallying c.limits_of-limits.result a.s.now a.k a.counts.now (sym v.refusal_is) v.own c.prospect_of-p.ensures)

pub returns : goal.returns
returns c =
    let a = c.args in
    let s = a.s.now in
    let lent = a.counts.now in
    let v = c.in_ok-v.ensures in
    subst (λ (l : Limits). (Done ≡ (step_vectors l s a.k lent).answer) × (c.tally.result ≡ (step_vectors l s a.k lent).counts))
    c.limits_of-limits.ensures.0
    (counted_call c.limits_of-limits.result s a.k lent (sym v.refusal_is) v.own c.prospect_of-p.ensures
    (c.tally.ensures ∙ ap (tally_of c.prospect_of-p.result a.k) (loops_are s v.own)))

pub returns-in_err-v : goal.returns-in_err-v
returns-in_err-v c =
    let a = c.args in
    let s = a.s.now in
    let lent = a.counts.now in
    let l = c.limits_of-limits.result in
    let e = c.in_err-v.field-0.0 in
    let h : number_of e ≡ refusal (vector_tests l s a.k) = c.in_err-v.ensures.refusal_is in
    let r : numbered c.from_residual.result ≡ Refused (number_of e) = search rules in
    subst
    (λ (l : Limits). (numbered c.from_residual.result ≡ (step_vectors l s a.k lent).answer) × (lent ≡ (step_vectors l s a.k lent).counts))
    c.limits_of-limits.ensures.0
    (rw r (declined_call l s a.k lent h (λ z. omega (arith, number-positive e))))
