-- `demand3::make_call` meets its contract, by the kind of the call. Assumes nothing.
use mathlib.Core.Path.{refl, ◌∙◌, ap}
use native.Mathlib.Omega.{arith}
use borrow.Author.Tests.{ne_eqb}
use borrow.Author.Rules.{rules}
use Rattle.answer_words.specs.Kept.{answer_words, run_words, readiness_words}
use Rattle.demand3.specs.Play.{kind_of, same_made}
use Rattle.demand3.proofs.make_call.Goals as goal

pub returns-in-0 : goal.returns-in-0
returns-in-0 c =
    rw c.in-0.is
    (same_made c.step.ensures.1 refl refl refl (c.of_answer.ensures ∙ answer_words c.step.result c.step.ensures.0))

pub returns-in-1 : goal.returns-in-1
returns-in-1 c =
    rw c.in-1.is
    (same_made c.run.ensures.1 refl refl refl (c.of_values.ensures ∙ run_words c.run.result c.run.ensures.0))

pub returns-in-2 : goal.returns-in-2
returns-in-2 c =
    rw c.in-2.is
    (same_made refl c.ready.ensures.1 refl refl (c.of_values-in-2.ensures ∙ readiness_words c.ready.result c.ready.ensures.0))

pub returns-in-3 : goal.returns-in-3
returns-in-3 c =
    rw c.in-3.is (same_made refl refl refl c.see.ensures.0 c.see.ensures.1)

pub returns-in_default : goal.returns-in_default
returns-in_default c =
    let a = c.args in
    let k = kind_of a.calls.now a.k in
    let h = c.in_default.in_default-own.rest in
    rw (ne_eqb k 0 (omega (arith, h)), ne_eqb k 1 (omega (arith, h)), ne_eqb k 2 (omega (arith, h)), ne_eqb k 3 (omega (arith, h)))
    (same_made refl refl c.result.ensures.1 refl (c.of_answer-in_default.ensures ∙ answer_words c.result.result c.result.ensures.0))
