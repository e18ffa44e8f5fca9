-- `plain::plain_run` meets its contract: what a board accepts the gauge accepts too, and then the table has room for every instance.
-- Assumes nothing.
use mathlib.Core.Path.{◌≡◌, sym, ◌∙◌, subst}
use native.Mathlib.Omega.{arith}
use borrow.Author.Rules.{rules}
use Rattle.refusals.specs.Numbers.{number_of, numbered, number-positive}
use Rattle.meaning.specs.Answers.{Refused}
use Rattle.geometry.specs.UpTo.{by_board}
use Rattle.written_order.specs.Places.{Fitting}
use Rattle.plain.specs.Call.{accepted_fitting, accepted_call, refused_call}
use Rattle.plain.proofs.plain_run.Goals as goal

pub run_accepted-requires : goal.run_accepted-requires
run_accepted-requires c =
    let h = c.in_ok-v.ensures in
    subst Fitting (sym h.surveyed.0.description_is) (accepted_fitting _ (by_board _ _ (sym h.number)))

pub returns : goal.returns
returns c =
    let h = c.in_ok-v.ensures in
    let a = c.args in
    accepted_call _ a.s.now a.values.now a.output.now (sym h.number) h.surveyed.0.description_is c.run_accepted.ensures

pub returns-in_err-v : goal.returns-in_err-v
returns-in_err-v c =
    let a = c.args in
    let e = c.in_err-v.field-0.0 in
    let k : numbered c.from_residual.result ≡ Refused (number_of e) = search rules in
    let d = refused_call _ a.s.now a.values.now a.output.now c.in_err-v.ensures.number (λ z. omega (arith, number-positive e)) in
    (k ∙ d.0, d.1)
