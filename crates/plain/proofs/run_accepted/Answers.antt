-- `plain::run_accepted` meets its contract: where the lengths are right the output is the values, and then what the loops leave.
-- Assumes nothing.
use mathlib.Core.Path.{◌≡◌, refl, sym, ◌∙◌, ap, subst}
use native.Mathlib.Omega.{arith}
use lib.ListN.{length}
use borrow.Author.Rules.{rules}
use Rattle.refusals.specs.Numbers.{number_of, numbered, number-positive}
use Rattle.meaning.specs.Answers.{Answer, Refused}
use Rattle.plain.specs.Call.{Called, own_is, lengths_are, run_done, run_refused}
use Rattle.plain.proofs.run_accepted.Goals as goal

pub element_count-e-requires : goal.element_count-e-requires
element_count-e-requires c = c.requires.few

pub fill_output-requires : goal.fill_output-requires
fill_output-requires c =
    let a = c.args in
    let d = a.v.description in
    let n = own_is d (length a.values.now) (length a.output.now) c.element_count-e.ensures.0 c.in_ok-of_plain.ensures in
    let l = lengths_are d (length a.values.now) (length a.output.now) n refl in
    l.1 ∙ sym l.0

pub run_loops-requires : goal.run_loops-requires
run_loops-requires c =
    let a = c.args in
    let d = a.v.description in
    let n = own_is d (length a.values.now) (length a.output.now) c.element_count-e.ensures.0 c.in_ok-of_plain.ensures in
    let l = lengths_are d (length a.values.now) (length a.output.now) n refl in
    (c.requires, ap length c.fill_output.ensures ∙ l.0)

pub returns : goal.returns
returns c =
    let a = c.args in
    let d = a.v.description in
    let n = own_is d (length a.values.now) (length a.output.now) c.element_count-e.ensures.0 c.in_ok-of_plain.ensures in
    run_done d a.values.now a.output.now n refl c.fill_output.ensures c.run_loops.ensures

pub returns-in_err-of_plain : goal.returns-in_err-of_plain
returns-in_err-of_plain c =
    let a = c.args in
    let d = a.v.description in
    let e = c.in_err-of_plain.field-0.0 in
    let n = own_is d (length a.values.now) (length a.output.now) c.element_count-e.ensures.0 c.in_err-of_plain.ensures in
    let k : numbered c.from_residual.result ≡ Refused (number_of e) = search rules in
    subst (λ (r : Answer). Called d a.values.now a.output.now r a.output.now) (sym k)
    (run_refused d a.values.now a.output.now n (λ z. omega (arith, number-positive e)))
