-- `result::result_opened` meets its contract: where neither 25 nor 28 applies the output has a word for each element, so it can be filled;
-- else it stays. Assumes nothing.
use mathlib.Core.Path.{◌≡◌, refl, sym, subst}
use native.Mathlib.Omega.{arith}
use borrow.Author.Rules.{rules}
use Rattle.refusals.specs.Numbers.{number_of, numbered, number-positive}
use Rattle.meaning.specs.Answers.{Answer, Refused}
use Rattle.result.specs.Out.{asked}
use Rattle.result.specs.Call.{Called, fillable, call_done, call_refused}
use Rattle.result.proofs.result_opened.Goals as goal

pub all_out-out-requires : goal.all_out-out-requires
all_out-out-requires c = asked c.requires.0.rows

pub fill_output-requires : goal.fill_output-requires
fill_output-requires c =
    let v = c.requires.1 in
    let f = fillable c.requires.0 c.args.output.now c.all_out-out.ensures c.in_ok-of_result.ensures refl v.description_is in
    (f.0, f.1, f.2, rw v.description_is c.requires.2, rw v.description_is c.requires.3)

pub returns : goal.returns
returns c =
    call_done c.requires.0 c.args.output.now c.all_out-out.ensures c.in_ok-of_result.ensures refl
    c.requires.1.description_is c.fill_output.ensures

pub returns-in_err-of_result : goal.returns-in_err-of_result
returns-in_err-of_result c =
    let a = c.args in
    let e = c.in_err-of_result.field-0.0 in
    let k : numbered c.from_residual.result ≡ Refused (number_of e) = search rules in
    subst (λ (r : Answer). Called a.s.now a.received.now a.state.now a.output.now r a.output.now) (sym k)
    (call_refused c.requires.0 a.output.now c.all_out-out.ensures c.in_err-of_result.ensures (λ z. omega (arith, number-positive e)))
