-- `make::make` meets its contract. Assumes nothing.
use mathlib.Core.Path.{◌≡◌, sym, ◌∙◌}
use native.Mathlib.Omega.{arith}
use borrow.Author.Rules.{rules}
use Rattle.refusals.specs.Numbers.{number_of, numbered, number-positive}
use Rattle.meaning.specs.Answers.{Refused}
use Rattle.make.specs.Call.{fitting, made_call, declined_call}
use Rattle.make.proofs.make.Goals as goal

pub returns-in_err-fit : goal.returns-in_err-fit
returns-in_err-fit c =
    let a = c.args in
    let e = c.in_err-fit.field-0.0 in
    let k : numbered c.from_residual.result ≡ Refused (number_of e) = search rules in
    let d = declined_call a.seed a.z a.out.now c.in_err-fit.ensures.number (λ z. omega (arith, number-positive e)) in (k ∙ d.0, d.1)

pub put_words-requires : goal.put_words-requires
put_words-requires c =
    let a = c.args in rw c.in_ok-fit.ensures.same (fitting a.seed a.z a.out.now (sym c.in_ok-fit.ensures.number)).1

pub returns : goal.returns
returns c =
    let a = c.args in
    let z = c.in_ok-fit.ensures.same in
    made_call a.seed a.z a.out.now (sym c.in_ok-fit.ensures.number) (rw z at c.words.ensures.0) (rw z at c.put_words.ensures)
