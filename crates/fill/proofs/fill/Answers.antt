-- `fill::fill` meets its contract. Assumes nothing.
use mathlib.Core.Path.{◌≡◌, sym, ◌∙◌}
use native.Mathlib.Omega.{arith}
use borrow.Author.Rules.{rules}
use Rattle.refusals.specs.Numbers.{number_of, numbered, number-positive}
use Rattle.meaning.specs.Answers.{Refused}
use Rattle.fill.specs.Call.{long_enough, filled_call, declined_call}
use Rattle.fill.proofs.fill.Goals as goal

pub returns-in_err-refusal : goal.returns-in_err-refusal
returns-in_err-refusal c =
    let a = c.args in
    let e = c.in_err-refusal.field-0.0 in
    let k : numbered c.from_residual.result ≡ Refused (number_of e) = search rules in
    let d = declined_call a.seed a.n a.list.now c.in_err-refusal.ensures (λ z. omega (arith, number-positive e)) in (k ∙ d.0, d.1)

pub fill_places-requires : goal.fill_places-requires
fill_places-requires c = let a = c.args in long_enough a.seed a.n a.list.now (sym c.in_ok-refusal.ensures)

pub returns : goal.returns
returns c = let a = c.args in filled_call a.seed a.n a.list.now (sym c.in_ok-refusal.ensures) c.fill_places.ensures
