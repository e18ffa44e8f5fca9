-- `accept::accept` meets its contract: what a board accepts the gauge accepts too, and so it is as small as the figures ask.
-- Assumes nothing.
use borrow.Author.Rules.{rules}
use mathlib.Core.Path.{◌≡◌, sym, ◌∙◌, ap, subst}
use native.Mathlib.Omega.{arith}
use Rattle.refusals.specs.Numbers.{number_of, numbered, number-positive}
use Rattle.meaning.specs.declared.Figures.{Figures}
use Rattle.meaning.specs.declared.Divisors.{Divisors}
use Rattle.meaning.specs.Answers.{Refused}
use Rattle.meaning.specs.Accept.{figures, divisors}
use Rattle.geometry.specs.UpTo.{by_board}
use Rattle.figures.specs.Shares.{Described, described}
use Rattle.accept.specs.Call.{accepts, refuses}
use Rattle.accept.proofs.accept.Goals as goal

pub numbers_of-requires : goal.numbers_of-requires
numbers_of-requires c =
    let a = c.args in
    let e = c.in_ok-v.ensures in
    let h = e.surveyed in (
      subst Described (sym h.0.description_is) (described a.s.now (by_board a.board a.s.now (sym e.number))),
      h.1,
    )

pub returns : goal.returns
returns c =
    let e = c.in_ok-v.ensures in
    let d = e.surveyed.0.description_is in
    let n = c.numbers_of.ensures in
    accepts _ c.args.s.now (sym e.number) (ap (λ (v : Figures × Divisors). v.0) n ∙ ap figures d)
    (ap (λ (v : Figures × Divisors). v.1) n ∙ ap divisors d)

pub returns-in_err-v : goal.returns-in_err-v
returns-in_err-v c =
    let e = c.in_err-v.field-0.0 in
    let k : numbered c.from_residual.result ≡ Refused (number_of e) = search rules in
    k ∙ refuses _ c.args.s.now c.in_err-v.ensures.number (λ z. omega (arith, number-positive e))
