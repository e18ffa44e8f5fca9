-- `start::start` meets its contract: what the limits of a board accept the gauge's accept too, so the elements have places; a refused call
-- leaves the memory. Assumes nothing.
use mathlib.Core.Path.{◌≡◌, refl, sym, ◌∙◌, subst}
use native.Mathlib.Omega.{arith}
use borrow.Author.Rules.{rules}
use Rattle.refusals.specs.Numbers.{number_of, numbered, number-positive}
use Rattle.meaning.specs.Answers.{Refused}
use Rattle.geometry.specs.UpTo.{by_board}
use Rattle.element_places.specs.Order.{Placeable, placeable}
use Rattle.meaning.specs.Rules.{memory_of}
use Rattle.start.specs.Call.{accepted_call, refused_call}
use Rattle.start.proofs.start.Goals as goal

pub start_accepted-requires : goal.start_accepted-requires
start_accepted-requires c =
    let r = c.in_ok-v.ensures in
    let u = r.surveyed in (
      subst Placeable (sym u.0.description_is) (placeable _ (by_board _ _ (sym r.number))),
      u.1,
    )

pub returns : goal.returns
returns c =
    let a = c.args in
    let r = c.in_ok-v.ensures in
    accepted_call _ a.s.now a.values.now (memory_of a.waiting.now a.received.now a.state.now)
    r.number refl r.surveyed.0.description_is c.start_accepted.ensures

pub returns-in_err-v : goal.returns-in_err-v
returns-in_err-v c =
    let a = c.args in
    let e = c.in_err-v.field-0.0 in
    let k : numbered c.from_residual.result ≡ Refused (number_of e) = search rules in
    let d = refused_call _ a.s.now a.values.now (memory_of a.waiting.now a.received.now a.state.now)
    c.in_err-v.ensures.number (λ z. omega (arith, number-positive e)) in
    (k ∙ d.0, d.1)
