-- `window::piece_within` meets its contract: what the limits accept the gauge's accept too, so the pipe can be looked for. Assumes nothing.
use borrow.Author.Rules.{rules}
use mathlib.Core.Path.{◌≡◌, sym, ◌∙◌, subst}
use native.Mathlib.Omega.{arith}
use Rattle.std.specs.Prelude.{IfOk}
use Rattle.refusals.specs.Numbers.{number_of, refusal_number, number-positive}
use Rattle.meaning.specs.declared.Description.{Description}
use Rattle.geometry.specs.UpTo.{by_gauge}
use Rattle.window.specs.Pieces.{Windowed, Within, windowed, piece_of, accepted_number, refused_number}
use Rattle.window.proofs.piece_within.Goals as goal

pub accepted_piece-requires : goal.accepted_piece-requires
accepted_piece-requires c =
    let r = c.in_ok-v.ensures in
    let u = r.surveyed in (
      subst Windowed (sym u.0.description_is) (windowed _ (by_gauge c.requires _ (sym r.number))),
      u.1,
    )

pub returns : goal.returns
returns c =
    let a = c.args in
    let r = c.in_ok-v.ensures in
    let d = r.surveyed.0.description_is in
    let p = c.accepted_piece.ensures in
    record {
      number = accepted_number a.limits a.s.now a.pipe a.side a.waiting a.received (sym r.number) d p.number;
      part = subst (λ (d : Description). IfOk c.accepted_piece.result (λ p. (p ≡ piece_of d a.pipe) × Within p a.waiting a.received))
          d p.part;
    }

pub returns-in_err-v-clause-number : goal.returns-in_err-v-clause-number
returns-in_err-v-clause-number c =
    let a = c.args in
    let e = c.in_err-v.field-0.0 in
    let k : refusal_number c.from_residual.result ≡ number_of e = search rules in
    k ∙ refused_number a.limits a.s.now a.pipe a.side a.waiting a.received c.in_err-v.ensures.number (λ z. omega (arith, number-positive e))
