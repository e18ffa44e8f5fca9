-- `opening::open_within` meets its contract: the memory's refusals come after the description's, and what limits up to the gauge's accept
-- the gauge's accept too. Assumes nothing.
use mathlib.Core.Path.{◌≡◌, sym, ◌∙◌, subst}
use native.Mathlib.Omega.{arith}
use borrow.Author.Rules.{rules}
use Rattle.std.proofs.lemmas.Result.{IfOk-weaker}
use Rattle.refusals.specs.Numbers.{number_of, refusal_number, number-positive}
use Rattle.meaning.specs.Rules.{memory_of}
use Rattle.geometry.specs.UpTo.{by_gauge}
use Rattle.opening.specs.Opening.{Grounds, grounds, accepted_number, refused_number, opened, lanes_are}
use Rattle.opening.proofs.open_within.Goals as goal

pub open_accepted-requires : goal.open_accepted-requires
open_accepted-requires c =
    let p = c.requires in
    let e = c.in_ok-v.ensures in
    let h = e.surveyed in (
      subst Grounds (sym h.0.description_is) (grounds _ (by_gauge p.0 _ (sym e.number))),
      h.1,
      p.1,
    )

pub returns : goal.returns
returns c =
    let a = c.args in
    let s = a.s.now in
    let M = memory_of a.waiting.now a.received.now a.state.now in
    let e = c.in_ok-v.ensures in
    let h = e.surveyed in
    let k = c.open_accepted.ensures in
    record {
      number = accepted_number a.limits s M (sym e.number) h.0.description_is k.number;
      opened = IfOk-weaker _ _ _ (λ _ o. opened c.requires.0 s M (sym e.number) h.0 h.1 o) k.opened;
      lanes = IfOk-weaker _ _ _ (λ _ o. lanes_are h.0 o) k.opened;
    }

pub returns-in_err-v-clause-number : goal.returns-in_err-v-clause-number
returns-in_err-v-clause-number c =
    let a = c.args in
    let e = c.in_err-v.field-0.0 in
    let k : refusal_number c.from_residual.result ≡ number_of e = search rules in
    k ∙ refused_number a.limits a.s.now (memory_of a.waiting.now a.received.now a.state.now) c.in_err-v.ensures.number
    (λ z. omega (arith, number-positive e))
