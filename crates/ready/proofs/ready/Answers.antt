-- `ready::ready` meets its contract: the memory's refusal, or the call on an opened memory. Assumes nothing.
use mathlib.Core.Path.{◌≡◌, refl, ◌∙◌}
use native.Mathlib.Omega.{arith}
use borrow.Author.Rules.{rules}
use Rattle.refusals.specs.Numbers.{number_of, numbered, number-positive}
use Rattle.meaning.specs.Answers.{Refused}
use Rattle.meaning.specs.Limits.{limits_of}
use Rattle.meaning.specs.Rules.{memory_of}
use Rattle.ready.specs.Call.{opened_fits, memory_refused, readies}
use Rattle.ready.proofs.ready.Goals as goal

pub ready_opened-requires : goal.ready_opened-requires
ready_opened-requires c = opened_fits _ _ c.in_ok-o.ensures.opened.opened

pub returns : goal.returns
returns c =
    let o = c.in_ok-o.ensures in
    readies _ _ _ _ o.number refl o.opened.opened c.ready_opened.ensures

pub returns-in_err-o : goal.returns-in_err-o
returns-in_err-o c =
    let a = c.args in
    let e = c.in_err-o.field-0.0 in
    let k : numbered c.from_residual.result ≡ Refused (number_of e) = search rules in
    let d = memory_refused (limits_of a.board) a.s.now a.words.now (memory_of a.waiting.now a.received.now a.state.now)
    c.in_err-o.ensures.number (λ z. omega (arith, number-positive e)) in
    (k ∙ d.0, d.1)
