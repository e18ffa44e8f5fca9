-- `result::result` meets its contract: the memory's refusal comes before the call's own, which are tested on an opened memory.
-- Assumes nothing.
use borrow.Author.Rules.{rules}
use mathlib.Core.Path.{◌≡◌, refl, ◌∙◌}
use native.Mathlib.Omega.{arith}
use Rattle.refusals.specs.Numbers.{number_of, numbered, number-positive}
use Rattle.meaning.specs.Answers.{Refused}
use Rattle.meaning.specs.Limits.{limits_of}
use Rattle.meaning.specs.Rules.{memory_of}
use Rattle.result.specs.Call.{drawable, opened_call, refused_call}
use Rattle.result.proofs.result.Goals as goal

pub open_with_lanes-requires : goal.open_with_lanes-requires
open_with_lanes-requires c = refl

pub result_opened-requires : goal.result_opened-requires
result_opened-requires c =
    let e = c.in_ok-o.ensures in
    let o = e.opened in
    (drawable o.opened, o.survey, o.spans, e.lanes)

pub returns : goal.returns
returns c =
    let a = c.args in
    opened_call _ a.s.now a.output.now (memory_of a.waiting.now a.received.now a.state.now)
    c.in_ok-o.ensures.number refl c.result_opened.ensures

pub returns-in_err-o : goal.returns-in_err-o
returns-in_err-o c =
    let a = c.args in
    let e = c.in_err-o.field-0.0 in
    let k : numbered c.from_residual.result ≡ Refused (number_of e) = search rules in
    let d = refused_call (limits_of a.board) a.s.now a.output.now (memory_of a.waiting.now a.received.now a.state.now)
    c.in_err-o.ensures.number (λ z. omega (arith, number-positive e)) in
    (k ∙ d.0, d.1)
