-- `step::step` meets its contract: the memory's refusal comes before the call's own, and the step is tested and done only on an opened
-- memory. Assumes nothing.
use mathlib.Core.Path.{◌≡◌, refl, ◌∙◌}
use native.Mathlib.Omega.{arith}
use borrow.Author.Rules.{rules}
use Rattle.refusals.specs.Numbers.{number_of, numbered, number-positive}
use Rattle.meaning.specs.Answers.{Refused}
use Rattle.meaning.specs.Limits.{limits_of}
use Rattle.meaning.specs.Rules.{memory_of}
use Rattle.step.specs.Call.{opened_call, refused_call}
use Rattle.step.proofs.step.Goals as goal

pub step_opened-requires : goal.step_opened-requires
step_opened-requires c = let o = c.in_ok-o.ensures.opened in (o.opened, o.survey, o.spans)

pub returns : goal.returns
returns c =
    let a = c.args in
    opened_call _ a.s.now a.kind a.number a.stream (memory_of a.waiting.now a.received.now a.state.now)
    c.in_ok-o.ensures.number refl c.step_opened.ensures

pub returns-in_err-o : goal.returns-in_err-o
returns-in_err-o c =
    let a = c.args in
    let e = c.in_err-o.field-0.0 in
    let k : numbered c.from_residual.result ≡ Refused (number_of e) = search rules in
    let d = refused_call (limits_of a.board) a.s.now a.kind a.number a.stream (memory_of a.waiting.now a.received.now a.state.now)
    c.in_err-o.ensures.number (λ z. omega (arith, number-positive e)) in
    (k ∙ d.0, d.1)
