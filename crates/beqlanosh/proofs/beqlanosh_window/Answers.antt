-- `beqlanosh::beqlanosh_window` meets its contract: only where the call is not declined are the lent words changed. Assumes nothing.
use mathlib.Core.Path.{◌∙◌}
use native.Mathlib.Omega.{arith}
use Rattle.refusals.specs.Numbers.{number-positive}
use Rattle.meaning.specs.Limits.{limits_of}
use Rattle.window.specs.Pieces.{number_is}
use Rattle.beqlanosh.specs.Kept.{window_left, window_declined}
use borrow.Author.Rules.{rules}
use Rattle.beqlanosh.proofs.beqlanosh_window.Goals as goal

pub returns-in-Ok : goal.returns-in-Ok
returns-in-Ok c =
    let a = c.args in
    let e = c.in-Ok.ensures in
    let q = number_is (limits_of a.board) a.bytes.now a.pipe a.side a.waiting.now a.received.now e.number in
    (q, window_left a.bytes.now a.pipe a.answer.now e.part.0 q)

pub returns-in-Err : goal.returns-in-Err
returns-in-Err c =
    let a = c.args in
    let q = number_is (limits_of a.board) a.bytes.now a.pipe a.side a.waiting.now a.received.now c.in-Err.ensures.number in
    (c.number.ensures ∙ q, window_declined a.bytes.now a.pipe a.answer.now (λ z. omega (arith, number-positive c.in-Err.refusal, q ∙ z)))
