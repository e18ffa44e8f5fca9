-- `refuse_stream::move_refusal` meets its contract: the first of the tests 13, 14 and 15 that applies gives the number; where none does,
-- the tests 16 and 17 give it. Assumes nothing.
use Rattle.survey.specs.Stages.{applies, skips}
use Rattle.refuse_stream.proofs.move_refusal.Goals as goal

pub returns-then-move_refused : goal.returns-then-move_refused
returns-then-move_refused c = applies 13 _ c.move_refused.ensures c.if-move_refused.true

pub returns-then-hop_refused : goal.returns-then-hop_refused
returns-then-hop_refused c =
    skips 13 _ c.move_refused.ensures c.if-move_refused.false (applies 14 _ c.hop_refused.ensures c.if-hop_refused.true)

pub returns-then-order_refused : goal.returns-then-order_refused
returns-then-order_refused c =
    skips 13 _ c.move_refused.ensures c.if-move_refused.false
    (skips 14 _ c.hop_refused.ensures c.if-hop_refused.false (applies 15 _ c.order_refused.ensures c.if-order_refused.true))

pub returns : goal.returns
returns c =
    skips 13 _ c.move_refused.ensures c.if-move_refused.false
    (skips 14 _ c.hop_refused.ensures c.if-hop_refused.false
    (skips 15 _ c.order_refused.ensures c.if-order_refused.false c.late_refusal.ensures))
