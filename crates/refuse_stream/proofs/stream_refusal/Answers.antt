-- `refuse_stream::stream_refusal` meets its contract: the first of the tests 11 and 12 that applies gives the number; where neither does,
-- the tests 13 to 17 give it. Assumes nothing.
use Rattle.survey.specs.Stages.{move_tests, applies, skips}
use Rattle.refuse_stream.proofs.stream_refusal.Goals as goal

pub returns-then-rank_refused : goal.returns-then-rank_refused
returns-then-rank_refused c = applies 11 _ c.rank_refused.ensures c.if-rank_refused.true

pub returns-then-line_refused : goal.returns-then-line_refused
returns-then-line_refused c =
    skips 11 _ c.rank_refused.ensures c.if-rank_refused.false (applies 12 _ c.line_refused.ensures c.if-line_refused.true)

pub returns : goal.returns
returns c =
    let x = c.args in
    skips 11 _ c.rank_refused.ensures c.if-rank_refused.false
    (skips 12 (move_tests x.limits x.f.nest x.written x.f.stream) c.line_refused.ensures c.if-line_refused.false
    c.move_refusal.ensures)
