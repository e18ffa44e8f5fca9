-- `refuse_stream::late_refusal` meets its contract: the first of the tests 16 and 17 that applies gives the number. Assumes nothing.
use Rattle.decode.specs.Refusals.{accepts}
use Rattle.survey.specs.Stages.{applies, skips}
use Rattle.refuse_stream.proofs.late_refusal.Goals as goal

pub returns-then-loading_refused : goal.returns-then-loading_refused
returns-then-loading_refused c = applies 16 _ c.loading_refused.ensures c.if-loading_refused.true

pub returns-then-elements_refused : goal.returns-then-elements_refused
returns-then-elements_refused c =
    skips 16 _ c.loading_refused.ensures c.if-loading_refused.false (applies 17 _ c.elements_refused.ensures c.if-elements_refused.true)

pub returns : goal.returns
returns c =
    skips 16 _ c.loading_refused.ensures c.if-loading_refused.false
    (skips 17 _ c.elements_refused.ensures c.if-elements_refused.false accepts)
