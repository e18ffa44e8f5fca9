-- `step_vectors::ground_refusal` meets its contract. Assumes nothing.
use Rattle.decode.specs.Refusals.{accepts}
use Rattle.survey.specs.Stages.{applies, skips}
use Rattle.step_vectors.proofs.ground_refusal.Goals as goal

pub returns-then-instances_refused : goal.returns-then-instances_refused
returns-then-instances_refused c = applies 6 _ c.instances_refused.ensures c.if-instances_refused.true

pub returns-then-low_rank : goal.returns-then-low_rank
returns-then-low_rank c =
    skips 6 _ c.instances_refused.ensures c.if-instances_refused.false (applies 7 _ c.low_rank.ensures c.if-low_rank.true)

pub returns : goal.returns
returns c =
    skips 6 _ c.instances_refused.ensures c.if-instances_refused.false (skips 7 _ c.low_rank.ensures c.if-low_rank.false accepts)
