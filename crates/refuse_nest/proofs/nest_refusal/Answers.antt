-- `refuse_nest::nest_refusal` meets its contract: the first of the tests 6, 7, 8 and 10 that applies gives the number; one that does not
-- leaves it to those after it. Assumes nothing.
use Rattle.decode.specs.Refusals.{accepts}
use Rattle.survey.specs.Grounds.{six, seven, eight, ten}
use Rattle.survey.specs.Stages.{applies, skips}
use Rattle.refuse_nest.proofs.nest_refusal.Goals as goal

pub returns-then-instances_refused : goal.returns-then-instances_refused
returns-then-instances_refused c =
    applies 6 _ (six c.requires.1 c.args.limits c.instances_refused.ensures) c.if-instances_refused.true

pub returns-then-low_rank : goal.returns-then-low_rank
returns-then-low_rank c =
    skips 6 _ (six c.requires.1 c.args.limits c.instances_refused.ensures) c.if-instances_refused.false
    (applies 7 _ (seven c.requires.1 c.low_rank.ensures) c.if-low_rank.true)

pub returns-then-still : goal.returns-then-still
returns-then-still c =
    skips 6 _ (six c.requires.1 c.args.limits c.instances_refused.ensures) c.if-instances_refused.false
    (skips 7 _ (seven c.requires.1 c.low_rank.ensures) c.if-low_rank.false
    (applies 8 _ (eight c.requires.1 c.still.ensures) c.if-still.true))

-- none of 6, 7 and 8 applies: 10 decides
pub returns-then-processes_refused : goal.returns-then-processes_refused
returns-then-processes_refused c =
    skips 6 _ (six c.requires.1 c.args.limits c.instances_refused.ensures) c.if-instances_refused.false
    (skips 7 _ (seven c.requires.1 c.low_rank.ensures) c.if-low_rank.false
    (skips 8 _ (eight c.requires.1 c.still.ensures) c.if-still.false
    (applies 10 _ (ten c.requires.1 c.args.limits c.processes_refused.ensures) c.if-processes_refused.true)))

pub returns : goal.returns
returns c =
    skips 6 _ (six c.requires.1 c.args.limits c.instances_refused.ensures) c.if-instances_refused.false
    (skips 7 _ (seven c.requires.1 c.low_rank.ensures) c.if-low_rank.false
    (skips 8 _ (eight c.requires.1 c.still.ensures) c.if-still.false
    (skips 10 _ (ten c.requires.1 c.args.limits c.processes_refused.ensures) c.if-processes_refused.false accepts)))

pub still-requires : goal.still-requires
still-requires c = (c.requires.0.step, c.requires.1.increment_small)
