-- `survey::survey_of` meets its contract. Assumes nothing.
use Rattle.survey.specs.InRange.{nest_bounded}
use Rattle.survey.proofs.survey_of.Goals as goal

pub ground_of-ground-requires : goal.ground_of-ground-requires
ground_of-ground-requires c = nest_bounded c.requires.0.nest

pub flows_of-requires : goal.flows_of-requires
flows_of-requires c = (c.requires.0, c.ground_of-ground.ensures)

pub invariant_of-result : goal.invariant_of-result
invariant_of-result c =
    record { surveyed = record { in_use = c.requires.1; ground = c.ground_of-ground.ensures; flow = c.flows_of.ensures } }
