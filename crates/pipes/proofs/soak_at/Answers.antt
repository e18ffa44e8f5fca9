-- `pipes::soak_at` meets its contract. Assumes nothing.
use Rattle.pipes.specs.Elements.{going_against, soak_moving}
use Rattle.pipes.proofs.soak_at.Goals as goal

pub reach_of-requires : goal.reach_of-requires
reach_of-requires c = let p = c.requires in going_against p.0 p.1 c.first_element.ensures

pub returns : goal.returns
returns c = let p = c.requires in
    soak_moving p.0 p.1 c.first_element.ensures c.reach_of.ensures.0
