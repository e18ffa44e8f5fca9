-- `pipes::drain_at` meets its contract. Assumes nothing.
use Rattle.pipes.specs.Elements.{going_last, drain_moving}
use Rattle.pipes.proofs.drain_at.Goals as goal

pub reach_of-requires : goal.reach_of-requires
reach_of-requires c = let p = c.requires in going_last p.0 p.1 c.last_element.ensures

pub returns : goal.returns
returns c = let p = c.requires in
    drain_moving p.0 p.1 c.last_element.ensures c.reach_of.ensures.0
