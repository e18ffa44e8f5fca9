-- `pipes::length_at` meets its contract: the elements of the pipe are the first instance's and those that one reaches back and on from it.
-- Assumes nothing.
use native.Mathlib.Omega.{arith}
use Rattle.pipes.specs.Elements.{going_against, going_first, length_moving}
use Rattle.pipes.proofs.length_at.Goals as goal

pub reach_of-requires : goal.reach_of-requires
reach_of-requires c = let p = c.requires in going_against p.0 p.1 c.first_element-e.ensures

pub reach_of-requires-2 : goal.reach_of-requires-2
reach_of-requires-2 c = let p = c.requires in
    going_first p.0 p.1 c.first_element-e.ensures

pub returns : goal.returns
returns c =
    let p = c.requires in (
      length_moving p.0 p.1 c.first_element-e.ensures c.reach_of.ensures.0 c.reach_of-2.ensures.0,
      omega (arith, c.reach_of.ensures.1, c.reach_of-2.ensures.1),
    )
