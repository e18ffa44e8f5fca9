-- `element_places::process_on` meets its contract. Assumes nothing.
use Rattle.lanes.specs.Flow.{spanning}
use Rattle.element_places.specs.Lines.{way_small, at_box, at_number}
use Rattle.element_places.proofs.process_on.Goals as goal

pub moved-requires : goal.moved-requires
moved-requires c = let p = c.requires in (p.small, way_small p.flows, p.few)

pub row_number-requires : goal.row_number-requires
row_number-requires c = let p = c.requires in (spanning p.flows, at_box p c.moved.ensures)

pub returns : goal.returns
returns c = at_number c.requires c.moved.ensures c.row_number.ensures
