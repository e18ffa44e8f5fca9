-- `result::fill_output` meets its contract: the place of an element lies within the received values, and reading each value at its
-- element's place puts them in element order. Assumes nothing.
use native.Mathlib.Omega.{arith}
use Rattle.result.specs.Order.{readable, ordered}
use Rattle.result.proofs.fill_output.Goals as goal

pub fill_places-requires : goal.fill_places-requires
fill_places-requires c = let p = c.requires in (p.0, p.3, omega arith, p.4, omega arith)

pub put_in_order-requires : goal.put_in_order-requires
put_in_order-requires c =
    let p = c.requires in
    readable p.0 c.fill_places.ensures _ _ p.1 p.2 (omega (arith, c.fill_places.auto.places))

pub returns : goal.returns
returns c =
    ordered c.requires.0 c.fill_places.ensures c.args.received.now c.args.output.now c.requires.1 c.requires.2
    c.put_in_order.ensures
