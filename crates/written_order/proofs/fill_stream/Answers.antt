-- `written_order::fill_stream` meets its contract: the elements of stream i begin where those before it end, and all their numbers are
-- below 24,576. Assumes nothing.
use native.Mathlib.Omega.{arith}
use Rattle.written_order.specs.Places.{filling, column_is}
use Rattle.written_order.proofs.fill_stream.Goals as goal

pub flow_at-f-requires : goal.flow_at-f-requires
flow_at-f-requires c = omega (arith, c.requires.1, c.requires.0.few.ranged.sized.most_streams)

pub fill_column-requires : goal.fill_column-requires
fill_column-requires c =
    filling c.args.v c.requires.0 c.args.i c.requires.1 c.flow_at-f.ensures c.elements_in-start.ensures

pub returns : goal.returns
returns c =
    column_is c.args.v c.requires.0 c.args.i c.requires.1 c.flow_at-f.ensures c.elements_in-start.ensures
    c.args.table.now c.fill_column.ensures
