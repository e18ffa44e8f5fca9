-- `written_order::fill_table` meets its contract: the first i columns are filled. Assumes nothing.
use mathlib.Core.Path.{◌≡◌}
use Rattle.written_order.specs.Places.{columns}
use Rattle.written_order.proofs.fill_table.Given as goal

abbrev pub invariant-loop-i : goal.invariant-loop-i
invariant-loop-i l = l.table ≡ columns l.v.description l.i l.initial.table
