-- `table::fill_rows` meets its contract: the first i rows are filled. Assumes nothing.
use Rattle.std.proofs.Common.{◌≡◌}
use Rattle.integers.specs.Fill.{fill_by}
use Rattle.process_row.specs.Rows.{row_from}
use Rattle.table.proofs.fill_rows.Given as goal

abbrev pub invariant-loop-i : goal.invariant-loop-i
invariant-loop-i l = l.rows ≡ fill_by (row_from l.shape l.words) l.i l.initial.rows
