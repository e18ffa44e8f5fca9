-- `table::fill_rows` meets its contract. Assumes nothing.
use Rattle.std.proofs.Common.{sym}
use Rattle.integers.specs.Fill.{fill_zero, fill_step}
use Rattle.table.proofs.fill_rows.Goals as goal

pub loop-i-init : goal.loop-i-init
loop-i-init c = sym (fill_zero _ _)

pub loop-i-preserved : goal.loop-i-preserved
loop-i-preserved c = rw (fill_step, c.loop-i.invariant, c.row_at.ensures)
