-- `written_order::fill_table` meets its contract: the first i columns are filled. Assumes nothing.
use mathlib.Core.Path.{refl}
use Rattle.written_order.specs.Places.{columns, columns_next}
use Rattle.written_order.proofs.fill_table.Goals as goal

pub loop-i-init : goal.loop-i-init
unfolding columns
loop-i-init c = refl

pub loop-i-preserved : goal.loop-i-preserved
loop-i-preserved c = rw (columns_next, c.fill_stream.ensures, c.loop-i.invariant)
