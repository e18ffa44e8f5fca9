-- `decode::lines` meets its contract, as the loop that stores. Assumes nothing.
use Rattle.std.proofs.Common.{sym, ◌∙◌, arith}
use Rattle.integers.specs.Fill.{fill_zero, fill_step, fill_done}
use Rattle.decode.specs.Filled.{fill_is}
use Rattle.decode.proofs.lines.Goals as goal

pub loop-i-init : goal.loop-i-init
loop-i-init c = rw c.no_line-out.ensures (sym (fill_zero _ _))

pub loop-i-preserved : goal.loop-i-preserved
loop-i-preserved c = rw (fill_step, c.line_of.ensures, c.loop-i.invariant)

pub returns : goal.returns
returns c = fill_done _ _ _ _ c.loop-i.invariant (omega arith) ∙ fill_is _ _ _ _ (omega arith)
