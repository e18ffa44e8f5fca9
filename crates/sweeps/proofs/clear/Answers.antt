-- `sweeps::clear` meets its contract: the first p words are 0. Assumes nothing.
use Rattle.std.proofs.Common.{sym}
use Rattle.integers.specs.Fill.{fill_zero, fill_step}
use Rattle.sweeps.proofs.clear.Goals as goal

pub loop-p-init : goal.loop-p-init
loop-p-init c = sym (fill_zero _ _)

pub loop-p-preserved : goal.loop-p-preserved
loop-p-preserved c = rw (fill_step, c.loop-p.invariant)
