-- `result::put_in_order` meets its contract: the first e values are put. Assumes nothing.
use mathlib.Core.Path.{sym}
use native.Mathlib.Omega.{arith}
use Rattle.integers.specs.Fill.{fill_zero, fill_step}
use Rattle.result.proofs.put_in_order.Goals as goal

pub loop-e-init : goal.loop-e-init
loop-e-init c = sym (fill_zero _ _)

pub bounds-places-e : goal.bounds-places-e
bounds-places-e c = omega (arith, c.requires.long)

pub overflow_cast-at : goal.overflow_cast-at
overflow_cast-at c = let p = c.requires in omega (arith, p.lt c.loop-e.e (omega arith), p.few)

pub offset_bounds-received-at : goal.offset_bounds-received-at
offset_bounds-received-at c = let p = c.requires in omega (arith, p.lt c.loop-e.e (omega arith), p.few)

pub bounds-received-at : goal.bounds-received-at
bounds-received-at c = c.requires.lt c.loop-e.e (omega arith)

pub bounds-output-e : goal.bounds-output-e
bounds-output-e c = omega (arith, c.loop-e.auto.output, c.requires.room)

pub loop-e-preserved : goal.loop-e-preserved
loop-e-preserved c = rw (fill_step, c.loop-e.invariant)
