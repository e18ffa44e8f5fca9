-- `start::put_values` meets its contract: the first e values are put. Assumes nothing.
use mathlib.Core.Path.{refl, sym}
use native.Mathlib.Omega.{arith}
use Rattle.element_places.specs.Spread.{spread_zero, spread_step}
use Rattle.start.proofs.put_values.Goals as goal

pub loop-e-init : goal.loop-e-init
loop-e-init c = sym (spread_zero _ _ _)

pub bounds-places-e : goal.bounds-places-e
bounds-places-e c = omega (arith, c.requires.long)

pub overflow_cast-at : goal.overflow_cast-at
overflow_cast-at c = let p = c.requires in omega (arith, p.lt c.loop-e.e (omega arith), p.few)

pub offset_bounds-waiting-at : goal.offset_bounds-waiting-at
offset_bounds-waiting-at c = let p = c.requires in omega (arith, p.lt c.loop-e.e (omega arith), p.few)

pub bounds-waiting-at : goal.bounds-waiting-at
bounds-waiting-at c = omega (arith, c.requires.lt c.loop-e.e (omega arith), c.loop-e.auto.waiting)

pub loop-e-preserved : goal.loop-e-preserved
loop-e-preserved c = rw (spread_step, c.loop-e.invariant) refl
