-- `body::gather` meets its contract: after i turns the first i values are in the registers. Assumes nothing.
use mathlib.Core.Path.{refl, ◌∙◌}
use native.Mathlib.Omega.{arith}
use Rattle.body.specs.Store.{gather_next, gather_end}
use Rattle.body.proofs.gather.Goals as goal

pub loop-i-init : goal.loop-i-init
loop-i-init c = refl

pub offset_bounds-store-place : goal.offset_bounds-store-place
offset_bounds-store-place c = omega (arith, c.requires.within c.loop-i.i (omega arith))

pub bounds-store-place : goal.bounds-store-place
bounds-store-place c = c.requires.within c.loop-i.i (omega arith)

pub loop-i-preserved : goal.loop-i-preserved
loop-i-preserved c =
    rw c.loop-i.invariant
    (gather_next c.args.store.now c.args.places.now c.loop-i.i (omega arith) c.requires.streams)

pub returns : goal.returns
returns c = c.loop-i.invariant ∙ gather_end c.args.store.now c.args.places.now c.loop-i.i (omega arith)
