-- `element_places::put_run` meets its contract: the first k elements have their places. Assumes nothing.
use mathlib.Core.Path.{◌≡◌, refl, sym, ◌∙◌, ap}
use Prim.Native.Nat.{ℕ, ◌+◌}
use native.Mathlib.Omega.{arith}
use Rattle.integers.specs.Differences.{up}
use Rattle.element_places.specs.Spread.{spread, spread_zero, spread_step}
use Rattle.element_places.specs.Runs.{number_after, counts}
use Rattle.element_places.proofs.put_run.Goals as goal

pub loop-k-init : goal.loop-k-init
loop-k-init c = sym (spread_zero _ _ _)

pub overflow_add-places : goal.overflow_add-places
overflow_add-places c =
    let p = c.requires in record { fits = omega (arith, p.few, p.low) }

pub number_after-requires : goal.number_after-requires
number_after-requires c = counts c.requires c.loop-k-test.true

pub overflow_cast-places : goal.overflow_cast-places
overflow_cast-places c =
    let p = c.requires in omega (arith, p.few, p.low)

pub bounds-places-number_after : goal.bounds-places-number_after
bounds-places-number_after c =
    let l = c.loop-k in
    omega (arith, c.number_after.ensures, c.requires.below l.k c.loop-k-test.true)

pub loop-k-preserved : goal.loop-k-preserved
loop-k-preserved c =
    rw (spread_step, c.loop-k.invariant, c.number_after.ensures) refl

pub returns : goal.returns
returns c =
    let l = c.loop-k in
    let a = c.args in
    let e : l.k ≡ a.r.count = omega arith in
    l.invariant ∙ ap (λ (k : ℕ). spread (λ k. up (number_after a.r k)) (λ k. a.r.place + k) k a.places.now) e
