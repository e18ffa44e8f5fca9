-- `element_places::put_still` meets its contract: the processes passed so far have said where their elements wait. Assumes nothing.
use Prim.Native.Nat.{◌≤◌}
use native.Mathlib.Omega.{arith}
use Rattle.layout.specs.Spans.{process_of}
use Rattle.lanes.specs.Flow.{spanning, point_lt, going_on}
use Rattle.element_places.specs.Walked.{gone_zero, one_most, next_most}
use Rattle.element_places.specs.Lines.{owning, lined, walk_next, walk_all}
use Rattle.element_places.proofs.put_still.Goals as goal

pub point_at-y-requires : goal.point_at-y-requires
point_at-y-requires c = let p = c.requires.own in (spanning p.flows, point_lt p.flows p.lt)

pub reach_of-reach-requires : goal.reach_of-reach-requires
reach_of-reach-requires c = let p = c.requires.own in going_on p.flows p.lt c.point_at-y.ensures

pub loop-k-init : goal.loop-k-init
loop-k-init c = gone_zero _ _ _ _ _ _

pub process_on-q-requires : goal.process_on-q-requires
process_on-q-requires c =
    let r = c.reach_of-reach.ensures in
    lined c.requires c.point_at-y.ensures r.0 r.1 (omega arith)

pub put_own-place-requires : goal.put_own-place-requires
put_own-place-requires c =
    let low : c.loop-k.place ≤ 30208 =
    omega (arith, next_most c.loop-k.invariant, c.requires.low, c.reach_of-reach.ensures.1) in
    owning c.requires.own c.process_on-q.ensures.0 low c.loop-k.auto.places

pub overflow_add-place : goal.overflow_add-place
overflow_add-place c =
    let n = c.args.f.nest in
    omega (
      arith,
      next_most c.loop-k.invariant,
      c.requires.low,
      c.reach_of-reach.ensures.1,
      c.put_own-place.ensures.0,
      one_most n (process_of n c.process_on-q.result),
    )

pub loop-k-preserved : goal.loop-k-preserved
loop-k-preserved c =
    let q = c.process_on-q.ensures in
    let own = c.put_own-place.ensures in
    walk_next c.requires c.point_at-y.ensures c.reach_of-reach.ensures.0 (omega arith) q.1 c.loop-k.invariant own.0 own.1

pub overflow_sub-result : goal.overflow_sub-result
overflow_sub-result c = omega (arith, c.loop-k.invariant.next)

pub returns : goal.returns
returns c =
    let l = c.loop-k in
    let r = c.reach_of-reach.ensures in
    walk_all c.requires c.point_at-y.ensures r.0 r.1 (omega arith) l.invariant
