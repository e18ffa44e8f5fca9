-- `element_places::fill_places` meets its contract: the places of the elements of the first i streams stand. Assumes nothing.
use mathlib.Core.Path.{◌≡◌, ◌∙◌}
use Prim.Native.Nat.{◌+◌, ◌*◌, ◌-◌}
use native.Mathlib.Omega.{arith}
use Rattle.lanes.specs.All.{part_lanes}
use Rattle.figures.specs.Shares.{start_all}
use Rattle.element_places.specs.Order.{none_before}
use Rattle.element_places.specs.Lent.{saying_at, right_at_lem}
use Rattle.element_places.proofs.fill_places.Goals as goal

pub loop-i-init : goal.loop-i-init
loop-i-init c = λ e l. absurd (none_before c.args.v.description e l)

pub flow_at-f-requires : goal.flow_at-f-requires
flow_at-f-requires c =
    let p = c.requires.0 in
    omega (arith, p.described.few.ranged.sized.most_streams)

pub elements_in-first-requires : goal.elements_in-first-requires
elements_in-first-requires c = (c.requires.0.described.few, omega arith)

pub slice_bounds-fill_stream-end : goal.slice_bounds-fill_stream-end
slice_bounds-fill_stream-end c = omega (arith, c.requires.0.described.few.ranged.sized.most_streams, c.requires.3.words)

pub fill_stream-requires : goal.fill_stream-requires
fill_stream-requires c =
    let p = c.requires in
    let t = c.loop-i-test.true in
    let i = c.loop-i.i in
    let a = 3072 * i in
    saying_at c.args.v p.0 i t c.flow_at-f.ensures c.elements_in-first.ensures p.1 p.2
    (part_lanes p.3 i t {k = a + 3072 - a} (omega arith)) (c.loop-i.auto.places ∙ p.4)

pub loop-i-preserved : goal.loop-i-preserved
loop-i-preserved c =
    let p = c.requires in
    let t = c.loop-i-test.true in
    let n = right_at_lem c.args.v p.0 c.loop-i.i t c.flow_at-f.ensures c.elements_in-first.ensures c.loop-i.places _
    c.fill_stream.ensures (c.loop-i.auto.places ∙ p.4) c.loop-i.invariant in
    n.1

pub returns : goal.returns
returns c =
    let d = c.args.v.description in
    let l = c.loop-i in
    let z : l.i ≡ d.sizes.streams = omega arith in
    record { places = λ e b. l.invariant e (omega (arith, b, start_all d l.i z)) }
