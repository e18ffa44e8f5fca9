-- `port_fill::fill_streams` meets its contract: the rows of the first i streams are written, and the sums are those of these streams.
-- Assumes nothing.
use mathlib.Core.Path.{◌≡◌, ◌∙◌}
use Prim.Native.Nat.{◌+◌, ◌*◌, ◌-◌, ◌<◌}
use native.Mathlib.Omega.{arith}
use Rattle.lanes.specs.All.{part_lanes}
use Rattle.port_fill.specs.Filled.{sums_zero, six, filled_zero, ports_is}
use Rattle.port_fill.specs.Filled.{slack, hop_few, processes_few, lanes_here, entries_few, joined_next, stringing, filled_next}
use Rattle.port_fill.proofs.fill_streams.Goals as goal

pub loop-i-init : goal.loop-i-init
loop-i-init c =
    let d = c.args.v.description in (sums_zero d, filled_zero d (omega arith))

pub flow_at-f-requires : goal.flow_at-f-requires
flow_at-f-requires c =
    omega (arith, six c.args.v.description c.requires.0.described)

pub strand_of-g-requires : goal.strand_of-g-requires
strand_of-g-requires c =
    let l = c.loop-i in
    let t : l.i < c.args.v.description.sizes.streams = omega arith in
    let e = c.flow_at-f.ensures in
    let h = c.requires.0 in
    let v = c.args.v in (
      hop_few v h l.i t e l.invariant.0,
      processes_few v h l.i t e l.invariant.0,
      h.narrow,
      slack v h l.i t e l.invariant.0,
    )

pub elements_in-first-requires : goal.elements_in-first-requires
elements_in-first-requires c =
    (c.requires.0.described.few, omega arith)

pub overflow_cast-a : goal.overflow_cast-a
overflow_cast-a c = omega (arith, six c.args.v.description c.requires.0.described)

pub overflow_mul-a : goal.overflow_mul-a
overflow_mul-a c = omega (arith, six c.args.v.description c.requires.0.described)

pub overflow_add-e : goal.overflow_add-e
overflow_add-e c = omega (arith, six c.args.v.description c.requires.0.described)

pub overflow_cast-i-in-loop-i : goal.overflow_cast-i-in-loop-i
overflow_cast-i-in-loop-i c = omega (arith, six c.args.v.description c.requires.0.described)

pub offset_bounds-lanes-a : goal.offset_bounds-lanes-a
offset_bounds-lanes-a c = omega (arith, six c.args.v.description c.requires.0.described)

pub slice_bounds-fill_stream-end : goal.slice_bounds-fill_stream-end
slice_bounds-fill_stream-end c =
    omega (arith, six c.args.v.description c.requires.0.described, c.requires.1.words)

pub fill_stream-pipes-requires : goal.fill_stream-pipes-requires
fill_stream-pipes-requires c =
    let l = c.loop-i in
    let t : l.i < c.args.v.description.sizes.streams = omega arith in
    let e = c.flow_at-f.ensures in
    let h = c.requires.0 in
    let v = c.args.v in
    let a = 3072 * l.i in (
      stringing v h l.i t e l.invariant.0 c.strand_of-g.ensures.0 c.elements_in-first.ensures,
      lanes_here v h l.i t e l.invariant.0 (part_lanes c.requires.1 l.i t {k = a + 3072 - a} (omega arith)),
    )

pub joined-sums-requires : goal.joined-sums-requires
joined-sums-requires c =
    let l = c.loop-i in
    let t : l.i < c.args.v.description.sizes.streams = omega arith in
    let e = c.flow_at-f.ensures in
    let h = c.requires.0 in
    let v = c.args.v in (
      slack v h l.i t e l.invariant.0,
      hop_few v h l.i t e l.invariant.0,
      entries_few v h l.i t e l.invariant.0 c.fill_stream-pipes.ensures.0,
    )

pub loop-i-preserved : goal.loop-i-preserved
loop-i-preserved c =
    let l = c.loop-i in
    let t : l.i < c.args.v.description.sizes.streams = omega arith in
    let e = c.flow_at-f.ensures in
    let h = c.requires.0 in
    let v = c.args.v in
    let k = c.fill_stream-pipes.ensures in (
      c.joined-sums.ensures ∙ joined_next v h l.i t e l.invariant.0 k.0,
      filled_next v h l.i t e l.invariant.0 c.strand_of-g.ensures.0
          c.elements_in-first.ensures l.ports k.1 l.invariant.1,
    )

pub returns : goal.returns
returns c =
    let l = c.loop-i in
    let d = c.args.v.description in
    let e : l.i ≡ d.sizes.streams = omega arith in
    ports_is d c.requires.0.described e l.invariant.1
