-- `figures::totals_of` meets its contract: the totals are those of the first i streams, and their blocks hold their lanes. Assumes nothing.
use mathlib.Core.Path.{◌≡◌, sym, ◌∙◌, ap, subst}
use Prim.Native.Nat.{ℕ, ◌+◌, ◌*◌, ◌-◌, ◌<◌}
use native.Mathlib.Omega.{arith}
use Rattle.meaning.specs.Description.{streams_of}
use Rattle.lanes.specs.All.{LanesOf, zero_words, lanes_none, lanes_next, part_zeros, part_length}
use Rattle.figures.specs.Shares.{Room, totals_of, totals_zero, totals_room, sharing_at, share_at, share_next, lanes_at}
use Rattle.figures.proofs.totals_of.Goals as goal

pub loop-i-init : goal.loop-i-init
loop-i-init c =
    let d = c.args.v.description in
    (totals_zero d, lanes_none d.nest (streams_of d) c.requires.3)

pub slice_bounds-share_of-end : goal.slice_bounds-share_of-end
slice_bounds-share_of-end c = omega (
  arith,
  c.loop-i.invariant.1.words,
  c.requires.0.few.ranged.sized.most_streams,
)

pub share_of-requires : goal.share_of-requires
share_of-requires c =
    let l = c.loop-i in
    let t = c.loop-i-test.true in
    let e = c.flow_at-f.ensures in
    let k = 3072 * l.i + 3072 - 3072 * l.i in
    let six : l.i < 6 = omega (arith, c.requires.0.few.ranged.sized.most_streams) in (
      sharing_at c.args.v c.requires.0 l.i t e,
      share_at c.args.v c.requires.0 l.i t e c.requires.1 c.requires.2,
      part_length six l.invariant.1 {k = k} (omega arith),
      part_zeros six l.invariant.1 {k = k} (omega arith),
    )

pub joined-totals-requires : goal.joined-totals-requires
joined-totals-requires c =
    let l = c.loop-i in (
      subst Room (sym l.invariant.0) (totals_room c.args.v.description c.requires.0 l.i (omega arith)),
      c.share_of.ensures.1,
    )

pub loop-i-preserved : goal.loop-i-preserved
loop-i-preserved c =
    let l = c.loop-i in
    let t = c.loop-i-test.true in
    let r = c.share_of in
    let e = c.flow_at-f.ensures in
    let k = 3072 * l.i + 3072 - 3072 * l.i in
    let six : l.i < 6 = omega (arith, c.requires.0.few.ranged.sized.most_streams) in (
      c.joined-totals.ensures ∙ share_next c.args.v c.requires.0 l.i t e l.invariant.0 r.ensures.0,
      lanes_next six l.invariant.1 {k = k} (omega arith) c.requires.0.processes _
          (lanes_at c.args.v c.requires.0 l.i t e r.ensures.2),
    )

pub shape_of-lanes : goal.shape_of-lanes
shape_of-lanes c = c.loop-i.invariant.1.words ∙ sym (zero_words c.requires.3)

pub returns : goal.returns
returns c =
    let d = c.args.v.description in
    let l = c.loop-i in
    let z : l.i ≡ d.sizes.streams = omega arith in
    let e = l.invariant.0 ∙ ap (totals_of d) z in (
      e,
      subst Room (sym e) (totals_room d c.requires.0 d.sizes.streams (omega arith)),
      subst (λ (i : ℕ). LanesOf d.nest (streams_of d) i l.lanes) z l.invariant.1,
    )
