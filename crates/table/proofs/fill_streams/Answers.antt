-- `table::fill_streams` meets its contract: the blocks before i hold the words of the first i streams. Assumes nothing.
use mathlib.Core.Path.{◌≡◌, sym, ◌∙◌, subst}
use Prim.Native.Nat.{ℕ, ◌+◌, ◌*◌, ◌-◌}
use native.Mathlib.Omega.{arith}
use lib.ListN.{length}
use borrow.Rule.Slice.PartMut.{mid_len}
use Rattle.meaning.specs.Description.{streams_of}
use Rattle.table.specs.Blocks.{Streamed, zeros_length, streamed_none, streamed_next}
use Rattle.table.specs.Drawable.{flow_drawable, flow_passed}
use Rattle.table.proofs.fill_streams.Goals as goal

pub loop-i-init : goal.loop-i-init
loop-i-init c = subst (Streamed _ _ 0) (sym c.requires.2) (streamed_none _ _ 15360)

pub fill_stream-requires : goal.fill_stream-requires
fill_stream-requires c =
    let l = c.loop-i in
    let a = 3072 + 2048 * l.i in
    let long : length l.words ≡ 15360 = l.auto.words ∙ zeros_length c.requires.2 in (
      flow_drawable c.args.v c.requires.0 l.i (omega arith) c.flow_at-f.ensures c.requires.1 (omega arith),
      omega (arith, mid_len a (a + 2048) l.words (omega (arith, long, c.requires.0.most))),
    )

pub loop-i-preserved : goal.loop-i-preserved
loop-i-preserved c =
    let l = c.loop-i in
    let g = c.requires.0 in
    let a = 3072 + 2048 * l.i in
    let k = a + 2048 - a in
    let ys = c.fill_stream.new.block in
    let n = c.fill_stream.auto.block in
    let long : length l.words ≡ 15360 = l.auto.words ∙ zeros_length c.requires.2 in
    streamed_next a k ys g.processes (omega arith) (omega arith) (omega (arith, long, g.most))
    (n ∙ mid_len a (a + 2048) l.words (omega (arith, long, g.most))) l.invariant
    (flow_passed c.args.v g l.i (omega arith) c.flow_at-f.ensures c.fill_stream.ensures)

pub returns : goal.returns
returns c =
    let l = c.loop-i in
    let d = c.args.v.description in
    let e : l.i ≡ length (streams_of d) = omega (arith, c.args.v.surveyed.in_use) in
    subst (λ (i : ℕ). Streamed d.nest (streams_of d) i l.words) e l.invariant
