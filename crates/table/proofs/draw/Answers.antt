-- `table::draw` meets its contract: the words of the processes lie before those of all streams, so copying them there leaves the streams'
-- as they were filled. Assumes nothing.
use mathlib.Core.Path.{◌≡◌, sym, subst}
use mathlib.Core.List.{List}
use Prim.Native.Nat.{ℕ, ◌<◌}
use native.Mathlib.Omega.{arith}
use lib.ListN.{get_or}
use Rattle.meaning.specs.Description.{streams_of}
use Rattle.table.specs.Blocks.{Streamed, zeros_length, front_copied, streamed_copied}
use Rattle.table.proofs.draw.Goals as goal

pub copy_spans-requires : goal.copy_spans-requires
copy_spans-requires c = omega (arith, c.fill_streams.auto.words, zeros_length c.requires.2)

pub returns : goal.returns
returns c =
    let d = c.args.v.description in
    let g = c.requires.0 in
    let es = c.args.spans.now in
    let w = c.fill_streams.new.words in
    let e = sym c.copy_spans.ensures in
    record {
      shaped = c.shape_of.ensures;
      bounded = g.bounded;
      few = g.processes;
      most = omega (arith, c.args.v.surveyed.in_use, g.most);
      front = es;
      spans = c.requires.1;
      copied = subst (λ (v : List ℕ). (j : ℕ) → j < 3072 → get_or v j 0 ≡ get_or es j 0) e (front_copied es w (omega arith));
      streams = subst (Streamed d.nest (streams_of d) _) e (streamed_copied es w (omega arith) c.fill_streams.ensures);
    }
