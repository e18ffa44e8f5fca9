-- `pipes::fill_stream` meets its contract: soaks and drains are two parts of 1,024 words, and filling the second leaves the first as it
-- was. Assumes nothing.
use mathlib.Core.Path.{refl}
use native.Mathlib.Omega.{arith}
use Rattle.std.proofs.Common.{rules}
use Rattle.meaning.specs.Array.{row_soak}
use Rattle.layout.specs.Spans.{process_of}
use Rattle.lists.specs.Stores.{replicated}
use Rattle.pipes.specs.Elements.{row_drain}
use Rattle.pipes.specs.Passed.{passed}
use Rattle.pipes.proofs.fill_stream.Goals as goal

pub fill_lanes-requires : goal.fill_lanes-requires
fill_lanes-requires c =
    record { flowing = c.requires.0; words = refl; zeros = λ i l. replicated 0 3072 i }

pub returns : goal.returns
returns c =
    let p = c.requires.0 in
    let n = c.args.f.nest in
    let s = c.args.f.stream in
    passed n s c.args.processes p.counted (omega (arith, p.counted, p.flows.laid.processes)) c.args.block.now _ _ c.requires.1
    (c.fill_rows.ensures (λ q. row_soak n s (process_of n q)) (λ q r l e. search rules))
    (c.fill_rows-2.ensures (λ q. row_drain n s (process_of n q)) (λ q r l e. search rules))
