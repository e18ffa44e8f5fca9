-- `table::fill_streams` meets its contract: the blocks before i hold the words of the first i streams. Assumes nothing.
use Rattle.meaning.specs.Description.{streams_of}
use Rattle.table.specs.Blocks.{Streamed}
use Rattle.table.proofs.fill_streams.Given as goal

abbrev pub invariant-loop-i : goal.invariant-loop-i
invariant-loop-i l = let d = l.v.description in Streamed d.nest (streams_of d) l.i l.words
