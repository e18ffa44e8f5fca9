-- `decode::streams` meets its contract, as the loop that stores. Assumes nothing.
use Rattle.std.proofs.Common.{◌≡◌, replicate}
use Rattle.integers.specs.Fill.{fill_by}
use Rattle.meaning.specs.Description.{stream_of, no_stream}
use Rattle.decode.proofs.streams.Given as goal

abbrev pub invariant-loop-i : goal.invariant-loop-i
invariant-loop-i l = l.out ≡ fill_by (stream_of l.s l.z.sizes) l.i (replicate 6 no_stream)
