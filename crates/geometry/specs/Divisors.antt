-- The divisors of a description's streams in their list: that of a stream in use is its index map's, past those it is 0. Assumes nothing.
use Rattle.std.specs.Prelude.{◌≡◌, map, ℕ, ◌≤◌, ◌<◌, length, get_or}
use Rattle.std.proofs.Common.{arith}
use Rattle.std.proofs.lemmas.List.{length-map}
use Rattle.std.proofs.Math.ListN.{get_or-eq_default}
use Rattle.meaning.specs.declared.Stream.{Stream}
use Rattle.meaning.specs.declared.Description.{Description}
use Rattle.meaning.specs.Loops.{divisor}
use Rattle.meaning.specs.Description.{no_stream, streams_of}
use Rattle.meaning.specs.Accept.{stream_divisor}
use Rattle.lists.specs.Members.{map_at}

module _ (d : Description) (used : length (streams_of d) ≡ d.sizes.streams) (i : ℕ) where
  pub in_use : i < d.sizes.streams → stream_divisor d i ≡ divisor (get_or (streams_of d) i no_stream).map
  in_use h = map_at (λ (t : Stream). divisor t.map) (streams_of d) i no_stream 0 (omega arith)

  pub past_use : d.sizes.streams ≤ i → stream_divisor d i ≡ 0
  past_use h =
      get_or-eq_default (map (λ (t : Stream). divisor t.map) (streams_of d)) 0 {n = i}
      (omega (arith, length-map (streams_of d) (λ (t : Stream). divisor t.map)))
