-- The numbers of a stream's elements lie in that stream's range: those that an instance touches, and those of its pipes. Assumes a
-- description that is not refused.
use Rattle.std.proofs.Common.{sym, subst, arith}
use Rattle.std.specs.Prelude.{ℕ, ◌+◌, ◌<◌, length}
use Rattle.integers.specs.Vectors.{image}
use Rattle.integers.specs.declared.V2.{V2}
use Rattle.meaning.specs.declared.Description.{Description}
use Rattle.meaning.specs.Space.{box_of, row_index}
use Rattle.meaning.specs.Streams.{elements}
use Rattle.meaning.specs.Description.{no_stream, streams_of}
use Rattle.meaning.specs.Body.{stream_start}
use Rattle.meaning.specs.Array.{array_of, elements_on}
use Rattle.meaning.specs.Rules.{stream_on}
use Rattle.meaning.specs.Points.{Inside}
use Rattle.geometry.specs.Boxes.{box_has, points_inside}
use Rattle.geometry.specs.RowOrder.{row_lt}
use Rattle.geometry.specs.Descriptions.{Laid}
use Rattle.geometry.proofs.Wiring.{wired}
use Rattle.geometry.specs.Arrays.{stream_at, pipe_is}
use Rattle.lists.specs.Sums.{total_next}
use Rattle.network.specs.Wiring.{element_pipe, element_at}
use Rattle.network.specs.Plain.{Among}
use Rattle.guarantee.specs.Instances.{instance_number, instance_count, within}
use Rattle.guarantee.specs.Stops.{stream_is, element_is, elements_length}
use Rattle.guarantee.specs.Touches.{touched_at}

module _ {d : Description} (laid : Laid d) where
  -- a point of a stream's box has a number in the stream's range
  in_range_lem : (k : ℕ) → k < length (streams_of d) → (p : V2) → Inside (box_of d.nest (stream_at d k).map) p
      → Among d k (stream_start d.nest (streams_of d) k + row_index (box_of d.nest (stream_at d k).map) p)
  in_range_lem k h p i =
      record {
        from = omega arith;
        below =
            omega (
              arith,
              total_next (λ s. length (elements d.nest s)) (streams_of d) k no_stream h,
              row_lt (box_of d.nest (stream_at d k).map) p i,
            );
      }

  pub touched_among : (i k : ℕ) → i < instance_count d → k < length (streams_of d) → Among d k (touched_at d (instance_number d i) k)
  touched_among i k h l =
      in_range_lem k l (image (stream_at d k).map (instance_number d i)) (box_has laid.layout.dirs (stream_at d k).map (within laid i h))

  pub element_among : (q j : ℕ) → j < elements_on (array_of d) q → Among d (stream_on (array_of d) q) (element_at (array_of d) q j)
  element_among q j h =
      let P = pipe_is d q (element_pipe (array_of d) q j h) in
      let i = ((wired (laid.stream P.stream P.stream_lt)).element P.entry j P.entry_in
      (omega (arith, elements_length laid P))).0 in
      subst (λ (k : ℕ). Among d k (element_at (array_of d) q j)) (sym (stream_is laid P))
      (subst (Among d P.stream) (sym (element_is laid P j h)) (in_range_lem P.stream P.stream_lt _ (points_inside _ _ i)))
