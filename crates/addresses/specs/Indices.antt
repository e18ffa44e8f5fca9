-- Where the words of a state stand, by the description: those of a process and a stream, and those of a pipe by its stream and entry; and
-- how many there are. Assumes nothing but, of the waiting list, a description that is not refused.
use Rattle.std.specs.Prelude.{◌≡◌, refl, length, take}
use Rattle.std.proofs.Math.Path.{sym, ap, ap₂}
use Rattle.std.proofs.Common.{◌∙◌, add_assoc, arith}
use Prim.Native.Nat.{ℕ, ◌+◌, ◌*◌, ◌≤◌, ◌<◌}
use Rattle.std.proofs.Math.ListN.{length-map}
use Rattle.std.proofs.Math.Seq.{take-length}
use Rattle.integers.specs.declared.V2.{V2}
use Rattle.meaning.specs.declared.Nest.{Nest}
use Rattle.meaning.specs.declared.Stream.{Stream}
use Rattle.meaning.specs.declared.Description.{Description}
use Rattle.meaning.specs.Lists.{total}
use Rattle.meaning.specs.Space.{processes}
use Rattle.meaning.specs.Streams.{hop}
use Rattle.meaning.specs.Pipes.{entries}
use Rattle.meaning.specs.Description.{no_stream, streams_of}
use Rattle.meaning.specs.Accept.{state_words}
use Rattle.meaning.specs.Array.{runs, Array, array_of, process_count, stream_count}
use Rattle.meaning.specs.State.{Firings, Taken, Sent, stride, process_start, index, word_count}
use Rattle.lists.specs.Sums.{total_same, total_map_first, total_like, total_times}
use Rattle.geometry.specs.Arrays.{stream_at}
use Rattle.addresses.specs.Pipes.{base, before_from_lem, all_from}

-- the words of a process and a stream, of a pipe, and of all pipes of a stream
abbrev pub port_words : Nest → Stream → ℕ
port_words n s = 4 + hop n s

abbrev pub end_words : Nest → Stream → ℕ
end_words n s = 2 + hop n s

abbrev pub ends_words : Nest → Stream → ℕ
ends_words n s = length (entries n s) * end_words n s

-- the words of a process; where those of process p and stream i begin, and those of pipe j of stream i
abbrev pub stride_of : Description → ℕ
stride_of d = 1 + total (port_words d.nest) (streams_of d)

abbrev pub port_at : Description → ℕ → ℕ → ℕ
port_at d p i = p * stride_of d + 1 + total (port_words d.nest) (take i (streams_of d))

abbrev pub end_at : Description → ℕ → ℕ → ℕ
end_at d i j =
    length (processes d.nest) * stride_of d + total (ends_words d.nest) (take i (streams_of d)) + j * end_words d.nest (stream_at d i)

module _ (d : Description) where
  abbrev n : Nest
  n = d.nest

  abbrev A : Array
  A = array_of d

  -- ---- counts

  pub process_count_lem : process_count A ≡ length (processes n)
  unfolding array_of
  process_count_lem = length-map (processes n) (runs n)

  pub stream_count_lem : stream_count A ≡ length (streams_of d)
  unfolding array_of
  stream_count_lem = length-map (streams_of d) (hop n)

  pub stride_is : stride A ≡ stride_of d
  unfolding array_of
  stride_is =
      let hops = A.hops in
      ap (λ (c : ℕ). 1 + c)
      (sym (ap (total (λ h. 4 + h)) (take-length hops)) ∙ total_map_first (λ h. 4 + h) (hop n) (streams_of d) (length hops)
      ∙ ap (λ (c : ℕ). total (port_words n) (take c (streams_of d))) stream_count_lem
      ∙ ap (total (port_words n)) (take-length (streams_of d)))

  -- ---- the words of a process

  pub firings_index : (p : ℕ) → index A (Firings p) ≡ p * stride_of d
  firings_index p = ap (λ (c : ℕ). p * c) stride_is

  pub taken_index : (p i : ℕ) → index A (Taken p i) ≡ port_at d p i
  unfolding array_of
  taken_index p i = ap₂ (λ (a b : ℕ). a + 1 + b) (firings_index p) (total_map_first (λ h. 4 + h) (hop n) (streams_of d) i)

  -- ---- the words of a pipe

  start_is : process_start A (process_count A) ≡ length (processes n) * stride_of d
  start_is = ap₂ ◌*◌ process_count_lem stride_is

  ends_of : (s : Stream) → total (λ y. end_words n s) (entries n s) ≡ ends_words n s
  ends_of s = total_same (λ (y : V2). end_words n s) (end_words n s) (λ y. refl) (entries n s)

  -- the last entry's number and one more will do
  pub sent_index : (i j : ℕ) → i < length (streams_of d) → j ≤ length (entries n (stream_at d i))
      → index A (Sent (base d i + j)) ≡ end_at d i j
  unfolding array_of
  sent_index i j hi hj =
      ap₂ ◌+◌ start_is
      (before_from_lem (λ r. 2 + r.hop) (λ s y. end_words n s) n (λ i e s y. refl) 0 0 (streams_of d) i j hi hj
      ∙ ap₂ ◌+◌ (total_like (λ s. total (λ y. end_words n s) (entries n s)) (ends_words n) (streams_of d) i no_stream (omega arith)
      (λ k m. ends_of (stream_at d k)))
      (total_times (end_words n (stream_at d i)) (entries n (stream_at d i)) j hj))
      ∙ sym (add_assoc (length (processes n) * stride_of d) (total (ends_words n) (take i (streams_of d)))
      (j * end_words n (stream_at d i)))

  -- ---- all

  pub word_count_lem : word_count A ≡ state_words n (streams_of d)
  unfolding array_of
  word_count_lem =
      ap₂ ◌+◌ start_is
      (all_from (λ r. 2 + r.hop) (λ s y. end_words n s) n (λ i e s y. refl) 0 0 (streams_of d)
      ∙ sym (whole (λ s. total (λ y. end_words n s) (entries n s)))
      ∙ total_like (λ s. total (λ y. end_words n s) (entries n s)) (ends_words n) (streams_of d) (length (streams_of d)) no_stream
      (omega arith)
      (λ k m. ends_of (stream_at d k))
      ∙ whole (ends_words n))
    where
      whole : (f : Stream → ℕ) → total f (take (length (streams_of d)) (streams_of d)) ≡ total f (streams_of d)
      whole f = ap (total f) (take-length (streams_of d))
