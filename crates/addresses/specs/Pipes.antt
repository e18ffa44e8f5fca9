-- The array's pipes by number: pipe `base d i + j` is that of stream i which enters at its entry j; its elements, stops and hop, and where
-- its part of the waiting list begins. Assumes a description that is not refused where it says so.
use Rattle.std.specs.Prelude.{◌≡◌, get_or, take}
use Rattle.std.proofs.Math.Path.{refl, sym, ap, ap₂}
use Rattle.std.proofs.Common.{◌∙◌, subst, add-zero, zero-add, add_assoc, arith, get_or-append-add}
use mathlib.Core.List.{List, [], ◌∷◌, ◌++◌, map}
use Prim.Native.Nat.{ℕ, zero, suc, ◌+◌, ◌≤◌, ◌<◌}
use Rattle.std.proofs.Math.ListN.{length, length-map, get_or-append}
use Rattle.integers.specs.Vectors.{zero2}
use Rattle.integers.specs.declared.V2.{V2}
use Rattle.meaning.specs.declared.Nest.{Nest}
use Rattle.meaning.specs.declared.Stream.{Stream}
use Rattle.meaning.specs.declared.Description.{Description}
use Rattle.meaning.specs.Lists.{total}
use Rattle.meaning.specs.Space.{row_index, box_of}
use Rattle.meaning.specs.Streams.{hop, elements}
use Rattle.meaning.specs.Pipes.{pipe, entries, pipe_elements}
use Rattle.meaning.specs.Description.{no_stream, streams_of}
use Rattle.meaning.specs.Body.{stream_start}
use Rattle.meaning.specs.Array.{Pipe, stop_of, pipe_of, pipes_from, Array, array_of, pipe_number, no_pipe, pipe_at, stops_on, elements_on}
use Rattle.meaning.specs.Array.{part_start}
use Rattle.meaning.specs.Rules.{stream_on}
use Rattle.lists.specs.Members.{map_at}
use Rattle.lists.specs.Sums.{total_next, total_map_first, total_append, total_below, total_first, total_second, total_like}
use Rattle.geometry.specs.Elements.{part_of}
use Rattle.geometry.proofs.Elements.{pipes_total}
use Rattle.geometry.specs.Descriptions.{Laid}
use Rattle.geometry.specs.Arrays.{stream_at, pipe_count_lem}

-- the number of a stream's first pipe, by the streams before it
abbrev pub entry_count : Nest → Stream → ℕ
entry_count n s = length (entries n s)

abbrev pub base : Description → ℕ → ℕ
base d i = total (entry_count d.nest) (take i (streams_of d))

-- entry j of stream i
abbrev pub entry_at : Description → ℕ → ℕ → V2
entry_at d i j = get_or (entries d.nest (stream_at d i)) j zero2

-- ---- over a list of streams, of which the first has number i and its first element number e

pipe_from : (n : Nest) (i e : ℕ) (ss : List Stream) (k j : ℕ) → k < length ss → j < entry_count n (get_or ss k no_stream)
    → get_or (pipes_from n i e ss) (total (entry_count n) (take k ss) + j) no_pipe
    ≡ pipe_of n (i + k) (e + stream_start n ss k) (get_or ss k no_stream) (get_or (entries n (get_or ss k no_stream)) j zero2)
unfolding pipes_from total
pipe_from n i e [] k j h l = absurd (omega arith)
pipe_from n i e (s ∷ ss) zero j h l =
    let f = pipe_of n i e s in
    let rest = pipes_from n (suc i) (e + length (elements n s)) ss in
    ap (λ (c : ℕ). get_or (map f (entries n s) ++ rest) c no_pipe) (zero-add j)
    ∙ get_or-append (map f (entries n s)) rest no_pipe j (subst (λ (c : ℕ). j < c) (sym (length-map (entries n s) f)) l)
    ∙ map_at f (entries n s) j zero2 no_pipe l
    ∙ ap₂ (λ (a b : ℕ). pipe_of n a b s (get_or (entries n s) j zero2)) (sym (add-zero i)) (sym (add-zero e))
pipe_from n i e (s ∷ ss) (suc k) j h l =
    let f = pipe_of n i e s in
    let rest = pipes_from n (suc i) (e + length (elements n s)) ss in
    ap (λ (c : ℕ). get_or (map f (entries n s) ++ rest) c no_pipe)
    (add_assoc (entry_count n s) (total (entry_count n) (take k ss)) j
    ∙ ap (λ (c : ℕ). c + (total (entry_count n) (take k ss) + j)) (sym (length-map (entries n s) f)))
    ∙ get_or-append-add (map f (entries n s)) rest (total (entry_count n) (take k ss) + j) no_pipe
    ∙ pipe_from n (suc i) (e + length (elements n s)) ss k j (omega arith) l
    ∙ ap₂ (λ (a b : ℕ). pipe_of n a b (get_or ss k no_stream) (get_or (entries n (get_or ss k no_stream)) j zero2)) (one i k)
    (add_assoc e (length (elements n s)) (stream_start n ss k))
  where
    one : (i k : ℕ) → suc i + k ≡ i + suc k
    one i k = omega arith

-- a sum over the pipes before one is a sum over the streams before its stream and over the entries before its entry
module _ (f : Pipe → ℕ) (g : Stream → V2 → ℕ) (n : Nest) (same : (i e : ℕ) (s : Stream) (y : V2) → f (pipe_of n i e s y) ≡ g s y) where
  one_stream : (i e : ℕ) (s : Stream) (l : List V2) (j : ℕ) → j ≤ length l
      → total f (take j (map (pipe_of n i e s) l)) ≡ total (g s) (take j l)
  one_stream i e s l j h =
      total_map_first f (pipe_of n i e s) l j
      ∙ total_like (λ y. f (pipe_of n i e s y)) (g s) l j zero2 h (λ k m. same i e s (get_or l k zero2))

  all_entries : (i e : ℕ) (s : Stream) (l : List V2) → total f (map (pipe_of n i e s) l) ≡ total (g s) l
  unfolding total
  all_entries i e s [] = refl
  all_entries i e s (y ∷ l) = ap₂ ◌+◌ (same i e s y) (all_entries i e s l)

  pub before_from_lem : (i e : ℕ) (ss : List Stream) (k j : ℕ) → k < length ss → j ≤ entry_count n (get_or ss k no_stream)
      → total f (take (total (entry_count n) (take k ss) + j) (pipes_from n i e ss))
      ≡ total (λ s. total (g s) (entries n s)) (take k ss) + total (g (get_or ss k no_stream)) (take j (entries n (get_or ss k no_stream)))
  unfolding pipes_from total
  before_from_lem i e [] k j h l = absurd (omega arith)
  before_from_lem i e (s ∷ ss) zero j h l =
      let p = map (pipe_of n i e s) (entries n s) in
      let rest = pipes_from n (suc i) (e + length (elements n s)) ss in
      ap (λ (c : ℕ). total f (take c (p ++ rest))) (zero-add j)
      ∙ total_first f p rest j (subst (λ (c : ℕ). j ≤ c) (sym (length-map (entries n s) (pipe_of n i e s))) l)
      ∙ one_stream i e s (entries n s) j l ∙ sym (zero-add (total (g s) (take j (entries n s))))
  before_from_lem i e (s ∷ ss) (suc k) j h l =
      let p = map (pipe_of n i e s) (entries n s) in
      let rest = pipes_from n (suc i) (e + length (elements n s)) ss in
      ap (λ (c : ℕ). total f (take c (p ++ rest)))
      (add_assoc (entry_count n s) (total (entry_count n) (take k ss)) j
      ∙ ap (λ (c : ℕ). c + (total (entry_count n) (take k ss) + j)) (sym (length-map (entries n s) (pipe_of n i e s))))
      ∙ total_second f p rest (total (entry_count n) (take k ss) + j)
      ∙ ap₂ ◌+◌ (all_entries i e s (entries n s)) (before_from_lem (suc i) (e + length (elements n s)) ss k j (omega arith) l)
      ∙ sym (add_assoc (total (g s) (entries n s)) (total (λ s. total (g s) (entries n s)) (take k ss))
      (total (g (get_or ss k no_stream)) (take j (entries n (get_or ss k no_stream)))))

  -- and over all
  pub all_from : (i e : ℕ) (ss : List Stream) → total f (pipes_from n i e ss) ≡ total (λ s. total (g s) (entries n s)) ss
  unfolding pipes_from total
  all_from i e [] = refl
  all_from i e (s ∷ ss) =
      total_append f (map (pipe_of n i e s) (entries n s)) (pipes_from n (suc i) (e + length (elements n s)) ss)
      ∙ ap₂ ◌+◌ (all_entries i e s (entries n s)) (all_from (suc i) (e + length (elements n s)) ss)

-- ---- the pipes of an array

module _ (d : Description) where
  -- where the next stream's begin
  pub base_next : (i : ℕ) → i < length (streams_of d) → base d (suc i) ≡ base d i + length (entries d.nest (stream_at d i))
  base_next i h = total_next (entry_count d.nest) (streams_of d) i no_stream h

  module _ (i j : ℕ) (hi : i < length (streams_of d)) (hj : j < length (entries d.nest (stream_at d i))) where
    abbrev n : Nest
    n = d.nest

    abbrev A : Array
    A = array_of d

    abbrev s : Stream
    s = stream_at d i

    -- and the other way round
    pub pipe_lt : base d i + j < pipe_number A
    pipe_lt = subst (λ (c : ℕ). base d i + j < c) (sym (pipe_count_lem d)) (total_below (entry_count n) (streams_of d) i j no_stream hi hj)

    -- the pipe with that number
    pub pipe_at_lem : pipe_at A (base d i + j) ≡ pipe_of n i (stream_start n (streams_of d) i) s (entry_at d i j)
    unfolding array_of
    pipe_at_lem =
        pipe_from n 0 0 (streams_of d) i j hi hj
        ∙ ap₂ (λ (a b : ℕ). pipe_of n a b s (entry_at d i j)) (zero-add i) (zero-add (stream_start n (streams_of d) i))

    pub stream_on_lem : stream_on A (base d i + j) ≡ i
    stream_on_lem = ap (λ (r : Pipe). r.stream) pipe_at_lem

    pub hop_on : (pipe_at A (base d i + j)).hop ≡ hop n s
    hop_on = ap (λ (r : Pipe). r.hop) pipe_at_lem

    pub stops_on_lem : stops_on A (base d i + j) ≡ length (pipe n s (entry_at d i j))
    stops_on_lem = ap (λ (r : Pipe). length r.stops) pipe_at_lem ∙ length-map (pipe n s (entry_at d i j)) (stop_of n s)

    pub elements_on_lem : elements_on A (base d i + j) ≡ length (pipe_elements n s (entry_at d i j))
    elements_on_lem =
        ap (λ (r : Pipe). length r.elements) pipe_at_lem
        ∙ length-map (pipe_elements n s (entry_at d i j)) (λ p. stream_start n (streams_of d) i + row_index (box_of n s.map) p)

    -- where its part of the waiting list begins
    pub part_start_lem : Laid d → part_start A (base d i + j) ≡ stream_start n (streams_of d) i + part_of n s j
    unfolding array_of
    part_start_lem laid =
        before_from_lem (λ r. length r.elements) (λ s y. length (pipe_elements n s y)) n
        (λ i e s y. length-map (pipe_elements n s y) (λ p. e + row_index (box_of n s.map) p)) 0 0 (streams_of d) i j hi (omega arith)
        ∙ ap (λ (c : ℕ). c + part_of n s j)
        (total_like (λ s. total (λ y. length (pipe_elements n s y)) (entries n s)) (λ s. length (elements n s))
        (streams_of d) i no_stream (omega arith) (λ k m. pipes_total (laid.stream k (omega arith))))
