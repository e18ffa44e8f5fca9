-- Where the elements of a stream wait: its pipes say it one after the other, each for its own elements, from where its part begins.
-- Assumes a description that is not refused.
use Rattle.std.specs.Prelude.{◌≡◌, refl, Bool, true, false, cond, List, [], ◌∷◌, ℕ, suc, ◌+◌, ◌-◌, ◌≤◌, ◌<◌, eqb, pos, neg_ℤ, length}
use Rattle.std.specs.Prelude.{get_or}
use Rattle.std.proofs.Common.{sym, ◌∙◌, ap, subst, arith, eqb-true}
use Rattle.std.proofs.Math.Decide.{dec_le}
use Rattle.integers.specs.Vectors.{zero2, shift2}
use Rattle.integers.specs.declared.V2.{V2}
use Rattle.meaning.specs.declared.Nest.{Nest}
use Rattle.meaning.specs.declared.Stream.{Stream}
use Rattle.meaning.specs.declared.Description.{Description}
use Rattle.meaning.specs.Limits.{gauge_limits}
use Rattle.meaning.specs.Lists.{position, total}
use Rattle.meaning.specs.Space.{row_index, box_of, space, processes}
use Rattle.meaning.specs.Streams.{move, elements}
use Rattle.meaning.specs.Pipes.{before, is_pipe, entries, pipe_elements}
use Rattle.meaning.specs.Description.{description_of, streams_of, no_stream}
use Rattle.meaning.specs.Body.{stream_start}
use Rattle.meaning.specs.Array.{array_of, pipe_order, part_start}
use Rattle.meaning.specs.Accept.{refusal_of}
use Rattle.meaning.specs.Calls.{length_of}
use Rattle.meaning.specs.Points.{Inside}
use Rattle.lists.specs.Members.{filter_in}
use Rattle.lists.specs.Sums.{total_next}
use Rattle.lists.specs.Tests.{take_filter}
use Rattle.geometry.specs.Numbers.{yes_cond, zero_shift}
use Rattle.geometry.specs.Places.{rank, get_d_in, found}
use Rattle.geometry.specs.RowOrder.{row_lt, row_number}
use Rattle.geometry.specs.Segments.{at_box}
use Rattle.geometry.specs.Pipes.{Accepted}
use Rattle.geometry.proofs.Pipes.{in_on}
use Rattle.geometry.specs.Elements.{entry_of, part_of, home_of, index_of, entry_before, home_in, index_lt, element_home}
use Rattle.geometry.specs.Descriptions.{Laid, laid}
use Rattle.geometry.specs.Arrays.{stream_at}
use Rattle.addresses.specs.Pipes.{base, entry_at, part_start_lem}
use Rattle.addresses.specs.Through.{entry_number as entryRank, point_inside, entry_lt, entry_rank, entry_is_at}
use Rattle.addresses.specs.Orders.{element_place}
use Rattle.layout.specs.Spans.{process_of}
use Rattle.pipe_parts.specs.Starts.{entering, entering_entry, entering_pipe, entering_length, start_at}
use Rattle.figures.specs.Shares.{Described, described, start_most}
use Rattle.element_places.specs.Spread.{spread, spreads, spreads_length, Right, spreads_keeps, spreads_puts}

-- ---- of the pipe through process y

-- the number of its element k, after `first` others
abbrev pub number_on : Nest → Stream → ℕ → V2 → ℕ → ℕ
number_on n s first y k = first + row_index (box_of n s.map) (get_or (pipe_elements n s y) k zero2)

-- so many of its elements wait from `start` on, one after the other
abbrev pub said_on : Nest → Stream → ℕ → V2 → ℕ → ℕ → List ℕ → List ℕ
said_on n s first y start = spread (number_on n s first y) (λ k. start + k)

-- all of them, and how many they are
pub record Put (n : Nest) (s : Stream) (first start : ℕ) (y : V2) (places : List ℕ) (count : ℕ) (out : List ℕ) : Type 0 where
  pub counted : count ≡ length (pipe_elements n s y)
  pub few : count ≤ 4096
  pub said : out ≡ said_on n s first y start (length (pipe_elements n s y)) places

-- what the pipes of a stream say that enter at the first processes
abbrev pub said : Nest → Stream → ℕ → ℕ → List ℕ → List ℕ
said n s first =
    spreads (λ p. number_on n s first (process_of n p)) (λ p k. start_at n s first p + k) (entering_length n s)

-- its elements are the stream's
pub number_lt : {n : Nest} {s : Stream} → Accepted n s → {y : V2} → Inside (space n) y → (first k : ℕ) → k < length (pipe_elements n s y)
    → number_on n s first y k < first + length (elements n s)
number_lt {n} {s} h {y} hy first k l =
    let e = get_or (pipe_elements n s y) k zero2 in
    omega (
      arith,
      row_lt (box_of n s.map) e (at_box h.layout.dirs (in_on h hy (get_d_in (pipe_elements n s y) k zero2 l)).at),
    )

-- an element of a pipe that enters at process p
entered : (n : Nest) (s : Stream) (p k : ℕ) → k < entering_length n s p
    → (entering n s (process_of n p) ≡ true) × (k < length (pipe_elements n s (process_of n p)))
entered n s p k l = go (entering n s (process_of n p)) refl l
  where
    go : (b : Bool) → entering n s (process_of n p) ≡ b → k < cond b (length (pipe_elements n s (process_of n p))) 0
        → (entering n s (process_of n p) ≡ true) × (k < length (pipe_elements n s (process_of n p)))
    go true e l = (e, l)
    go false e l = absurd (omega arith)

-- ---- of element e

abbrev pub place_of_element : Description → ℕ → ℕ
place_of_element d e = position (eqb e) (pipe_order (array_of d))

-- words that hold the places of all elements
pub record PlacesOf (d : Description) (w : List ℕ) : Type 0 where
  pub places : (e : ℕ) → e < length_of d → get_or w e 0 ≡ position (eqb e) (pipe_order (array_of d))

-- an accepted description, as the functions ask
pub record Placeable (d : Description) : Type 0 where
  pub described : Described d
  pub laid : Laid d

pub placeable : (s : List ℕ) → refusal_of gauge_limits s ≡ 0 → Placeable (description_of s)
placeable s e = record { described = described s e; laid = laid gauge_limits s e }

module _ {d : Description} (l : Laid d) (i : ℕ) (hi : i < length (streams_of d)) where
  abbrev n : Nest
  n = d.nest

  abbrev s : Stream
  s = stream_at d i

  abbrev first : ℕ
  first = stream_start n (streams_of d) i

  -- the pipe that enters at process p waits in the part that begins there
  module _ (p : ℕ) (hp : p < length (processes n)) (enters : entering n s (process_of n p) ≡ true) where
    abbrev y : V2
    y = process_of n p

    -- the number of its entry among the stream's
    abbrev j : ℕ
    j = entryRank d p i

    on : is_pipe n s y ≡ true
    on = entering_pipe n s y enters

    hj : j < length (entries n s)
    hj = entry_lt l p i hp hi on

    itself : entry_of n s y ≡ y
    itself =
        ap (λ (k : ℕ). shift2 y (neg_ℤ (pos k)) (move n s))
        (eqb-true (before n s y) 0 (sym (entry_before (l.stream i hi) (point_inside l p hp)) ∙ entering_entry n s y enters))
        ∙ zero_shift y (move n s)

    entry : entry_at d i j ≡ y
    entry = entry_is_at l p i hp hi on ∙ itself

    start : part_start (array_of d) (base d i + j) ≡ start_at n s first p
    start =
        part_start_lem d i j hi hj l
        ∙ ap (λ (c : ℕ). first + part_of n s c)
        (entry_rank l p i hp hi on
        ∙ ap (λ (c : ℕ). rank (entering n s) c (processes n)) (ap (row_index (space n)) itself ∙ row_number (space n) p zero2 hp))
        ∙ ap (λ (m : List V2). first + total (λ y. length (pipe_elements n s y)) m) (take_filter (entering n s) p (processes n))

    pub place_right : (k : ℕ) → k < length (pipe_elements n s y) → start_at n s first p + k ≡ place_of_element d (number_on n s first y k)
    place_right k h =
        ap (λ (c : ℕ). c + k) (sym start)
        ∙ sym (element_place l i j k hi hj (subst (λ (v : V2). k < length (pipe_elements n s v)) (sym entry) h))
        ∙ ap (λ (v : V2). place_of_element d (number_on n s first v k)) entry

  -- every element is one of a pipe
  record On (j : ℕ) : Type 0 where
    pub process : ℕ
    pub lt : process < length (processes n)
    pub index : ℕ
    pub index_lt : index < entering_length n s process
    pub is : get_or (pipe_elements n s (process_of n process)) index zero2 ≡ get_or (elements n s) j zero2

  on_pipe_lem : (j : ℕ) → j < length (elements n s) → On j
  on_pipe_lem j h =
      let e = get_or (elements n s) j zero2 in
      let home = home_of n s e in
      let i' = get_d_in (elements n s) j zero2 h in
      let there = filter_in (entering n s) (processes n) (home_in (l.stream i hi) i').0 in
      let p = found zero2 there.mem in
      record {
        process = p.at;
        lt = p.lt;
        index = index_of n s e;
        index_lt = subst (λ (v : V2). index_of n s e < cond (entering n s v) (length (pipe_elements n s v)) 0) (sym p.is)
            (subst (λ (c : ℕ). index_of n s e < c) (sym (yes_cond (entering n s home) _ _ there.ok)) (index_lt (l.stream i hi) i'));
        is = ap (λ (v : V2). get_or (pipe_elements n s v) (index_of n s e) zero2) p.is ∙ element_home (l.stream i hi) zero2 i';
      }

  -- the places of the elements of the streams before, and then of this one
  pub stream_right : (xs out : List ℕ) → out ≡ said n s first (length (processes n)) xs
      → first + length (elements n s) ≤ length xs
      → ((e : ℕ) → e < first → get_or xs e 0 ≡ place_of_element d e)
      → (e : ℕ) → e < first + length (elements n s) → get_or out e 0 ≡ place_of_element d e
  stream_right xs out o room h e b = ap (λ (m : List ℕ). get_or m e 0) o ∙ go (dec_le (suc e) first)
    where
      right : Right (λ p. number_on n s first (process_of n p)) (λ p k. start_at n s first p + k) (entering_length n s)
          (place_of_element d) xs
          (length (processes n))
      right =
          record {
            words = λ p m k c. let e = entered n s p k c in place_right p m e.0 k e.1;
            room = λ p m k c. omega (arith, number_lt (l.stream i hi) (point_inside l p m) first k (entered n s p k c).1);
          }

      go : Dec (suc e ≤ first) → get_or (said n s first (length (processes n)) xs) e 0 ≡ place_of_element d e
      go (yes c) = spreads_keeps _ _ _ (place_of_element d) xs (length (processes n)) right e (h e c)
      go (no c) =
          let m : e - first < length (elements n s) = omega arith in
          let r = on_pipe_lem (e - first) m in
          let is = ap (row_index (box_of n s.map)) r.is ∙ row_number (box_of n s.map) (e - first) zero2 m in
          let q : number_on n s first (process_of n r.process) r.index ≡ e = omega (arith, is) in
          subst (λ (a : ℕ). get_or (said n s first (length (processes n)) xs) a 0 ≡ place_of_element d a) q
          (spreads_puts _ _ _ (place_of_element d) xs (length (processes n)) right r.process r.lt r.index r.index_lt)

-- ---- stream by stream

module _ (d : Description) (h : Described d) where
  pub start_next : (i : ℕ) → i < d.sizes.streams
      → stream_start d.nest (streams_of d) (i + 1) ≡ stream_start d.nest (streams_of d) i + length (elements d.nest (stream_at d i))
  start_next i l =
      let e : i + 1 ≡ suc i = omega arith in
      ap (stream_start d.nest (streams_of d)) e
      ∙ total_next (λ s. length (elements d.nest s)) (streams_of d) i no_stream (omega (arith, h.in_use))

  -- there is room for the elements of each stream
  pub stream_fits : (i : ℕ) → i < d.sizes.streams → {c : ℕ} → c ≡ 24576
      → stream_start d.nest (streams_of d) i + length (elements d.nest (stream_at d i)) ≤ c
  stream_fits i l e =
      omega (arith, start_most d h i (omega arith), h.few.few i (omega (arith, h.in_use)), h.few.ranged.sized.most_streams)

pub none_before : (d : Description) (e : ℕ) → e < stream_start d.nest (streams_of d) 0 → ⊥
unfolding total
none_before d e l = go (streams_of d) l
  where
    go : (ss : List Stream) → e < stream_start d.nest ss 0 → ⊥
    go [] l = omega arith
    go (t ∷ ss) l = omega arith

-- a turn of the loop over the streams
pub next_right : {d : Description} → Placeable d → (i : ℕ) → i < d.sizes.streams → (xs out : List ℕ)
    → out ≡ said d.nest (stream_at d i) (stream_start d.nest (streams_of d) i) (length (processes d.nest)) xs → length xs ≡ 24576
    → ((e : ℕ) → e < stream_start d.nest (streams_of d) i → get_or xs e 0 ≡ place_of_element d e)
    → (length out ≡ 24576) × ((e : ℕ) → e < stream_start d.nest (streams_of d) (i + 1) → get_or out e 0 ≡ place_of_element d e)
next_right {d} h i l xs out o w r = (
  ap length o ∙ spreads_length _ _ _ (length (processes d.nest)) xs ∙ w,
  λ e b. stream_right h.laid i (omega (arith, h.described.in_use)) xs out o (stream_fits d h.described i l w) r e
      (omega (arith, b, start_next d h.described i l)),
)
