-- The pipes of an array by number: their stops and elements in the words of the geometry, and how processes stand on them. Assumes a
-- description that is not refused.
use Rattle.std.specs.Prelude.{◌≡◌, ◌⊎◌, Bool, true, false, not, ◌&&◌, List, map, ℕ, ◌+◌, ◌≤◌, ◌<◌, T, eqb, length}
use Rattle.std.proofs.Math.Path.{sym, ap}
use Rattle.std.proofs.Common.{◌∙◌, ap₂, subst, inl, inr, arith, eqb→eq, lt-ltb}
use mathlib.Core.List.Memᴰ.{map as in_map}
use Rattle.std.proofs.Math.Dec.{not_T, eqb_refl}
use Rattle.std.proofs.Math.ListN.{get_or, length-map}
use Rattle.integers.specs.Vectors.{zero2}
use Rattle.integers.specs.declared.V2.{V2}
use Rattle.meaning.specs.declared.Nest.{Nest}
use Rattle.meaning.specs.declared.Stream.{Stream}
use Rattle.meaning.specs.declared.Description.{Description}
use Rattle.meaning.specs.Lists.{any}
use Rattle.meaning.specs.Space.{box_of, row_index, space, processes, count, computing}
use Rattle.meaning.specs.Streams.{stationary, hop}
use Rattle.meaning.specs.Pipes.{pipe, before, pipe_elements, soak}
use Rattle.meaning.specs.Description.{no_stream, streams_of}
use Rattle.meaning.specs.Body.{stream_start}
use Rattle.meaning.specs.Array.{Stop, Pipe, stop_of, pipe_of, Array, array_of, count_at, instance_at, process_count, stream_count}
use Rattle.meaning.specs.Array.{pipe_number}
use Rattle.meaning.specs.Array.{no_stop, pipe_at, stops_on, elements_on, stop_at, is_stop, pipe_through, on_pipe, place_on}
use Rattle.meaning.specs.Rules.{process_on, stream_on}
use Rattle.meaning.specs.Points.{Inside}
use Rattle.lists.specs.Members.{map_at, yes_any}
use Rattle.geometry.specs.Numbers.{decide, both, yes_cond, no_cond}
use Rattle.geometry.specs.Places.{get_d_in}
use Rattle.geometry.specs.RowOrder.{row_lt}
use Rattle.geometry.specs.Processes.{run_at}
use Rattle.geometry.specs.Pipes.{Accepted, same_elements}
use Rattle.geometry.specs.Positions.{at_pipe}
use Rattle.geometry.specs.Elements.{entry_of, entries_entry}
use Rattle.geometry.specs.Descriptions.{Laid}
use Rattle.geometry.specs.Wiring.{process_at, element_at}
use Rattle.geometry.proofs.Wiring.{wired, flowing}
use Rattle.geometry.specs.Arrays.{stream_at, PipeIs, pipe_is, pipe_of_lem, through, place_on_lem}
use Rattle.lists.specs.Tests.{any_position, is_true, is_false}
use Rattle.network.specs.Wiring.{stop_pipe, element_at as element_on}
use Rattle.guarantee.specs.Instances.{process_count_lem, count_at_lem, run_at_lem, counted_lt, point_inside, point_number}

-- ---- tests

-- a process that does not compute has no instance
pub null_count : (n : Nest) (p : V2) → T (not (computing n p)) → count n p ≡ 0
null_count n p t = go (eqb (count n p) 0) (eqb→eq (count n p) 0) t
  where
    go : (b : Bool) → (T b → count n p ≡ 0) → T (not (not b)) → count n p ≡ 0
    go true f t = f tt
    go false f t = absurd t

pub some_count : (n : Nest) (p : V2) → 0 < count n p → T (computing n p)
some_count n p h = not_T (eqb (count n p) 0) (λ t. absurd (omega (arith, eqb→eq (count n p) 0 t)))

module _ {d : Description} (laid : Laid d) where
  abbrev n : Nest
  n = d.nest

  abbrev A : Array
  A = array_of d

  -- ---- a pipe of the array is a stream's pipe

  module _ {q : ℕ} (P : PipeIs d q) where
    abbrev s : Stream
    s = stream_at d P.stream

    abbrev y : V2
    y = P.entry

    pub accepted : Accepted n s
    accepted = laid.stream P.stream P.stream_lt

    pub stream_is : stream_on A q ≡ P.stream
    stream_is = ap (λ (r : Pipe). r.stream) P.is

    pub hop_of : (pipe_at A q).hop ≡ hop n s
    hop_of = ap (λ (r : Pipe). r.hop) P.is

    pub stops_are : (pipe_at A q).stops ≡ map (stop_of n s) (pipe n s y)
    stops_are = ap (λ (r : Pipe). r.stops) P.is

    pub stops_length : stops_on A q ≡ length (pipe n s y)
    stops_length = ap length stops_are ∙ length-map (pipe n s y) (stop_of n s)

    pub elements_length : elements_on A q ≡ length (pipe_elements n s y)
    elements_length =
        ap (λ (r : Pipe). length r.elements) P.is
        ∙ length-map (pipe_elements n s y) (λ p. stream_start n (streams_of d) P.stream + row_index (box_of n s.map) p)

    -- its elements by number
    pub element_is : (j : ℕ) → j < elements_on A q
        → element_on A q j ≡ stream_start n (streams_of d) P.stream + row_index (box_of n s.map) (element_at n s y j)
    element_is j h =
        ap (λ (r : Pipe). get_or r.elements j 0) P.is
        ∙ map_at (λ p. stream_start n (streams_of d) P.stream + row_index (box_of n s.map) p) (pipe_elements n s y) j zero2 0
        (omega (arith, elements_length))

    pub some_element : 0 < elements_on A q
    some_element = omega (arith, elements_length, ((wired accepted).enters y P.entry_in).2)

    -- ---- its stop at place k

    module _ (k : ℕ) (h : k < stops_on A q) where
      abbrev p : V2
      p = process_at n s y k

      on_pipe_lem : k < length (pipe n s y)
      on_pipe_lem = omega (arith, stops_length)

      stop_is : stop_at A q k ≡ stop_of n s p
      stop_is = ap (λ (l : List Stop). get_or l k no_stop) stops_are ∙ map_at (stop_of n s) (pipe n s y) k zero2 no_stop on_pipe_lem

      pub process_is : process_on A q k ≡ row_index (space n) p
      process_is = ap (λ (t : Stop). t.process) stop_is

      keeps_is : (stop_at A q k).keeps ≡ (stationary n s && computing n p)
      keeps_is = ap (λ (t : Stop). t.keeps) stop_is

      pub stop_inside : Inside (space n) p
      stop_inside = ((wired accepted).back y k P.entry_in on_pipe_lem).0

      pub stop_entry : entry_of n s p ≡ y
      stop_entry = ((wired accepted).back y k P.entry_in on_pipe_lem).1

      pub stop_place : before n s p ≡ k
      stop_place = ((wired accepted).back y k P.entry_in on_pipe_lem).2

      pub count_is : count_at A (process_on A q k) ≡ count n p
      count_is = ap (count_at A) process_is ∙ count_at_lem laid stop_inside

      -- its firings
      pub run_is : (f : ℕ) → f < count_at A (process_on A q k) → instance_at A (process_on A q k) f ≡ run_at n p f
      run_is f c = ap (λ (i : ℕ). instance_at A i f) process_is ∙ run_at_lem laid stop_inside f (omega (arith, count_is))

      -- a computing process's soak, and a null process's
      pub soak_computing : T (computing n p) → (stop_at A q k).soak ≡ soak n s p
      soak_computing t = ap (λ (t : Stop). t.soak) stop_is ∙ yes_cond (computing n p) (soak n s p) (length (pipe_elements n s p)) t

      soak_null : T (not (computing n p)) → (stop_at A q k).soak ≡ elements_on A q
      soak_null t =
          ap (λ (t : Stop). t.soak) stop_is ∙ no_cond (computing n p) (soak n s p) (length (pipe_elements n s p)) t
          ∙ ap length
          (same_elements accepted (entries_entry accepted P.entry_in).inside stop_inside (at_pipe accepted y k zero2 on_pipe_lem))
          ∙ sym elements_length

      -- of a moving stream no stop keeps; of a stationary one those keep that compute
      pub moving_keeps : T (not (stationary n s)) → (stop_at A q k).keeps ≡ false
      moving_keeps t = keeps_is ∙ ap (λ (b : Bool). b && computing n p) (is_false (stationary n s) t)

      pub still_keeps : T (stationary n s) → (stop_at A q k).keeps ≡ computing n p
      still_keeps t = keeps_is ∙ ap (λ (b : Bool). b && computing n p) (is_true (stationary n s) t)

      -- a stop that computes and does not keep is on a moving stream's pipe
      pub not_kept : (stop_at A q k).keeps ≡ false → T (computing n p) → T (not (stationary n s))
      not_kept e t = not_T (stationary n s) (λ u. subst T (sym (is_true (computing n p) t) ∙ sym (still_keeps u) ∙ e) tt)

      pub uses_within : (stop_at A q k).keeps ≡ false
          → (stop_at A q k).soak + count_at A (process_on A q k) ≤ elements_on A q
      uses_within e = go (decide (computing n p))
        where
          go : T (computing n p) ⊎ T (not (computing n p))
              → (stop_at A q k).soak + count_at A (process_on A q k) ≤ elements_on A q
          go (inl t) =
              omega (
                arith,
                soak_computing t,
                count_is,
                elements_length,
                (flowing accepted (not_kept e t)).room p t,
                ap (λ (w : V2). length (pipe_elements n s w)) stop_entry,
              )
          go (inr t) = omega (arith, soak_null t, count_is, null_count n p t)

      pub process_lt : process_on A q k < process_count A
      process_lt = omega (arith, process_is, process_count_lem laid, row_lt (space n) p stop_inside)

  -- ---- by number alone

  pub stream_lt : (q : ℕ) → q < pipe_number A → stream_on A q < stream_count A
  unfolding array_of
  stream_lt q h = omega (arith, stream_is (pipe_is d q h), (pipe_is d q h).stream_lt, length-map (streams_of d) (hop n))

  pub hop_is : (q : ℕ) → q < pipe_number A → get_or A.hops (stream_on A q) 0 ≡ (pipe_at A q).hop
  unfolding array_of
  hop_is q h =
      ap (λ (i : ℕ). get_or (map (hop n) (streams_of d)) i 0) (stream_is (pipe_is d q h))
      ∙ map_at (hop n) (streams_of d) (pipe_is d q h).stream no_stream 0 (pipe_is d q h).stream_lt ∙ sym (hop_of (pipe_is d q h))

  -- a process stands on one pipe of a stream, once
  pub pipe_through_lem : (q k : ℕ) → k < stops_on A q → pipe_through A (process_on A q k) (stream_on A q) ≡ q
  pipe_through_lem q k h =
      let l = stop_pipe A q k h in
      ap₂ (pipe_through A) (process_is (pipe_is d q l) k h) (stream_is (pipe_is d q l))
      ∙ through laid q l k (omega (arith, stops_length (pipe_is d q l)))

  pub place_is : (q k : ℕ) → k < stops_on A q → place_on A (process_on A q k) q ≡ k
  place_is q k h =
      let l = stop_pipe A q k h in
      ap (λ (p : ℕ). place_on A p q) (process_is (pipe_is d q l) k h)
      ∙ place_on_lem laid q l k (omega (arith, stops_length (pipe_is d q l)))

  -- a computing process is on a pipe of every stream
  pub on_all : (p i : ℕ) → 0 < count_at A p → i < length (streams_of d) → on_pipe A p i ≡ true
  on_all p i h l =
      let s = stream_at d i in
      let m = counted_lt laid p 0 h in
      let y = get_or (processes n) p zero2 in
      let e : row_index (space n) y ≡ p = point_number laid p m in
      let c : T (computing n y) =
      some_count n y (omega (arith, count_at_lem laid (point_inside laid p m), ap (count_at A) e)) in
      let o = (wired (laid.stream i l)).on y c in
      let r = pipe_of_lem d i (entry_of n s y) l o.0 in
      let on : T (any (is_stop p) (map (stop_of n s) (pipe n s (entry_of n s y)))) =
      yes_any (is_stop p) (in_map (stop_of n s) (get_d_in (pipe n s (entry_of n s y)) (before n s y) zero2 o.1))
      (subst (λ (k : ℕ). T (eqb k p)) (sym (ap (row_index (space n)) o.2 ∙ e)) (eqb_refl p)) in
      let t : T (passing (pipe_of n i (stream_start n (streams_of d) i) s (entry_of n s y))) =
      both (eqb i i) (any (is_stop p) (map (stop_of n s) (pipe n s (entry_of n s y)))) (eqb_refl i) on in
      lt-ltb (pipe_through A p i) (pipe_number A)
      (any_position passing A.pipes
      (is_true (any passing A.pipes)
      (yes_any passing (get_d_in A.pipes r.0 _ r.1) (subst (λ (w : Pipe). T (passing w)) (sym r.2) t))))
    where
      passing : Pipe → Bool
      passing r = eqb r.stream i && any (is_stop p) r.stops
