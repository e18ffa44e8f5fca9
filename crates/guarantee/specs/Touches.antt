-- The elements by number that the instances touch: those that their processes use, and in the written order where a stream is written.
-- Assumes a description that is not refused.
use Rattle.std.specs.Prelude.{◌≡◌, ◌⊎◌, Bool, true, false, not, cond, List, [], ◌∷◌, ℕ, zero, suc, ◌+◌, ◌<◌, T, length, get_or}
use Rattle.std.proofs.Common.{sym, ◌∙◌, ap, ap₂, subst, inl, inr, add-zero, zero-add, add_assoc, add_left_cancel, arith}
use Rattle.integers.specs.Vectors.{image}
use Rattle.integers.specs.declared.V3.{V3}
use Rattle.integers.specs.declared.V2.{V2}
use Rattle.meaning.specs.declared.Nest.{Nest}
use Rattle.meaning.specs.declared.Stream.{Stream}
use Rattle.meaning.specs.declared.Description.{Description}
use Rattle.meaning.specs.Lists.{total}
use Rattle.meaning.specs.Loops.{place_of}
use Rattle.meaning.specs.Space.{box_of, row_index, space, count, computing}
use Rattle.meaning.specs.Streams.{stationary, elements}
use Rattle.meaning.specs.Pipes.{pipe, before, pipe_elements, soak}
use Rattle.meaning.specs.Description.{no_stream, streams_of, written}
use Rattle.meaning.specs.Body.{stream_start, touched_from, touched_by}
use Rattle.meaning.specs.Array.{Array, array_of, stops_on, elements_on, stop_at}
use Rattle.meaning.specs.Rules.{process_on, stream_on}
use Rattle.lists.specs.Tests.{is_true}
use Rattle.geometry.specs.Numbers.{decide}
use Rattle.geometry.specs.Boxes.{inside_points, points_inside, box_has}
use Rattle.geometry.specs.Processes.{run_at, firing_of}
use Rattle.geometry.proofs.Processes.{firing_lt, instance_firing}
use Rattle.geometry.specs.Elements.{entry_of, home_of, index_of}
use Rattle.geometry.specs.Descriptions.{Laid}
use Rattle.geometry.specs.Wiring.{process_at, element_at}
use Rattle.geometry.proofs.Wiring.{wired, flowing, keeping, meeting}
use Rattle.geometry.specs.Arrays.{stream_at, PipeIs, pipe_is, pipe_of_lem, one_number}
use Rattle.abstract_network.specs.Turns.{Before, upstream, sooner}
use Rattle.network.specs.Wiring.{kind_of, net_of, rank_at, used_index, UsedAt, stop_pipe, element_pipe, element_at as element_on}
use Rattle.guarantee.specs.Instances.{instance_number, instance_count, owner, firing, within, owner_inside}
use Rattle.guarantee.specs.Stops.{some_count, accepted, stream_is, stops_length, elements_length, element_is, process_is, stop_inside}
use Rattle.guarantee.specs.Stops.{stop_entry, count_is, soak_computing, moving_keeps, still_keeps, uses_within}
use Rattle.guarantee.specs.Ranks.{rank_soak, rank_lt}

-- ---- the element that an instance touches

-- the number of the element of stream k that x touches
abbrev pub touched_at : Description → V3 → ℕ → ℕ
touched_at d x k = stream_start d.nest (streams_of d) k + row_index (box_of d.nest (stream_at d k).map) (image (stream_at d k).map x)

touched_from_lem : (n : Nest) (e : ℕ) (ss : List Stream) (x : V3) (k : ℕ) → k < length ss
    → get_or (touched_from n e ss x) k 0
    ≡ e + stream_start n ss k + row_index (box_of n (get_or ss k no_stream).map) (image (get_or ss k no_stream).map x)
unfolding touched_from total
touched_from_lem n e [] x k h = absurd (omega arith)
touched_from_lem n e (s ∷ ss) x zero h = ap (λ (c : ℕ). c + row_index (box_of n s.map) (image s.map x)) (sym (add-zero e))
touched_from_lem n e (s ∷ ss) x (suc k) h =
    touched_from_lem n (e + length (elements n s)) ss x k (omega arith)
    ∙ ap (λ (c : ℕ). c + row_index (box_of n (get_or ss k no_stream).map) (image (get_or ss k no_stream).map x))
    (add_assoc e (length (elements n s)) (stream_start n ss k))

-- it is the one that the plain run touches
pub touched_by_lem : (d : Description) (x : V3) (k : ℕ) → k < length (streams_of d) → get_or (touched_by d x) k 0 ≡ touched_at d x k
touched_by_lem d x k h =
    touched_from_lem d.nest 0 (streams_of d) x k h
    ∙ ap (λ (c : ℕ). c + row_index (box_of d.nest (stream_at d k).map) (image (stream_at d k).map x))
    (zero-add (stream_start d.nest (streams_of d) k))

module _ {d : Description} (laid : Laid d) where
  abbrev n : Nest
  n = d.nest

  abbrev A : Array
  A = array_of d

  module _ (i : ℕ) (hi : i < instance_count d) where
    abbrev x : V3
    x = instance_number d i

    owner_computing : T (computing n (place_of n x))
    owner_computing = let h = firing_lt laid.layout (within laid i hi) in some_count n (place_of n x) (omega arith)

    -- two instances that touch one number of a stream touch one element
    same_element : (k i' : ℕ) → k < length (streams_of d) → i' < instance_count d → touched_at d x k ≡ touched_at d (instance_number d i') k
        → image (stream_at d k).map x ≡ image (stream_at d k).map (instance_number d i')
    same_element k i' l h e =
        one_number (box_of n (stream_at d k).map) (box_has laid.layout.dirs (stream_at d k).map (within laid i hi))
        (box_has laid.layout.dirs (stream_at d k).map (within laid i' h)) (add_left_cancel (stream_start n (streams_of d) k) e)

    module _ {q : ℕ} (P : PipeIs d q) where
      abbrev s : Stream
      s = stream_at d P.stream

      abbrev y : V2
      y = P.entry

      -- the elements of a pipe by number and by index
      element_touched : (j : ℕ) → j < elements_on A q → image s.map x ≡ element_at n s y j
          → touched_at d x (stream_on A q) ≡ element_on A q j
      element_touched j h e =
          ap (touched_at d x) (stream_is laid P) ∙ ap (λ (w : V2). stream_start n (streams_of d) P.stream + row_index (box_of n s.map) w) e
          ∙ sym (element_is laid P j h)

      touched_element : (j : ℕ) → j < elements_on A q → touched_at d x (stream_on A q) ≡ element_on A q j
          → image s.map x ≡ element_at n s y j
      touched_element j h e =
          one_number (box_of n s.map) (box_has laid.layout.dirs s.map (within laid i hi))
          (points_inside (box_of n s.map) (element_at n s y j)
          ((wired (accepted laid P)).element y j P.entry_in (omega (arith, elements_length laid P))).0)
          (add_left_cancel (stream_start n (streams_of d) P.stream)
          (sym (ap (touched_at d x) (stream_is laid P)) ∙ e ∙ element_is laid P j h))

      -- the index that a stop uses, by whether it keeps
      index_kept : (k : ℕ) → (stop_at A q k).keeps ≡ true → used_index A q k (firing d i) ≡ rank_at A q k
      index_kept k e = ap (λ (b : Bool). cond b (rank_at A q k) ((stop_at A q k).soak + firing d i)) e

      index_through : (k : ℕ) → (stop_at A q k).keeps ≡ false → used_index A q k (firing d i) ≡ (stop_at A q k).soak + firing d i
      index_through k e = ap (λ (b : Bool). cond b (rank_at A q k) ((stop_at A q k).soak + firing d i)) e

      -- an instance touches what its process uses at the pipe
      touch_on : (k : ℕ) → k < stops_on A q → process_on A q k ≡ owner d i
          → touched_at d x (stream_on A q) ≡ element_on A q (used_index A q k (firing d i))
      touch_on k h e = go (decide (stationary n s))
        where
          j : ℕ
          j = used_index A q k (firing d i)

          w : process_at n s y k ≡ place_of n x
          w = one_number (space n) (stop_inside laid P k h) (owner_inside laid i hi) (sym (process_is laid P k h) ∙ e)

          c : T (computing n (process_at n s y k))
          c = subst (λ (p : V2). T (computing n p)) (sym w) owner_computing

          f : firing_of n x < count n (process_at n s y k)
          f = subst (λ (p : V2). firing_of n x < count n p) (sym w) (firing_lt laid.layout (within laid i hi))

          run : run_at n (process_at n s y k) (firing_of n x) ≡ x
          run = ap (λ (p : V2). run_at n p (firing_of n x)) w ∙ instance_firing laid.layout (within laid i hi)

          go : T (stationary n s) ⊎ T (not (stationary n s)) → touched_at d x (stream_on A q) ≡ element_on A q j
          go (inl t) =
              let g : j ≡ rank_at A q k = index_kept k (still_keeps laid P k h t ∙ is_true (computing n (process_at n s y k)) c) in
              element_touched j (omega (arith, rank_lt laid P k h t c))
              (ap (image s.map) (sym run) ∙ (keeping (accepted laid P) t).keeps_element (process_at n s y k) (firing_of n x) f
              ∙ ap₂ (element_at n s) (stop_entry laid P k h) (sym (g ∙ rank_soak laid P k h t c)))
          go (inr t) =
              let m = moving_keeps laid P k h t in
              let g : j ≡ (stop_at A q k).soak + firing d i = index_through k m in
              element_touched j (omega (arith, uses_within laid P k h m, count_is laid P k h, f))
              (ap (image s.map) (sym run) ∙ (flowing (accepted laid P) t).uses_element (process_at n s y k) (firing_of n x) f
              ∙ ap₂ (element_at n s) (stop_entry laid P k h) (sym (g ∙ ap (λ (a : ℕ). a + firing d i) (soak_computing laid P k h c))))

      -- where it touches an element of the pipe, its process stands there
      module _ (j : ℕ) (hj : j < elements_on A q) (e : image s.map x ≡ element_at n s y j) where
        abbrev place : ℕ
        place = before n s (place_of n x)

        here : entry_of n s (place_of n x) ≡ y
        here = go (decide (stationary n s)) (omega (arith, elements_length laid P))
          where
            go : T (stationary n s) ⊎ T (not (stationary n s)) → j < length (pipe_elements n s y) → entry_of n s (place_of n x) ≡ y
            go (inl t) l = ((keeping (accepted laid P) t).touches_kept x y j (within laid i hi) P.entry_in l e).0
            go (inr t) l = ((flowing (accepted laid P) t).touches_element x y j (within laid i hi) P.entry_in l e).0

        use_on : place < stops_on A q
        use_on =
            omega (
              arith,
              stops_length laid P,
              ((wired (accepted laid P)).on (place_of n x) owner_computing).1,
              ap (λ (w : V2). length (pipe n s w)) here,
            )

        use_at : process_at n s y place ≡ place_of n x
        use_at = ap (λ (w : V2). process_at n s w place) (sym here) ∙ ((wired (accepted laid P)).on (place_of n x) owner_computing).2

        use_process : process_on A q place ≡ owner d i
        use_process = process_is laid P place use_on ∙ ap (row_index (space n)) use_at

        use_computing : T (computing n (process_at n s y place))
        use_computing = subst (λ (w : V2). T (computing n w)) (sym use_at) owner_computing

        use_soak : (stop_at A q place).soak ≡ soak n s (place_of n x)
        use_soak = soak_computing laid P place use_on use_computing ∙ ap (soak n s) use_at

        -- and uses it, of a moving stream as its index says
        use_index : T (not (stationary n s)) → j ≡ (stop_at A q place).soak + firing d i
        use_index t =
            sym (ap (λ (a : ℕ). a + firing d i) use_soak
            ∙ ((flowing (accepted laid P) t).touches_element x y j (within laid i hi) P.entry_in
            (omega (arith, elements_length laid P)) e).1)

        used_index_lem : used_index A q place (firing d i) ≡ j
        used_index_lem = go (decide (stationary n s))
          where
            go : T (stationary n s) ⊎ T (not (stationary n s)) → used_index A q place (firing d i) ≡ j
            go (inl t) =
                index_kept place (still_keeps laid P place use_on t ∙ is_true (computing n (process_at n s y place)) use_computing)
                ∙ rank_soak laid P place use_on t use_computing ∙ ap (soak n s) use_at
                ∙ ((keeping (accepted laid P) t).touches_kept x y j (within laid i hi) P.entry_in
                (omega (arith, elements_length laid P)) e).1
            go (inr t) = index_through place (moving_keeps laid P place use_on t) ∙ sym (use_index t)

  -- ---- by number alone

  -- an instance touches what its process uses at a pipe
  pub touch : (i q k : ℕ) → i < instance_count d → k < stops_on A q → process_on A q k ≡ owner d i
      → touched_at d (instance_number d i) (stream_on A q) ≡ element_on A q (used_index A q k (firing d i))
  touch i q k hi h e = touch_on i hi (pipe_is d q (stop_pipe A q k h)) k h e

  -- and nothing else of it
  pub find : (i q j : ℕ) → i < instance_count d → j < elements_on A q
      → touched_at d (instance_number d i) (stream_on A q) ≡ element_on A q j → UsedAt A (owner d i) (firing d i) q j
  find i q j hi hj e =
      let P = pipe_is d q (element_pipe A q j hj) in
      let e' = touched_element i hi P j hj e in
      record {
        place = before n (stream_at d P.stream) (place_of n (instance_number d i));
        on = use_on i hi P j hj e';
        process = use_process i hi P j hj e';
        index = used_index_lem i hi P j hj e';
      }

  -- of two instances that touch one element of a written stream the one before in written order comes to it before
  pub meets : (k : ℕ) → k < length (streams_of d) → T (written d k) → (i i' : ℕ) → i < i' → i' < instance_count d
      → touched_at d (instance_number d i) k ≡ touched_at d (instance_number d i') k → Before (net_of A) (owner d) (firing d) i i'
  meets k l w i i' h hi' e = go (decide (stationary n s))
    where
      s : Stream
      s = stream_at d k

      hi : i < instance_count d
      hi = omega arith

      x : V3
      x = instance_number d i

      same : image s.map x ≡ image s.map (instance_number d i')
      same = same_element i hi k i' l hi' e

      go : T (stationary n s) ⊎ T (not (stationary n s)) → Before (net_of A) (owner d) (firing d) i i'
      go (inl t) =
          let r = (meeting (laid.stream k l) (laid.leads k l w)).meets_kept t i i' h hi' same in
          sooner (ap (row_index (space n)) r.0) r.1
      go (inr t) =
          let v = (wired (laid.stream k l)
          ).home (image s.map x)
          (inside_points (box_of n s.map) (image s.map x) (box_has laid.layout.dirs s.map (within laid i hi))) in
          let y = home_of n s (image s.map x) in
          let j = index_of n s (image s.map x) in
          let r = pipe_of_lem d k y l v.0 in
          let q = r.0 in
          let P : PipeIs d q = record { stream = k; stream_lt = l; entry = y; entry_in = v.0; is = r.2 } in
          let hj : j < elements_on A q = omega (arith, elements_length laid P, v.1) in
          let f : image s.map x ≡ element_at n s y j = sym v.2 in
          let f' : image s.map (instance_number d i') ≡ element_at n s y j = sym same ∙ f in
          upstream q (before n s (place_of n x)) (before n s (place_of n (instance_number d i')))
          ((meeting (laid.stream k l) (laid.leads k l w)).meets_flowing t i i' h hi' same)
          (use_on i' hi' P j hj f')
          (use_process i hi P j hj f)
          (use_process i' hi' P j hj f')
          (ap kind_of (moving_keeps laid P (before n s (place_of n x)) (use_on i hi P j hj f) t))
          (ap kind_of (moving_keeps laid P (before n s (place_of n (instance_number d i'))) (use_on i' hi' P j hj f') t))
          (sym (use_index i hi P j hj f t) ∙ use_index i' hi' P j hj f' t)
