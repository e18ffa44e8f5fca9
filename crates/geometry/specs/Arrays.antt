-- The array's pipes by number: each is a stream's pipe at one of its entries, each entry has one, and `pipe_through` and `place_on` find a
-- process's pipe and its position there. Assumes a description that is not refused.
use Rattle.std.specs.Prelude.{◌≡◌, refl, ◌⊎◌, Bool, ◌&&◌, ℕ, zero, suc, ◌+◌, ◌<◌, T, eqb, length, get_or}
use Rattle.std.proofs.Math.Path.{sym, ap}
use Rattle.std.proofs.Common.{◌∙◌, ap₂, subst, inl, inr, add-zero, zero-add, add_assoc, arith, eqb→eq, length-append}
use mathlib.Core.List.Memᴰ
use mathlib.Core.List.Memᴰ.{map as in_map}
use mathlib.Core.List.{List, [], ◌∷◌, ◌++◌, map, Memᴰ as In}
use Rattle.std.proofs.Math.Dec.{eqb_refl}
use Rattle.std.proofs.lemmas.List.{length-map}
use Rattle.integers.specs.Vectors.{zero2}
use Rattle.integers.specs.declared.V2.{V2}
use Rattle.meaning.specs.declared.Nest.{Nest}
use Rattle.meaning.specs.declared.Description.{Description}
use Rattle.meaning.specs.declared.Stream.{Stream}
use Rattle.meaning.specs.Lists.{any, position, total}
use Rattle.meaning.specs.Space.{Box, points, row_index, space}
use Rattle.meaning.specs.Streams.{elements}
use Rattle.meaning.specs.Pipes.{pipe, before, is_pipe, is_entry, entries}
use Rattle.meaning.specs.Description.{no_stream, streams_of}
use Rattle.meaning.specs.Array.{Stop, Pipe, stop_of, pipe_of, pipes_from, array_of, pipe_number, no_pipe, no_stop, pipe_at, is_stop}
use Rattle.meaning.specs.Array.{pipe_through}
use Rattle.meaning.specs.Array.{place_on}
use Rattle.meaning.specs.Body.{stream_start}
use Rattle.meaning.specs.Points.{Inside}
use Rattle.meaning.specs.Sorted.{Sorted, Sorted.none}
use Rattle.lists.specs.Members.{any_yes, yes_any, map_in, map_at}
use Rattle.geometry.specs.Sorting.{sorted_filter, sorted_append, sorted_by_map}
use Rattle.geometry.specs.Numbers.{and_left, and_right, both}
use Rattle.geometry.specs.Places.{get_d_in, found, sorted_at, position_is}
use Rattle.geometry.specs.Boxes.{row_distinct, points_sorted}
use Rattle.geometry.specs.RowOrder.{row_at_lem}
use Rattle.geometry.specs.Pipes.{Accepted, in_pipe}
use Rattle.geometry.specs.Positions.{at_inside, before_at}
use Rattle.geometry.specs.Elements.{entry_of, entries_entry}
use Rattle.geometry.specs.Descriptions.{Laid}
use Rattle.geometry.specs.Wiring.{process_at, entry_back}

-- a stream by its number
abbrev pub stream_at : Description → ℕ → Stream
stream_at d k = get_or (streams_of d) k no_stream

-- pipe q is that of stream number `stream` which enters at `entry`
pub record PipeIs (d : Description) (q : ℕ) : Type 0 where
  pub stream : ℕ
  pub stream_lt : stream < length (streams_of d)
  pub entry : V2
  pub entry_in : In entry (entries d.nest (stream_at d stream))
  pub is : pipe_at (array_of d) q
      ≡ pipe_of d.nest stream (stream_start d.nest (streams_of d) stream) (stream_at d stream) entry

-- ---- the list of pipes, by labels

record Label : Type 0 where
  stream : ℕ
  start : ℕ
  source : Stream
  entry : V2

abbrev label : ℕ → ℕ → Stream → V2 → Label
label i e s y = record { stream = i; start = e; source = s; entry = y }

abbrev no_label : Label
no_label = label 0 0 no_stream zero2

abbrev labelled : Nest → Label → Pipe
labelled n t = pipe_of n t.stream t.start t.source t.entry

unfoldable labels_from : Nest → ℕ → ℕ → List Stream → List Label
labels_from n i e [] = []
labels_from n i e (s ∷ ss) = map (label i e s) (entries n s) ++ labels_from n (suc i) (e + length (elements n s)) ss

map_join : {X A B : Type 0} (h : X → A) (g : A → B) (l : List X) (l' : List A) → map (λ x. g (h x)) l ++ map g l' ≡ map g (map h l ++ l')
map_join h g [] l' = refl
map_join h g (x ∷ l) l' = λ i. g (h x) ∷ map_join h g l l' i

pipes_are : (n : Nest) (i e : ℕ) (ss : List Stream) → pipes_from n i e ss ≡ map (labelled n) (labels_from n i e ss)
unfolding pipes_from labels_from
pipes_are n i e [] = refl
pipes_are n i e (s ∷ ss) =
    ap (λ (r : List Pipe). map (pipe_of n i e s) (entries n s) ++ r) (pipes_are n (suc i) (e + length (elements n s)) ss)
    ∙ map_join (label i e s) (labelled n) (entries n s) (labels_from n (suc i) (e + length (elements n s)) ss)

-- what a label says
record LabelIs (n : Nest) (i e : ℕ) (ss : List Stream) (t : Label) : Type 0 where
  at : ℕ
  lt : at < length ss
  stream : t.stream ≡ i + at
  source : t.source ≡ get_or ss at no_stream
  start : t.start ≡ e + stream_start n ss at
  entry : In t.entry (entries n t.source)

labels_are : (n : Nest) (i e : ℕ) (ss : List Stream) {t : Label} → In t (labels_from n i e ss) → LabelIs n i e ss t
unfolding labels_from total
labels_are n i e [] j = elim j [ ]
labels_are n i e (s ∷ ss) {t} j =
    go (Memᴰ.append_cases (map (label i e s) (entries n s)) j) (labels_are n (suc i) (e + length (elements n s)) ss)
  where
    go : In t (map (label i e s) (entries n s)) ⊎ In t (labels_from n (suc i) (e + length (elements n s)) ss)
        → (In t (labels_from n (suc i) (e + length (elements n s)) ss) → LabelIs n (suc i) (e + length (elements n s)) ss t)
        → LabelIs n i e (s ∷ ss) t
    go (inl k) ih =
        let r = map_in (label i e s) (entries n s) k in
        record {
          at = 0;
          lt = omega arith;
          stream = ap (λ (t : Label). t.stream) r.is ∙ sym (add-zero i);
          source = ap (λ (t : Label). t.source) r.is;
          start = ap (λ (t : Label). t.start) r.is ∙ sym (add-zero e);
          entry = subst (λ (t : Label). In t.entry (entries n t.source)) (sym r.is) r.mem;
        }
    go (inr k) ih =
        let r = ih k in
        record {
          at = suc r.at;
          lt = omega (arith, r.lt);
          stream = r.stream ∙ one i r.at;
          source = r.source;
          start = r.start ∙ add_assoc e (length (elements n s)) (stream_start n ss r.at);
          entry = r.entry;
        }
      where
        one : (i k : ℕ) → suc i + k ≡ i + suc k
        one i k = omega arith

labels_in : (n : Nest) (i e : ℕ) (ss : List Stream) (k : ℕ) {y : V2} → k < length ss → In y (entries n (get_or ss k no_stream))
    → In (label (i + k) (e + stream_start n ss k) (get_or ss k no_stream) y) (labels_from n i e ss)
unfolding labels_from total
labels_in n i e [] k h j = absurd (omega arith)
labels_in n i e (s ∷ ss) zero {y} h j =
    Memᴰ.append_left (labels_from n (suc i) (e + length (elements n s)) ss)
    (Memᴰ.cast (ap₂ (λ (a b : ℕ). label a b s y) (add-zero i) (add-zero e)) (in_map (label i e s) j))
labels_in n i e (s ∷ ss) (suc k) {y} h j =
    Memᴰ.append_right (map (label i e s) (entries n s))
    (Memᴰ.cast
    (ap₂ (λ (a b : ℕ). label a b (get_or ss k no_stream) y) (one i k) (sym (add_assoc e (length (elements n s)) (stream_start n ss k))))
    (labels_in n (suc i) (e + length (elements n s)) ss k (omega arith) j))
  where
    one : (i k : ℕ) → i + suc k ≡ suc i + k
    one i k = omega arith

-- no two have one stream and one entry
abbrev Apart : Label → Label → Type 0
Apart t t' = t.stream ≡ t'.stream → t.entry ≡ t'.entry → ⊥

labels_apart : (n : Nest) (i e : ℕ) (ss : List Stream) → Sorted Apart (labels_from n i e ss)
unfolding labels_from
labels_apart n i e [] = none
labels_apart n i e (s ∷ ss) =
    sorted_append
    (sorted_by_map (label i e s) (λ y y' f p q. f q)
    (sorted_filter (λ y. is_entry n s y && is_pipe n s y) (row_distinct (points_sorted (space n)))))
    (labels_apart n (suc i) (e + length (elements n s)) ss)
    (λ t t' j j' p q.
    let r = map_in (label i e s) (entries n s) j in
    let r' = labels_are n (suc i) (e + length (elements n s)) ss j' in
    later t.stream t'.stream r'.at (ap (λ (t : Label). t.stream) r.is) r'.stream p)
  where
    later : (a b k : ℕ) → a ≡ i → b ≡ suc i + k → a ≡ b → ⊥
    later a b k p q r = omega arith

pipes_length_from : (n : Nest) (i e : ℕ) (ss : List Stream) → length (pipes_from n i e ss) ≡ total (λ s. length (entries n s)) ss
unfolding pipes_from total
pipes_length_from n i e [] = refl
pipes_length_from n i e (s ∷ ss) =
    length-append (map (pipe_of n i e s) (entries n s)) (pipes_from n (suc i) (e + length (elements n s)) ss)
    ∙ ap₂ ◌+◌ (length-map (entries n s) (pipe_of n i e s)) (pipes_length_from n (suc i) (e + length (elements n s)) ss)

-- ---- the array's pipes

module _ (d : Description) where
  abbrev labels : List Label
  labels = labels_from d.nest 0 0 (streams_of d)

  array_pipes : (array_of d).pipes ≡ map (labelled d.nest) labels
  unfolding array_of
  array_pipes = pipes_are d.nest 0 0 (streams_of d)

  pipe_number_lem : pipe_number (array_of d) ≡ length labels
  pipe_number_lem = ap length array_pipes ∙ length-map labels (labelled d.nest)

  in_labels : (q : ℕ) → q < pipe_number (array_of d) → q < length labels
  in_labels q h = omega (arith, pipe_number_lem)

  labelled_at : (q : ℕ) → q < length labels → pipe_at (array_of d) q ≡ labelled d.nest (get_or labels q no_label)
  labelled_at q h = ap (λ (r : List Pipe). get_or r q no_pipe) array_pipes ∙ map_at (labelled d.nest) labels q no_label no_pipe h

  label_is : (q : ℕ) → q < length labels → LabelIs d.nest 0 0 (streams_of d) (get_or labels q no_label)
  label_is q h = labels_are d.nest 0 0 (streams_of d) (get_d_in labels q no_label h)

  -- there are as many as the streams have entries
  pub pipe_count_lem : pipe_number (array_of d) ≡ total (λ s. length (entries d.nest s)) (streams_of d)
  unfolding array_of
  pipe_count_lem = pipes_length_from d.nest 0 0 (streams_of d)

  -- each pipe is that of a stream and an entry
  pub pipe_is : (q : ℕ) → q < pipe_number (array_of d) → PipeIs d q
  pipe_is q h =
      let k = in_labels q h in
      let r = label_is q k in
      let t = get_or labels q no_label in
      record {
        stream = r.at;
        stream_lt = r.lt;
        entry = t.entry;
        entry_in = subst (λ (s : Stream). In t.entry (entries d.nest s)) r.source r.entry;
        is =
            labelled_at q k
            ∙ ap₂ (λ (a b : ℕ). pipe_of d.nest a b t.source t.entry) (r.stream ∙ zero-add r.at)
            (r.start ∙ zero-add (stream_start d.nest (streams_of d) r.at))
            ∙ ap (λ (s : Stream). pipe_of d.nest r.at (stream_start d.nest (streams_of d) r.at) s t.entry) r.source;
      }

  -- of different streams or entries
  pub pipes_apart : (j q : ℕ) (hj : j < pipe_number (array_of d)) (hq : q < pipe_number (array_of d)) → j < q
      → (pipe_is j hj).stream ≡ (pipe_is q hq).stream → (pipe_is j hj).entry ≡ (pipe_is q hq).entry → ⊥
  unfolding pipe_is
  pipes_apart j q hj hq c e g =
      sorted_at (labels_apart d.nest 0 0 (streams_of d)) j q no_label c (in_labels q hq)
      ((label_is j (in_labels j hj)).stream ∙ ap (λ (a : ℕ). 0 + a) e ∙ sym (label_is q (in_labels q hq)).stream) g

  -- and every entry of every stream has its pipe
  pub pipe_of_lem : (k : ℕ) (y : V2) → k < length (streams_of d) → In y (entries d.nest (stream_at d k))
      → (q : ℕ) × (q < pipe_number (array_of d))
      × (pipe_at (array_of d) q ≡ pipe_of d.nest k (stream_start d.nest (streams_of d) k) (stream_at d k) y)
  pipe_of_lem k y h i =
      let r = found no_label (labels_in d.nest 0 0 (streams_of d) k h i) in (
        r.at,
        omega (arith, pipe_number_lem, r.lt),
        labelled_at r.at r.lt ∙ ap (labelled d.nest) r.is
            ∙ ap₂ (λ (a b : ℕ). pipe_of d.nest a b (stream_at d k) y) (zero-add k) (zero-add (stream_start d.nest (streams_of d) k)),
      )

-- ---- a process on its pipe

-- two points of a box with one number are one
pub one_number : (k : Box) {p p' : V2} → Inside k p → Inside k p' → row_index k p ≡ row_index k p' → p ≡ p'
one_number k {p} {p'} h h' e = sym (row_at_lem k p zero2 h) ∙ ap (λ (i : ℕ). get_or (points k) i zero2) e ∙ row_at_lem k p' zero2 h'

module _ {d : Description} (laid : Laid d) where
  -- the pipes of a stream pass a point once: where a pipe of stream k has a stop with the point's number, it is the one through the point
  stop_entry : (k : ℕ) (y : V2) (p : V2) → k < length (streams_of d) → In y (entries d.nest (stream_at d k)) → Inside (space d.nest) p
      → T (any (is_stop (row_index (space d.nest) p)) (map (stop_of d.nest (stream_at d k)) (pipe d.nest (stream_at d k) y)))
      → entry_of d.nest (stream_at d k) p ≡ y
  stop_entry k y p l i hp t =
      let s = stream_at d k in
      let h = laid.stream k l in
      let r = any_yes (is_stop (row_index (space d.nest) p)) (map (stop_of d.nest s) (pipe d.nest s y)) t in
      let c = map_in (stop_of d.nest s) (pipe d.nest s y) r.mem in
      let o = in_pipe h (entries_entry h i).inside c.mem in
      let e : c.from ≡ p =
      one_number (space d.nest) o.0 hp
      (sym (ap (λ (t : Stop). t.process) c.is) ∙ eqb→eq r.it.process (row_index (space d.nest) p) r.ok) in
      ap (entry_of d.nest s) (sym e) ∙ entry_back h i o.0 o.1

  -- what is at position i of pipe q is found on pipe q, at place i
  module _ (q : ℕ) (h : q < pipe_number (array_of d)) (i : ℕ)
      (l : i < length (pipe d.nest (stream_at d (pipe_is d q h).stream) (pipe_is d q h).entry)) where
    abbrev n : Nest
    n = d.nest

    abbrev k : ℕ
    k = (pipe_is d q h).stream

    abbrev s : Stream
    s = stream_at d k

    abbrev y : V2
    y = (pipe_is d q h).entry

    abbrev p : V2
    p = process_at n s y i

    accepted_here : Accepted n s
    accepted_here = laid.stream k (pipe_is d q h).stream_lt

    entry_here : Inside (space n) y
    entry_here = (entries_entry accepted_here (pipe_is d q h).entry_in).inside

    inside_here : Inside (space n) p
    inside_here = at_inside accepted_here entry_here i zero2 l

    -- the test by which it is found
    abbrev passing : Pipe → Bool
    passing w = eqb w.stream k && any (is_stop (row_index (space n) p)) w.stops

    stops_here : T (any (is_stop (row_index (space n) p)) (map (stop_of n s) (pipe n s y)))
    stops_here =
        yes_any (is_stop (row_index (space n) p)) (in_map (stop_of n s) (get_d_in (pipe n s y) i zero2 l))
        (eqb_refl (row_index (space n) p))

    not_sooner : (j : ℕ) → j < q → T (passing (pipe_at (array_of d) j)) → ⊥
    not_sooner j c t =
        let r = pipe_is d j (omega arith) in
        let w = pipe_of n r.stream (stream_start n (streams_of d) r.stream) (stream_at d r.stream) r.entry in
        let u : T (passing w) = subst (λ (w : Pipe). T (passing w)) r.is t in
        let e : r.stream ≡ k = eqb→eq r.stream k (and_left (eqb r.stream k) (any (is_stop (row_index (space n) p)) w.stops) u) in
        let g : entry_of n (stream_at d r.stream) p ≡ r.entry =
        stop_entry r.stream r.entry p r.stream_lt r.entry_in inside_here
        (and_right (eqb r.stream k) (any (is_stop (row_index (space n) p)) w.stops) u) in
        pipes_apart d j q (omega arith) h c e
        (sym g ∙ ap (λ (k : ℕ). entry_of n (stream_at d k) p) e
        ∙ stop_entry k y p (pipe_is d q h).stream_lt (pipe_is d q h).entry_in inside_here stops_here)

    pub through : pipe_through (array_of d) (row_index (space n) p) k ≡ q
    through =
        position_is passing (array_of d).pipes q no_pipe h
        (subst (λ (w : Pipe). T (passing w)) (sym (pipe_is d q h).is)
        (both (eqb k k) (any (is_stop (row_index (space n) p)) (map (stop_of n s) (pipe n s y))) (eqb_refl k) stops_here)) not_sooner

    pub place_on_lem : place_on (array_of d) (row_index (space n) p) q ≡ i
    place_on_lem =
        ap (λ (w : Pipe). position (is_stop (row_index (space n) p)) w.stops) (pipe_is d q h).is
        ∙ position_is (is_stop (row_index (space n) p)) (map (stop_of n s) (pipe n s y)) i no_stop
        (subst (λ (c : ℕ). i < c) (sym (length-map (pipe n s y) (stop_of n s))) l) (at i l (eqb_refl (row_index (space n) p)))
        (λ j c t.
        let m : j < length (pipe n s y) = omega arith in
        not_before j c (before_at accepted_here entry_here j zero2 m) (before_at accepted_here entry_here i zero2 l)
        (one_number (space n) (at_inside accepted_here entry_here j zero2 m) inside_here
        (eqb→eq (row_index (space n) (process_at n s y j)) (row_index (space n) p)
        (subst (λ (w : Stop). T (is_stop (row_index (space n) p) w)) (map_at (stop_of n s) (pipe n s y) j zero2 no_stop m) t))))
      where
        at : (j : ℕ) → j < length (pipe n s y) → T (is_stop (row_index (space n) p) (stop_of n s (process_at n s y j)))
            → T (is_stop (row_index (space n) p) (get_or (map (stop_of n s) (pipe n s y)) j no_stop))
        at j m t = subst (λ (w : Stop). T (is_stop (row_index (space n) p) w)) (sym (map_at (stop_of n s) (pipe n s y) j zero2 no_stop m)) t

        not_before : (j : ℕ) → j < i → before n s (process_at n s y j) ≡ j → before n s p ≡ i → process_at n s y j ≡ p → ⊥
        not_before j c a b e = omega (arith, ap (before n s) e)
