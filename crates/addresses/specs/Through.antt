-- A process and a stream: it is on a pipe exactly if the line through it has a computing process, and then on that of the line's entry, at
-- the place that `before` says. Assumes a description that is not refused.
use Rattle.std.specs.Prelude.{◌≡◌, ◌⊎◌, Bool, true, not, ◌&&◌, ℕ, ◌+◌, ◌<◌, T, eqb, length, get_or}
use Rattle.std.proofs.Common.{sym, ◌∙◌, ap, ap₂, subst, inl, inr, arith, T_not, ltb→lt, eqb→eq, lt-ltb}
use mathlib.Core.List.{List, map, Memᴰ as In}
use Rattle.std.proofs.Math.Dec.{not_T}
use Rattle.integers.specs.Vectors.{zero2}
use Rattle.integers.specs.declared.V2.{V2}
use Rattle.meaning.specs.declared.Nest.{Nest}
use Rattle.meaning.specs.declared.Stream.{Stream}
use Rattle.meaning.specs.declared.Description.{Description}
use Rattle.meaning.specs.Lists.{any}
use Rattle.meaning.specs.Space.{row_index, space, processes, computing}
use Rattle.meaning.specs.Pipes.{pipe, before, is_pipe, is_entry, entries}
use Rattle.meaning.specs.Description.{streams_of}
use Rattle.meaning.specs.Body.{stream_start}
use Rattle.meaning.specs.Array.{Stop, Pipe, stop_of, pipe_of, Array, array_of, pipe_number, no_pipe, no_stop, is_stop, pipe_through}
use Rattle.meaning.specs.Array.{on_pipe}
use Rattle.meaning.specs.Array.{place_on}
use Rattle.meaning.specs.Points.{Inside}
use Rattle.lists.specs.Members.{filter_in, any_yes, map_in, map_at}
use Rattle.lists.specs.Tests.{is_true, is_false, position_passes}
use Rattle.geometry.specs.Numbers.{decide, and_left, and_right}
use Rattle.geometry.specs.Places.{ahead, get_d_in, get_d_ahead, ahead_lt, rank, ahead_filter}
use Rattle.geometry.specs.Boxes.{row_distinct, points_inside, points_sorted}
use Rattle.geometry.specs.RowOrder.{row_at_lem, row_lt, row_number}
use Rattle.geometry.specs.Pipes.{Accepted, in_pipe, pipe_self, same_pipe}
use Rattle.geometry.specs.Positions.{before_is, pipe_length}
use Rattle.geometry.specs.Elements.{entry_of, entry_is, entries_entry, entry_same, line_entry}
use Rattle.geometry.specs.Descriptions.{Laid}
use Rattle.geometry.specs.Wiring.{process_at}
use Rattle.geometry.proofs.Wiring.{wired}
use Rattle.geometry.specs.Arrays.{stream_at, PipeIs, pipe_is, one_number, through, place_on_lem}
use Rattle.addresses.specs.Pipes.{base, entry_at, pipe_lt, pipe_at_lem}

-- the point of a process
abbrev pub point_of : Description → ℕ → V2
point_of d p = get_or (processes d.nest) p zero2

-- ---- lines

module _ {n : Nest} {s : Stream} (h : Accepted n s) where
  pub entry_line : {e : V2} → In e (entries n s) → T (is_pipe n s e)
  entry_line {e} i = and_right (is_entry n s e) (is_pipe n s e) (filter_in (λ y. is_entry n s y && is_pipe n s y) (processes n) i).ok

  -- the point stands on it at the place that `before` says
  pub line_place : {y : V2} → Inside (space n) y
      → (before n s y < length (pipe n s (entry_of n s y))) × (process_at n s (entry_of n s y) (before n s y) ≡ y)
  line_place {y} hy = (
    subst (λ (l : List V2). before n s y < length l) (sym (entry_same h hy)) (omega (arith, pipe_length h y)),
    ap (λ (l : List V2). get_or l (before n s y) zero2) (entry_same h hy)
        ∙ ap (λ (k : ℕ). get_or (pipe n s y) k zero2) (sym (before_is h y)) ∙ get_d_ahead y zero2 (pipe_self h hy),
  )

-- the number of the line's entry among the stream's, and of its pipe
abbrev pub entry_number : Description → ℕ → ℕ → ℕ
entry_number d p i = ahead (entry_of d.nest (stream_at d i) (point_of d p)) (entries d.nest (stream_at d i))

abbrev pub pipe_index : Description → ℕ → ℕ → ℕ
pipe_index d p i = base d i + entry_number d p i

-- ---- pipes and places

module _ {d : Description} (laid : Laid d) where
  abbrev n : Nest
  n = d.nest

  abbrev A : Array
  A = array_of d

  pub point_inside : (p : ℕ) → p < length (processes n) → Inside (space n) (point_of d p)
  point_inside p h = points_inside (space n) (point_of d p) (get_d_in (processes n) p zero2 h)

  pub point_number : (p : ℕ) → p < length (processes n) → row_index (space n) (point_of d p) ≡ p
  point_number p h = row_number (space n) p zero2 h

  -- a pipe's first stop is its entry
  first_stop : (i : ℕ) {e : V2} → i < length (streams_of d) → In e (entries n (stream_at d i))
      → (get_or (map (stop_of n (stream_at d i)) (pipe n (stream_at d i) e)) 0 no_stop).process ≡ row_index (space n) e
  first_stop i {e} hi j =
      let s = stream_at d i in
      let w = (wired (laid.stream i hi)).enters e j in
      ap (λ (t : Stop). t.process) (map_at (stop_of n s) (pipe n s e) 0 zero2 no_stop w.0) ∙ ap (row_index (space n)) w.1

  module _ (i j : ℕ) (hi : i < length (streams_of d)) (hj : j < length (entries n (stream_at d i))) where
    abbrev lane : Stream
    lane = stream_at d i

    abbrev e : V2
    e = entry_at d i j

    abbrev q : ℕ
    q = base d i + j

    abbrev known : PipeIs d q
    known = pipe_is d q (pipe_lt d i j hi hj)

    same : pipe_of n known.stream (stream_start n (streams_of d) known.stream) (stream_at d known.stream) known.entry
        ≡ pipe_of n i (stream_start n (streams_of d) i) lane e
    same = sym known.is ∙ pipe_at_lem d i j hi hj

    same_stream : known.stream ≡ i
    same_stream = ap (λ (r : Pipe). r.stream) same

    pub entry_in : In e (entries n lane)
    entry_in = get_d_in (entries n lane) j zero2 hj

    same_entry : known.entry ≡ e
    same_entry =
        one_number (space n) (entries_entry (laid.stream known.stream known.stream_lt) known.entry_in).inside
        (entries_entry (laid.stream i hi) entry_in).inside
        (sym (first_stop known.stream known.stream_lt known.entry_in) ∙ ap (λ (r : Pipe). (get_or r.stops 0 no_stop).process) same
        ∙ first_stop i hi entry_in)

    -- what is at position k of that pipe is found there
    module _ (k : ℕ) (l : k < length (pipe n lane e)) where
      here : k < length (pipe n (stream_at d known.stream) known.entry)
      here = subst (λ (c : ℕ). k < c) (ap₂ (λ (a : ℕ) (b : V2). length (pipe n (stream_at d a) b)) (sym same_stream) (sym same_entry)) l

      pub through_at : pipe_through A (row_index (space n) (process_at n lane e k)) i ≡ q
      through_at =
          ap₂ (λ (a : ℕ) (b : V2). pipe_through A (row_index (space n) (process_at n (stream_at d a) b k)) a) (sym same_stream)
          (sym same_entry)
          ∙ through laid q (pipe_lt d i j hi hj) k here

      pub place_at : place_on A (row_index (space n) (process_at n lane e k)) q ≡ k
      place_at =
          ap₂ (λ (a : ℕ) (b : V2). place_on A (row_index (space n) (process_at n (stream_at d a) b k)) q) (sym same_stream) (sym same_entry)
          ∙ place_on_lem laid q (pipe_lt d i j hi hj) k here

  -- ---- a process and a stream

  module _ (p i : ℕ) (hp : p < length (processes n)) (hi : i < length (streams_of d)) where
    abbrev s : Stream
    s = stream_at d i

    abbrev y : V2
    y = point_of d p

    module _ (on : is_pipe n s y ≡ true) where
      line_in_lem : In (entry_of n s y) (entries n s)
      line_in_lem = line_entry (laid.stream i hi) (point_inside p hp) (subst T (sym on) tt)

      pub entry_lt : entry_number d p i < length (entries n s)
      entry_lt = ahead_lt (entry_of n s y) line_in_lem

      -- so many entries stand before it in row order
      pub entry_rank : entry_number d p i ≡ rank (λ v. is_entry n s v && is_pipe n s v) (row_index (space n) (entry_of n s y)) (processes n)
      entry_rank =
          let f : V2 → Bool = λ v. is_entry n s v && is_pipe n s v in
          let e = entry_of n s y in
          let h = (entry_is (laid.stream i hi) (point_inside p hp)).inside in
          let at = row_at_lem (space n) e zero2 h in
          ap (λ (v : V2). ahead v (entries n s)) (sym at)
          ∙ ahead_filter f (row_distinct (points_sorted (space n))) (row_index (space n) e) zero2 (row_lt (space n) e h)
          (subst (λ (v : V2). T (f v)) (sym at) (filter_in f (processes n) line_in_lem).ok)

      pub entry_is_at : entry_at d i (entry_number d p i) ≡ entry_of n s y
      entry_is_at = get_d_ahead (entry_of n s y) zero2 line_in_lem

      pub place_lt : before n s y < length (pipe n s (entry_at d i (entry_number d p i)))
      place_lt =
          subst (λ (e : V2). before n s y < length (pipe n s e)) (sym entry_is_at) (line_place (laid.stream i hi) (point_inside p hp)).0

      pub process_at_lem : process_at n s (entry_at d i (entry_number d p i)) (before n s y) ≡ y
      process_at_lem =
          ap (λ (e : V2). process_at n s e (before n s y)) entry_is_at ∙ (line_place (laid.stream i hi) (point_inside p hp)).1

      process_number_lem : row_index (space n) (process_at n s (entry_at d i (entry_number d p i)) (before n s y)) ≡ p
      process_number_lem = ap (row_index (space n)) process_at_lem ∙ point_number p hp

      -- the pipe that it is on, and its place there
      pub through_is : pipe_through A p i ≡ pipe_index d p i
      through_is =
          ap (λ (r : ℕ). pipe_through A r i) (sym process_number_lem)
          ∙ through_at i (entry_number d p i) hi entry_lt (before n s y) place_lt

      pub place_is : place_on A p (pipe_index d p i) ≡ before n s y
      place_is =
          ap (λ (r : ℕ). place_on A r (pipe_index d p i)) (sym process_number_lem)
          ∙ place_at i (entry_number d p i) hi entry_lt (before n s y) place_lt

      pub place_through : place_on A p (pipe_through A p i) ≡ before n s y
      place_through = ap (place_on A p) through_is ∙ place_is

      pub on_true : on_pipe A p i ≡ true
      on_true = lt-ltb (pipe_through A p i) (pipe_number A)
          (subst (λ (q : ℕ). q < pipe_number A) (sym through_is) (pipe_lt d i (entry_number d p i) hi entry_lt))

    -- a process that a pipe of the stream passes is on a line with a computing process
    on_line : pipe_through A p i < pipe_number A → T (is_pipe n s y)
    on_line h =
        let r = pipe_is d (pipe_through A p i) h in
        let t = subst (λ (w : Pipe). T (passing w)) r.is (subst T (sym (position_passes passing no_pipe A.pipes h)) tt) in
        let stops = map (stop_of n (stream_at d r.stream)) (pipe n (stream_at d r.stream) r.entry) in
        let e : r.stream ≡ i = eqb→eq r.stream i (and_left (eqb r.stream i) (any (is_stop p) stops) t) in
        let u = any_yes (is_stop p) stops (and_right (eqb r.stream i) (any (is_stop p) stops) t) in
        let c = map_in (stop_of n (stream_at d r.stream)) (pipe n (stream_at d r.stream) r.entry) u.mem in
        let a = laid.stream r.stream r.stream_lt in
        let b = (entries_entry a r.entry_in).inside in
        let o = in_pipe a b c.mem in
        let g : c.from ≡ y =
        one_number (space n) o.0 (point_inside p hp)
        (sym (ap (λ (t : Stop). t.process) c.is) ∙ eqb→eq u.it.process p u.ok ∙ sym (point_number p hp)) in
        subst (λ (w : V2). T (is_pipe n s w)) g
        (subst (λ (k : ℕ). T (is_pipe n (stream_at d k) c.from)) e
        (subst (λ (l : List V2). T (any (computing n) l)) (sym (same_pipe a b o.0 o.1)) (entry_line a r.entry_in)))
      where
        passing : Pipe → Bool
        passing r = eqb r.stream i && any (is_stop p) r.stops

    -- it is on a pipe exactly if its line has a computing process
    pub on_is : on_pipe A p i ≡ is_pipe n s y
    on_is = go (decide (is_pipe n s y))
      where
        go : T (is_pipe n s y) ⊎ T (not (is_pipe n s y)) → on_pipe A p i ≡ is_pipe n s y
        go (inl t) = on_true (is_true (is_pipe n s y) t) ∙ sym (is_true (is_pipe n s y) t)
        go (inr t) =
            is_false (on_pipe A p i)
            (not_T (on_pipe A p i) (λ u. T_not (is_pipe n s y) t (on_line (ltb→lt (pipe_through A p i) (pipe_number A) u))))
            ∙ sym (is_false (is_pipe n s y) t)
