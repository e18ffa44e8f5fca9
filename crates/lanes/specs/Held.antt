-- What the lanes hold of a stream's pipes: the processes that compute on a line, in row order, are those of its pipe, in the order of the
-- move or against it. Assumes an accepted stream.
use Rattle.std.specs.Prelude.{◌≡◌, refl, Bool, not, ◌&&◌, eqb, length}
use Rattle.std.proofs.Math.Path.{sym, ap}
use Rattle.std.proofs.Common.{◌∙◌, subst, arith, eqb→eq, eq-eqb}
use Rattle.std.proofs.Math.Bool.{true, false, cond}
use mathlib.Core.List.Memᴰ.{head as here}
use mathlib.Core.List.Memᴰ.{tail as there}
use mathlib.Core.List.{List, [], ◌∷◌, reverse, reverse_aux, Memᴰ as In}
use Prim.Native.Nat.{ℕ, zero, suc, ◌+◌, ◌-◌, ◌≤◌, ◌<◌}
use Rattle.std.proofs.Math.Dec.{T, not_T}
use Rattle.std.proofs.lemmas.List.{length-reverse}
use Rattle.std.proofs.Math.Seq.{take-length}
use Rattle.integers.specs.Vectors.{zero2}
use Rattle.integers.specs.declared.V2.{V2}
use Rattle.meaning.specs.declared.Nest.{Nest}
use Rattle.meaning.specs.declared.Stream.{Stream}
use Rattle.meaning.specs.Lists.{filter, position}
use Rattle.meaning.specs.Space.{eq2, row_index, space, processes, computing}
use Rattle.meaning.specs.Streams.{stationary, move}
use Rattle.meaning.specs.Pipes.{line_in, pipe, backward, soak}
use Rattle.meaning.specs.Points.{Inside, RowOrder as Row}
use Rattle.meaning.specs.Sorted.{Sorted, Sorted.none, Sorted.more, Distinct}
use Rattle.lists.specs.Members.{in_filter, filter_in, in_reverse, reverse_in}
use Rattle.geometry.specs.Numbers.{yes_cond, no_cond, and_left, and_right, eq2_eq, eq_eq2}
use Rattle.geometry.specs.Sorting.{sorted_filter, sorted_reverse, sorted_unique}
use Rattle.geometry.specs.Places.{ahead, get_d_in, position_past, ahead_lt, rank, rank_zero, rank_yes, rank_no, ahead_filter}
use Rattle.geometry.specs.Boxes.{row_irr, row_asym, row_distinct, inside_points, points_inside, points_sorted}
use Rattle.geometry.specs.BoxLines.{Way, Way.on, Way.back, way, march_on, march_back}
use Rattle.geometry.specs.Pipes.{Accepted, OnePipe, flip_pipe, join_pipe, pipe_in_lem, in_pipe}
use Rattle.geometry.proofs.Soaks.{soak_rank}
use Rattle.geometry.specs.Elements.{entry_of, entry_pipe, entry_is, one_entry}
use Rattle.geometry.specs.Arrays.{one_number}
use Rattle.layout.specs.Spans.{process_of}
use Rattle.lanes.specs.Lanes.{held_by}

-- ---- a list turned round

ahead_other : (y x : V2) (l : List V2) → (x ≡ y → ⊥) → ahead y (x ∷ l) ≡ suc (ahead y l)
unfolding position
ahead_other y x l f = no_cond (eq2 x y) 0 (suc (ahead y l)) (not_T (eq2 x y) (λ t. f (eq2_eq x y t)))

ahead_same : (y x : V2) (l : List V2) → x ≡ y → ahead y (x ∷ l) ≡ 0
unfolding position
ahead_same y x l e = yes_cond (eq2 x y) 0 (suc (ahead y l)) (eq_eq2 x y e)

ahead_back : (y : V2) {l : List V2} (m : List V2) → Distinct l → In y l → ahead y (reverse_aux l m) + suc (ahead y l) ≡ length l
ahead_back y m none i = elim i [ ]
ahead_back y m (more {x} {l} f s) (here e) =
    let a = position_past (λ p. eq2 p y) l (x ∷ m) (λ z i t. f z i (sym e ∙ sym (eq2_eq z y t))) in
    omega (arith, a, ahead_same y x m (sym e), ahead_same y x l (sym e))
ahead_back y m (more {x} {l} f s) (there i) =
    omega (arith, ahead_back y (x ∷ m) s i, ahead_other y x l (f y i))

-- ---- the processes of a line

-- the number of the entry of process p's line, and whether p computes
abbrev pub entry_number : Nest → Stream → ℕ → ℕ
entry_number n s p = row_index (space n) (entry_of n s (process_of n p))

abbrev pub computes : Nest → ℕ → Bool
computes n p = computing n (process_of n p)

-- how many of the first k processes compute on the line that enters at e
abbrev pub held_on : Nest → Stream → ℕ → ℕ → ℕ
held_on n s = held_by (entry_number n s) (computes n)

module _ {n : Nest} {s : Stream} (h : Accepted n s) where
  abbrev lined : ℕ → V2 → Bool
  lined e y = computing n y && eqb (row_index (space n) (entry_of n s y)) e

  -- the lanes' number is a rank in row order
  held_rank : (e k : ℕ) → k ≤ length (processes n) → held_on n s k e ≡ rank (lined e) k (processes n)
  unfolding held_by
  held_rank e zero l = sym (rank_zero (lined e) (processes n))
  held_rank e (suc k) l = go (lined e (process_of n k)) (λ t. t) (λ t. t) (held_rank e k (omega arith))
    where
      go : (b : Bool) → (T b → T (lined e (process_of n k))) → (T (not b) → T (not (lined e (process_of n k))))
          → held_on n s k e ≡ rank (lined e) k (processes n)
          → cond b (suc (held_on n s k e)) (held_on n s k e) ≡ rank (lined e) (suc k) (processes n)
      go true f g ih = ap suc ih ∙ sym (rank_yes (lined e) (processes n) k zero2 (omega arith) (f tt))
      go false f g ih = ih ∙ sym (rank_no (lined e) (processes n) k zero2 (omega arith) (g tt))

  held_all : (e : ℕ) → held_on n s (length (processes n)) e ≡ length (filter (lined e) (processes n))
  held_all e =
      held_rank e (length (processes n)) (omega arith) ∙ ap (λ (l : List V2). length (filter (lined e) l)) (take-length (processes n))

  module _ {y : V2} (hy : Inside (space n) y) where
    abbrev number : ℕ
    number = row_index (space n) (entry_of n s y)

    on_pipe_lem : (z : V2) → In z (filter (lined number) (processes n)) → In z (filter (computing n) (pipe n s y))
    on_pipe_lem z i =
        let k = filter_in (lined number) (processes n) i in
        let hz = points_inside (space n) z k.mem in
        let c = and_left (computing n z) (eqb (row_index (space n) (entry_of n s z)) number) k.ok in
        let e = eqb→eq (row_index (space n) (entry_of n s z)) number
        (and_right (computing n z) (eqb (row_index (space n) (entry_of n s z)) number) k.ok) in
        let q = one_number (space n) (entry_is h hz).inside (entry_is h hy).inside e in
        in_filter (computing n)
        (pipe_in_lem h hy hz (join_pipe (entry_pipe h y) (flip_pipe (subst (OnePipe n s z) q (entry_pipe h z))))) c

    pipe_on : (z : V2) → In z (filter (computing n) (pipe n s y)) → In z (filter (lined number) (processes n))
    pipe_on z i =
        let k = filter_in (computing n) (pipe n s y) i in
        let l = in_pipe h hy k.mem in
        let hz = l.0 in
        let q = one_entry h (entry_is h hz) (entry_is h hy)
        (join_pipe (flip_pipe (entry_pipe h z)) (join_pipe (flip_pipe l.1) (entry_pipe h y))) in
        in_filter (lined number) (inside_points (space n) z hz)
        (and_both (computing n z) (eqb (row_index (space n) (entry_of n s z)) number) k.ok
        (subst T (sym (eq-eqb (row_index (space n) (entry_of n s z)) number (ap (row_index (space n)) q))) tt))
      where
        and_both : (a b : Bool) → T a → T b → T (a && b)
        and_both true b t u = u
        and_both false b t u = absurd t

    row_sorted : Sorted Row (filter (lined number) (processes n))
    row_sorted = sorted_filter (lined number) (points_sorted (space n))

    -- in row order they are those of the pipe, or those of the pipe turned round
    by_row : (b : Bool) → Way (move n s) b
        → filter (computing n) (pipe n s y) ≡ cond b (reverse (filter (lined number) (processes n))) (filter (lined number) (processes n))
    unfolding pipe line_in
    by_row false (on r) =
        sorted_unique row_irr row_asym (sorted_filter (computing n) (march_on (move n s) r _ _)) row_sorted pipe_on on_pipe_lem
    by_row true (back r) =
        sorted_unique (λ p q. row_irr p q) (λ p q i j. row_asym q p i j) (sorted_filter (computing n) (march_back (move n s) r _ _))
        (sorted_reverse row_sorted) (λ z i. in_reverse (filter (lined number) (processes n)) (pipe_on z i))
        (λ z i. on_pipe_lem z (reverse_in (filter (lined number) (processes n)) i))

    abbrev all : ℕ
    all = held_on n s (length (processes n)) number

    -- how many compute on the line
    pub held_is : all ≡ length (filter (computing n) (pipe n s y))
    held_is = held_all number ∙ go (backward (move n s)) (by_row (backward (move n s)) (way (move n s) h.goes))
      where
        go : (b : Bool) → filter (computing n) (pipe n s y)
            ≡ cond b (reverse (filter (lined number) (processes n))) (filter (lined number) (processes n))
            → length (filter (lined number) (processes n)) ≡ length (filter (computing n) (pipe n s y))
        go true e = sym (ap length e ∙ length-reverse (filter (lined number) (processes n)))
        go false e = sym (ap length e)

  -- how many stand before a computing process, by the way that the move leads in row order
  module _ (p : ℕ) (lt : p < length (processes n)) (c : T (computes n p)) where
    inside : Inside (space n) (process_of n p)
    inside = points_inside (space n) (process_of n p) (get_d_in (processes n) p zero2 lt)

    itself : T (lined (entry_number n s p) (process_of n p))
    itself = and_both (computing n (process_of n p)) c
      where
        and_both : (a : Bool) → T a → T (a && eqb (entry_number n s p) (entry_number n s p))
        and_both true t = subst T (sym (eq-eqb (entry_number n s p) (entry_number n s p) refl)) tt
        and_both false t = absurd t

    abbrev running : ℕ
    running = held_on n s p (entry_number n s p)

    abbrev there_are : ℕ
    there_are = held_on n s (length (processes n)) (entry_number n s p)

    in_row : ahead (process_of n p) (filter (lined (entry_number n s p)) (processes n)) ≡ running
    in_row =
        ahead_filter (lined (entry_number n s p)) (row_distinct (points_sorted (space n))) p zero2 lt itself
        ∙ sym (held_rank (entry_number n s p) p (omega arith))

    member : In (process_of n p) (filter (lined (entry_number n s p)) (processes n))
    member = in_filter (lined (entry_number n s p)) (get_d_in (processes n) p zero2 lt) itself

    -- those before it are fewer than all
    pub running_below : running < there_are
    running_below =
        omega (arith, in_row, held_all (entry_number n s p), ahead_lt (process_of n p) member)

    rank_is : ahead (process_of n p) (filter (computing n) (pipe n s (process_of n p)))
        ≡ cond (backward (move n s)) (there_are - suc running) running
    rank_is = go (backward (move n s)) (by_row inside (backward (move n s)) (way (move n s) h.goes))
      where
        l : List V2
        l = filter (lined (entry_number n s p)) (processes n)

        go : (b : Bool) → filter (computing n) (pipe n s (process_of n p)) ≡ cond b (reverse l) l
            → ahead (process_of n p) (filter (computing n) (pipe n s (process_of n p))) ≡ cond b (there_are - suc running) running
        go false e = ap (ahead (process_of n p)) e ∙ in_row
        go true e =
            ap (ahead (process_of n p)) e
            ∙ omega (arith, ahead_back (process_of n p) [] (row_distinct (row_sorted inside)) member, in_row, held_all (entry_number n s p))

    -- of a stationary stream that is the soak
    pub soak_held : T (stationary n s) → soak n s (process_of n p) ≡ cond (backward (move n s)) (there_are - suc running) running
    soak_held t = soak_rank h t inside c ∙ rank_is
