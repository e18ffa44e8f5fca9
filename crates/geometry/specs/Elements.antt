-- The pipes' elements are the stream's elements, each once: every element of the box is on one pipe at one index, and pipe order is a
-- rearrangement of element order. Assumes an accepted stream.
use Rattle.std.specs.Prelude.{◌≡◌, refl, Bool, true, false, not, cond, ◌&&◌, ℕ, zero, suc, ◌≤◌, ◌<◌, T, eqb, length, get_or, take, ℤ}
use Rattle.std.specs.Prelude.{pos, negsuc, neg_ℤ, ◌+ℤ◌}
use Rattle.std.proofs.Common.{sym, ◌∙◌, ap, subst, arith, eqb→eq}
use mathlib.Core.List.{List, reverse, Memᴰ as In}
use Rattle.std.proofs.Math.Dec.{eqb-suc-zero}
use Rattle.integers.specs.Differences.{gaps, eq_out, Is-eq, Is-add, Is-neg, Is-pos}
use Rattle.integers.specs.Variables.{linear}
use Rattle.integers.specs.Vectors.{zero2, shift2, image}
use Rattle.integers.specs.declared.V3.{V3}
use Rattle.integers.specs.declared.V2.{V2}
use Rattle.meaning.specs.declared.Nest.{Nest}
use Rattle.meaning.specs.declared.Stream.{Stream}
use Rattle.meaning.specs.Lists.{any, total, each}
use Rattle.meaning.specs.Loops.{place_of}
use Rattle.meaning.specs.Space.{inside, row_index, box_of, first_of, space, processes, first, computing}
use Rattle.meaning.specs.Streams.{stationary, move, elements, pass}
use Rattle.meaning.specs.Pipes.{pipe, before, is_pipe, is_entry, entries, uses, used_on, backward, pipe_elements}
use Rattle.meaning.specs.Points.{Inside, RowOrder as Row}
use Rattle.meaning.specs.Sorted.{Sorted, Distinct}
use Rattle.lists.specs.Members.{in_filter, filter_in, yes_any, in_each, each_in, each_length}
use Rattle.geometry.specs.Sorting.{sorted_with, sorted_filter, sorted_each, distinct_map, sorted_reverse, fewer}
use Rattle.geometry.specs.Numbers.{and_left, both, zero_shift, shift_neg, neg_not}
use Rattle.geometry.specs.Places.{ahead, get_d_in, get_d_ahead, ahead_lt, ahead_get_d}
use Rattle.geometry.specs.Boxes.{row_distinct, row_distinct', inside_yes, inside_in, inside_points, points_inside, points_sorted}
use Rattle.geometry.specs.RowOrder.{row_at_lem, row_number}
use Rattle.geometry.specs.Segments.{at_box, first_at}
use Rattle.geometry.specs.Processes.{RunAt, is_computing}
use Rattle.geometry.specs.Reach.{reach_in, reach_le, back_shift}
use Rattle.geometry.specs.BoxLines.{line_distinct, back_in}
use Rattle.geometry.specs.Pipes.{Accepted, OnePipe, flip_pipe, held, in_space_lem, pipe_self, same_pipe, on_in}

-- the entry of the pipe through y
abbrev pub entry_of : Nest → Stream → V2 → V2
entry_of n s y = shift2 y (neg_ℤ (pos (before n s y))) (move n s)

-- all elements, pipe by pipe: the order of the waiting list
abbrev pub by_pipe : Nest → Stream → List V2
by_pipe n s = each (pipe_elements n s) (entries n s)

-- where the part of pipe q begins in it
abbrev pub part_of : Nest → Stream → ℕ → ℕ
part_of n s q = total (λ y. length (pipe_elements n s y)) (take q (entries n s))

-- an entry: a process that none stands before
pub record Entry (n : Nest) (s : Stream) (y : V2) : Type 0 where
  pub inside : Inside (space n) y
  pub zero : before n s y ≡ 0

-- the pipe that has an element, by its entry: of the first instance that touches it; and its index there
abbrev pub home_of : Nest → Stream → V2 → V2
home_of n s e = entry_of n s (place_of n (first_of n s.map e))

abbrev pub index_of : Nest → Stream → V2 → ℕ
index_of n s e = ahead e (pipe_elements n s (home_of n s e))

-- from a place in the waiting list to the element's number, and back
abbrev pub element_number : Nest → Stream → ℕ → ℕ
element_number n s k = row_index (box_of n s.map) (get_or (by_pipe n s) k zero2)

abbrev pub waiting_place : Nest → Stream → ℕ → ℕ
waiting_place n s j = ahead (get_or (elements n s) j zero2) (by_pipe n s)

module _ {n : Nest} {s : Stream} (h : Accepted n s) where
  -- ---- entries

  pub entry_pipe : (y : V2) → OnePipe n s y (entry_of n s y)
  entry_pipe y = record { by = neg_ℤ (pos (before n s y)); eq = refl }

  pub entry_is : {y : V2} → Inside (space n) y → Entry n s (entry_of n s y)
  entry_is {y} hy =
      record {
        inside = i;
        zero = nil (before n s (entry_of n s y)) (before n s y) (back_shift (space n) h.goes (neg_ℤ (pos (before n s y))) hy i refl);
      }
    where
      i : Inside (space n) (entry_of n s y)
      i = back_in (space n) h.goes hy (before n s y) (omega arith)

      nil : (p q : ℕ) → pos p ≡ pos q +ℤ neg_ℤ (pos q) → p ≡ 0
      nil p q e = omega (arith, eq_out (e ∙ Is-eq (Is-add (Is-pos q) (Is-neg (Is-pos q))) (Is-pos 0) (omega arith)))

  -- it has the same points
  pub entry_same : {y : V2} → Inside (space n) y → pipe n s (entry_of n s y) ≡ pipe n s y
  entry_same {y} hy = same_pipe h hy (entry_is hy).inside (entry_pipe y)

  -- no process stands before one whose predecessor lies outside the process space
  pub entry_before : {y : V2} → Inside (space n) y → is_entry n s y ≡ eqb (before n s y) 0
  entry_before {y} hy =
      go (inside (space n) (shift2 y (negsuc 0) (move n s))) (before n s y) (inside_yes (space n) _) (inside_in (space n) _)
      (λ i. reach_le (space n) (neg_not h.goes) hy 1 (subst (Inside (space n)) (sym (shift_neg y (move n s) (pos 1))) i))
      (λ l. subst (Inside (space n)) (shift_neg y (move n s) (pos 1)) (reach_in (space n) (neg_not h.goes) hy 1 l))
    where
      go : (b : Bool) (k : ℕ) → (T b → Inside (space n) (shift2 y (negsuc 0) (move n s)))
          → (Inside (space n) (shift2 y (negsuc 0) (move n s)) → T b)
          → (Inside (space n) (shift2 y (negsuc 0) (move n s)) → 1 ≤ k) → (1 ≤ k → Inside (space n) (shift2 y (negsuc 0) (move n s)))
          → not b ≡ eqb k 0
      go true zero i j f g = absurd (omega (arith, f (i tt)))
      go true (suc k) i j f g = sym (eqb-suc-zero k)
      go false zero i j f g = refl
      go false (suc k) i j f g = absurd (j (g (omega arith)))

  pub is_entry_lem : {y : V2} → Entry n s y → T (is_entry n s y)
  is_entry_lem {y} b = subst T (sym (entry_before b.inside)) (subst (λ (k : ℕ). T (eqb k 0)) (sym b.zero) tt)

  -- two processes of one pipe have one entry
  pub one_entry : {y y' : V2} → Entry n s y → Entry n s y' → OnePipe n s y y' → y ≡ y'
  one_entry {y} {y'} a a' o =
      sym (o.eq ∙ ap (λ (w : ℤ). shift2 y w (move n s))
      (nil o.by (before n s y') (before n s y) a'.zero a.zero
      (back_shift (space n) h.goes o.by a.inside a'.inside o.eq))
      ∙ zero_shift y (move n s))
    where
      none : (j : ℤ) → pos 0 ≡ pos 0 +ℤ j → j ≡ pos 0
      none = linear 0 1 _ λ p m. simp gaps (omega arith)

      nil : (j : ℤ) (p q : ℕ) → p ≡ 0 → q ≡ 0 → pos p ≡ pos q +ℤ j → j ≡ pos 0
      nil j p q e f g = none j (ap pos (sym e) ∙ g ∙ ap (λ (w : ℕ). pos w +ℤ j) f)

  -- the list of entries has exactly those of the computing processes' pipes
  pub entries_entry : {y : V2} → In y (entries n s) → Entry n s y
  entries_entry {y} i =
      let k = filter_in (λ y. is_entry n s y && is_pipe n s y) (processes n) i in
      record {
        inside = points_inside (space n) y k.mem;
        zero = eqb→eq (before n s y) 0
            (subst T (entry_before (points_inside (space n) y k.mem)) (and_left (is_entry n s y) (is_pipe n s y) k.ok));
      }

  -- a line on which a process computes is a pipe, with this entry
  pub line_entry : {y : V2} → Inside (space n) y → T (is_pipe n s y) → In (entry_of n s y) (entries n s)
  line_entry {y} hy t =
      let b = entry_is hy in
      in_filter (λ y. is_entry n s y && is_pipe n s y) (inside_points (space n) (entry_of n s y) b.inside)
      (both (is_entry n s (entry_of n s y)) (is_pipe n s (entry_of n s y)) (is_entry_lem b)
      (subst (λ (l : List V2). T (any (computing n) l)) (sym (entry_same hy)) t))

  pub entry_in : {y : V2} {x : V3} → RunAt n y x → In (entry_of n s y) (entries n s)
  entry_in {y} a = let hy = in_space_lem h a in line_entry hy (yes_any (computing n) (pipe_self h hy) (is_computing h.layout a))

  pub home_in : {e : V2} → In e (elements n s) → In (home_of n s e) (entries n s) × In e (pipe_elements n s (home_of n s e))
  home_in {e} i =
      let a = first_at h.layout.dirs (h.full e (points_inside (box_of n s.map) e i)).at in
      let b : RunAt n (place_of n (first_of n s.map e)) (first_of n s.map e) = record { within = a.within; to = refl } in (
        entry_in b,
        on_in h (entry_is (in_space_lem h b)).inside
            (record { by = first_of n s.map e; at = a; place = flip_pipe (entry_pipe (place_of n (first_of n s.map e))) }),
      )

  pub elements_in : (e : V2) → In e (elements n s) → In e (by_pipe n s)
  elements_in e i = let k = home_in i in in_each (pipe_elements n s) k.0 k.1

  -- ---- an element and its pipe and index determine each other

  pub index_lt : {e : V2} → In e (elements n s) → index_of n s e < length (pipe_elements n s (home_of n s e))
  index_lt {e} i = ahead_lt e (home_in i).1

  pub element_home : {e : V2} (d : V2) → In e (elements n s) → get_or (pipe_elements n s (home_of n s e)) (index_of n s e) d ≡ e
  element_home {e} d i = get_d_ahead e d (home_in i).1

  -- ---- pipe order is a rearrangement of element order: from numbers to numbers and back

  pub number_waiting : (j : ℕ) → j < length (elements n s) → element_number n s (waiting_place n s j) ≡ j
  number_waiting j l =
      let e = get_or (elements n s) j zero2 in
      ap (row_index (box_of n s.map)) (get_d_ahead e zero2 (elements_in e (get_d_in (elements n s) j zero2 l)))
      ∙ row_number (box_of n s.map) j zero2 l
