-- The pipes' elements are the stream's elements, each once, and pipe order is a rearrangement of element order. Assumes an accepted stream.
use Rattle.std.specs.Prelude.{◌≡◌, refl, Bool, true, false, not, cond, ◌&&◌, ℕ, zero, suc, ◌≤◌, ◌<◌, T, eqb, length, get_or, take, ℤ}
use Rattle.std.specs.Prelude.{pos, negsuc, neg_ℤ, ◌+ℤ◌}
use Rattle.std.proofs.Common.{sym, ◌∙◌, ap, subst, arith, eqb→eq}
use mathlib.Core.List.{List, reverse, Memᴰ as In}
use Rattle.std.proofs.Math.Dec.{eqb-suc-zero}
use Rattle.integers.specs.Differences.{gaps, eq_out, Is-eq, Is-add, Is-neg, Is-pos}
use Rattle.integers.specs.Variables.{linear}
use Rattle.integers.specs.Vectors.{zero2, shift2, image}
use Rattle.integers.specs.declared.V3.{V3}
use Rattle.integers.specs.declared.V2.{V2}
use Rattle.meaning.specs.declared.Nest.{Nest}
use Rattle.meaning.specs.declared.Stream.{Stream}
use Rattle.meaning.specs.Lists.{any, total, each}
use Rattle.meaning.specs.Loops.{place_of}
use Rattle.meaning.specs.Space.{inside, row_index, box_of, first_of, space, processes, first, computing}
use Rattle.meaning.specs.Streams.{stationary, move, elements, pass}
use Rattle.meaning.specs.Pipes.{pipe, before, is_pipe, is_entry, entries, uses, used_on, backward, pipe_elements}
use Rattle.meaning.specs.Points.{Inside, RowOrder as Row}
use Rattle.meaning.specs.Sorted.{Sorted, Distinct}
use Rattle.lists.specs.Members.{in_filter, filter_in, yes_any, in_each, each_in, each_length}
use Rattle.geometry.specs.Sorting.{sorted_with, sorted_filter, sorted_each, distinct_map, sorted_reverse, fewer}
use Rattle.geometry.specs.Numbers.{and_left, both, zero_shift, shift_neg, neg_not}
use Rattle.geometry.specs.Places.{ahead, get_d_in, get_d_ahead, ahead_lt, ahead_get_d}
use Rattle.geometry.specs.Boxes.{row_distinct, row_distinct', inside_yes, inside_in, inside_points, points_inside, points_sorted}
use Rattle.geometry.specs.RowOrder.{row_at_lem, row_number}
use Rattle.geometry.specs.Segments.{at_box, first_at}
use Rattle.geometry.specs.Processes.{RunAt, is_computing}
use Rattle.geometry.specs.Reach.{reach_in, reach_le, back_shift}
use Rattle.geometry.specs.BoxLines.{line_distinct, back_in}
use Rattle.geometry.specs.Pipes.{Accepted, OnePipe, flip_pipe, held, in_space_lem, pipe_self, same_pipe, on_in}
use Rattle.geometry.proofs.Pipes.{in_on, one_home, held_one}
use Rattle.geometry.specs.Elements.{entry_of, by_pipe, home_of, index_of, element_number, waiting_place, entries_entry, home_in, one_entry}
use Rattle.geometry.specs.Elements.{elements_in}

module _ {n : Nest} {s : Stream} (h : Accepted n s) where
  -- ---- G7: the pipes' elements are the stream's, each once

  pub elements_distinct : (y : V2) → Distinct (pipe_elements n s y)
  unfolding pipe_elements used_on pipe
  elements_distinct y = go (stationary n s) (λ t. t) (backward (pass n s))
    where
      row : Sorted Row (used_on n s y)
      row = sorted_filter (λ e. any (λ p. uses n s p e) (pipe n s y)) (points_sorted (box_of n s.map))

      go : (b : Bool) → (T b → T (stationary n s)) → (c : Bool)
          → Distinct (cond b (held n s y) (cond c (reverse (used_on n s y)) (used_on n s y)))
      go true t c =
          distinct_map (λ p. image s.map (first n p)) (sorted_filter (computing n) (line_distinct (space n) (move n s) h.goes y))
          (λ p q i j e. held_one h (t tt) p q (filter_in (computing n) (pipe n s y) i).ok (filter_in (computing n) (pipe n s y) j).ok e)
      go false t true = row_distinct' (sorted_reverse row)
      go false t false = row_distinct row

  pub home_is : {y e : V2} → In y (entries n s) → In e (pipe_elements n s y) → home_of n s e ≡ y
  home_is {y} {e} i j =
      let a = entries_entry h i in
      let o = in_on h a.inside j in
      let k = home_in h (inside_points (box_of n s.map) e (at_box h.layout.dirs o.at)) in
      let b = entries_entry h k.0 in
      one_entry h b a (one_home h b.inside a.inside k.1 j)

  pub in_elements : (e : V2) → In e (by_pipe n s) → In e (elements n s)
  in_elements e i =
      let r = each_in (pipe_elements n s) (entries n s) i in
      let o = in_on h (entries_entry h r.mem).inside r.is in
      inside_points (box_of n s.map) e (at_box h.layout.dirs o.at)

  pub pipes_distinct : Distinct (by_pipe n s)
  pipes_distinct =
      sorted_each {R = λ y y'. In y (entries n s) × In y' (entries n s) × (y ≡ y' → ⊥)} (pipe_elements n s) elements_distinct
      (λ y y' e e' r i i' p. r.2 (sym (home_is r.0 i) ∙ ap (home_of n s) p ∙ home_is r.1 i'))
      (sorted_with (λ y. In y (entries n s)) (λ y i. i)
      (sorted_filter (λ y. is_entry n s y && is_pipe n s y) (row_distinct (points_sorted (space n)))))

  -- so many they are
  pub pipes_length : length (by_pipe n s) ≡ length (elements n s)
  pipes_length =
      let a : length (by_pipe n s) ≤ length (elements n s) = fewer pipes_distinct in_elements in
      let b : length (elements n s) ≤ length (by_pipe n s) = fewer (row_distinct (points_sorted (box_of n s.map))) (elements_in h) in
      omega arith

  -- the pipes' numbers of elements add up to the stream's
  pub pipes_total : total (λ y. length (pipe_elements n s y)) (entries n s) ≡ length (elements n s)
  pipes_total = sym (each_length (pipe_elements n s) (entries n s)) ∙ pipes_length

  pub home_element : (y : V2) (i : ℕ) (d : V2) → In y (entries n s) → i < length (pipe_elements n s y)
      → (home_of n s (get_or (pipe_elements n s y) i d) ≡ y) × (index_of n s (get_or (pipe_elements n s y) i d) ≡ i)
  home_element y i d k l =
      let e = get_or (pipe_elements n s y) i d in
      let p = home_is k (get_d_in (pipe_elements n s y) i d l) in
      (p, ap (λ (w : V2). ahead e (pipe_elements n s w)) p ∙ ahead_get_d (pipe_elements n s y) i d (elements_distinct y) l)

  pub waiting_number : (k : ℕ) → k < length (elements n s) → waiting_place n s (element_number n s k) ≡ k
  waiting_number k l =
      let e = get_or (by_pipe n s) k zero2 in
      let w : k < length (by_pipe n s) = omega (arith, pipes_length) in
      ap (λ (p : V2). ahead p (by_pipe n s))
      (row_at_lem (box_of n s.map) e zero2 (points_inside (box_of n s.map) e (in_elements e (get_d_in (by_pipe n s) k zero2 w))))
      ∙ ahead_get_d (by_pipe n s) k zero2 pipes_distinct w
