-- Pipe order is a rearrangement of element order, over all streams: the waiting list's numbers are 0, .., E − 1, each once. Assumes a
-- description that is not refused.
use Rattle.std.specs.Prelude.{◌≡◌, refl, ◌⊎◌, ℕ, suc, ◌+◌, ◌-◌, ◌≤◌, ◌<◌, length, get_or}
use Rattle.std.proofs.Common.{sym, ◌∙◌, ap, subst, inl, inr, add_left_cancel, arith}
use mathlib.Core.List.Memᴰ
use mathlib.Core.List.Memᴰ.{map as in_map}
use mathlib.Core.List.{List, [], ◌∷◌, ◌++◌, map, Memᴰ as In, map-append}
use Rattle.std.proofs.Math.Decide.{dec_le}
use Rattle.integers.specs.Vectors.{zero2}
use Rattle.integers.specs.declared.V2.{V2}
use Rattle.meaning.specs.declared.Nest.{Nest}
use Rattle.meaning.specs.declared.Description.{Description}
use Rattle.meaning.specs.declared.Stream.{Stream}
use Rattle.meaning.specs.Lists.{total, each, numbers}
use Rattle.meaning.specs.Space.{row_index, box_of}
use Rattle.meaning.specs.Streams.{elements}
use Rattle.meaning.specs.Pipes.{entries, pipe_elements}
use Rattle.meaning.specs.Description.{no_stream, streams_of}
use Rattle.meaning.specs.Array.{pipe_of, pipes_from, array_of, pipe_order, list_length}
use Rattle.meaning.specs.Body.{element_count}
use Rattle.meaning.specs.Points.{Inside}
use Rattle.meaning.specs.Sorted.{Sorted.none, Distinct}
use Rattle.lists.specs.Members.{each_append, map_in, numbers_in, in_numbers, numbers_length}
use Rattle.geometry.specs.Sorting.{sorted_map, sorted_append, distinct_map, numbers_sorted, fewer}
use Rattle.geometry.specs.Places.{get_d_in}
use Rattle.geometry.specs.Boxes.{points_inside}
use Rattle.geometry.specs.RowOrder.{row_lt, row_number}
use Rattle.geometry.specs.Pipes.{Accepted}
use Rattle.geometry.specs.Elements.{by_pipe, elements_in}
use Rattle.geometry.proofs.Elements.{in_elements, pipes_distinct}
use Rattle.geometry.specs.Descriptions.{Laid}
use Rattle.geometry.specs.Arrays.{one_number}

-- ---- one stream, whose first element has number e

abbrev part : Nest → ℕ → Stream → List ℕ
part n e s = map (λ p. e + row_index (box_of n s.map) p) (by_pipe n s)

part_is : (n : Nest) (i e : ℕ) (s : Stream) (ys : List V2)
    → each (λ r. r.elements) (map (pipe_of n i e s) ys) ≡ map (λ p. e + row_index (box_of n s.map) p) (each (pipe_elements n s) ys)
unfolding each
part_is n i e s [] = refl
part_is n i e s (y ∷ ys) =
    ap (λ (r : List ℕ). map (λ p. e + row_index (box_of n s.map) p) (pipe_elements n s y) ++ r) (part_is n i e s ys)
    ∙ sym (map-append (λ p. e + row_index (box_of n s.map) p) (pipe_elements n s y) (each (pipe_elements n s) ys))

module _ {n : Nest} {s : Stream} (h : Accepted n s) (e : ℕ) where
  inside_box : {p : V2} → In p (by_pipe n s) → Inside (box_of n s.map) p
  inside_box {p} i = points_inside (box_of n s.map) p (in_elements h p i)

  part_in : {j : ℕ} → In j (part n e s) → (e ≤ j) × (j < e + length (elements n s))
  part_in i =
      let r = map_in (λ p. e + row_index (box_of n s.map) p) (by_pipe n s) i in
      let k = row_lt (box_of n s.map) r.from (inside_box r.mem) in
      (omega (arith, r.is), omega (arith, r.is, k))

  in_part : (j : ℕ) → e ≤ j → j < e + length (elements n s) → In j (part n e s)
  in_part j l k =
      let c : j - e < length (elements n s) = omega arith in
      Memᴰ.cast
      (sum e j (row_index (box_of n s.map) (get_or (elements n s) (j - e) zero2)) l (row_number (box_of n s.map) (j - e) zero2 c))
      (in_map (λ p. e + row_index (box_of n s.map) p) (elements_in h _ (get_d_in (elements n s) (j - e) zero2 c)))
    where
      sum : (e j r : ℕ) → e ≤ j → r ≡ j - e → j ≡ e + r
      sum e j r l q = omega arith

  part_distinct : Distinct (part n e s)
  part_distinct =
      distinct_map (λ p. e + row_index (box_of n s.map) p) (pipes_distinct h)
      (λ p q i j g. one_number (box_of n s.map) (inside_box i) (inside_box j)
      (add_left_cancel e g))

-- ---- all streams from number i on

abbrev order_from : Nest → ℕ → ℕ → List Stream → List ℕ
order_from n i e ss = each (λ r. r.elements) (pipes_from n i e ss)

order_split : (n : Nest) (i e : ℕ) (s : Stream) (ss : List Stream)
    → order_from n i e (s ∷ ss) ≡ part n e s ++ order_from n (suc i) (e + length (elements n s)) ss
unfolding pipes_from
order_split n i e s ss =
    each_append (λ r. r.elements) (map (pipe_of n i e s) (entries n s)) (pipes_from n (suc i) (e + length (elements n s)) ss)
    ∙ ap (λ (r : List ℕ). r ++ order_from n (suc i) (e + length (elements n s)) ss) (part_is n i e s (entries n s))

-- all streams are accepted
abbrev All : Nest → List Stream → Type 0
All n ss = (k : ℕ) → k < length ss → Accepted n (get_or ss k no_stream)

rest_all : {n : Nest} {s : Stream} (ss : List Stream) → All n (s ∷ ss) → All n ss
rest_all ss a k l = a (suc k) (omega arith)

order_in : (n : Nest) (i e : ℕ) (ss : List Stream) → All n ss → {j : ℕ} → In j (order_from n i e ss)
    → (e ≤ j) × (j < e + element_count n ss)
unfolding total pipes_from each
order_in n i e [] a k = elim k [ ]
order_in n i e (s ∷ ss) a {j} k =
    go (Memᴰ.append_cases (part n e s) (subst (In j) (order_split n i e s ss) k))
    (order_in n (suc i) (e + length (elements n s)) ss (rest_all ss a))
  where
    go : In j (part n e s) ⊎ In j (order_from n (suc i) (e + length (elements n s)) ss)
        → (In j (order_from n (suc i) (e + length (elements n s)) ss)
        → (e + length (elements n s) ≤ j) × (j < e + length (elements n s) + element_count n ss))
        → (e ≤ j) × (j < e + (length (elements n s) + element_count n ss))
    go (inl m) ih = let r = part_in (a 0 (omega arith)) e m in (r.0, omega (arith, r.1))
    go (inr m) ih = let r = ih m in (omega (arith, r.0), omega (arith, r.1))

in_order : (n : Nest) (i e : ℕ) (ss : List Stream) → All n ss → (j : ℕ) → e ≤ j → j < e + element_count n ss → In j (order_from n i e ss)
unfolding total
in_order n i e [] a j h k = absurd (omega arith)
in_order n i e (s ∷ ss) a j h k =
    subst (In j) (sym (order_split n i e s ss))
    (go (dec_le (e + length (elements n s)) j) (λ l. in_order n (suc i) (e + length (elements n s)) ss (rest_all ss a) j l (omega arith)))
  where
    go : Dec (e + length (elements n s) ≤ j) → (e + length (elements n s) ≤ j → In j (order_from n (suc i) (e + length (elements n s)) ss))
        → In j (part n e s ++ order_from n (suc i) (e + length (elements n s)) ss)
    go (yes l) ih = Memᴰ.append_right (part n e s) (ih l)
    go (no l) ih = Memᴰ.append_left (order_from n (suc i) (e + length (elements n s)) ss) (in_part (a 0 (omega arith)) e j h (omega arith))

order_distinct : (n : Nest) (i e : ℕ) (ss : List Stream) → All n ss → Distinct (order_from n i e ss)
unfolding pipes_from each
order_distinct n i e [] a = none
order_distinct n i e (s ∷ ss) a =
    subst (λ (l : List ℕ). Distinct l) (sym (order_split n i e s ss))
    (sorted_append (part_distinct (a 0 (omega arith)) e) (order_distinct n (suc i) (e + length (elements n s)) ss (rest_all ss a))
    (λ x y p q g.
    apart x y (part_in (a 0 (omega arith)) e p).1 (order_in n (suc i) (e + length (elements n s)) ss (rest_all ss a) q).0 g))
  where
    apart : {b : ℕ} (x y : ℕ) → x < b → b ≤ y → x ≡ y → ⊥
    apart x y h k g = omega arith

-- ---- the waiting list of an array

module _ {d : Description} (laid : Laid d) where
  -- its numbers are those below E, each once
  pub numbers_lt : {j : ℕ} → In j (pipe_order (array_of d)) → j < element_count d.nest (streams_of d)
  unfolding array_of
  numbers_lt i = omega (arith, (order_in d.nest 0 0 (streams_of d) laid.stream i).1)

  pub numbers_all : (j : ℕ) → j < element_count d.nest (streams_of d) → In j (pipe_order (array_of d))
  unfolding array_of
  numbers_all j h = in_order d.nest 0 0 (streams_of d) laid.stream j (omega arith) (omega arith)

  pub numbers_once : Distinct (pipe_order (array_of d))
  unfolding array_of
  numbers_once = order_distinct d.nest 0 0 (streams_of d) laid.stream

  -- so it is E long, the sum of the pipes' numbers of elements
  pub list_length_lem : list_length (array_of d) ≡ element_count d.nest (streams_of d)
  list_length_lem =
      let e = element_count d.nest (streams_of d) in
      let a : length (pipe_order (array_of d)) ≤ length (numbers e) =
      fewer numbers_once (λ j i. in_numbers 0 e j (omega arith) (omega (arith, numbers_lt i))) in
      let b : length (numbers e) ≤ length (pipe_order (array_of d)) =
      fewer (sorted_map less (numbers_sorted 0 e)) (λ j i. numbers_all j (omega (arith, (numbers_in 0 e i).1))) in
      omega (arith, numbers_length 0 e)
    where
      less : (i j : ℕ) → i < j → i ≡ j → ⊥
      less i j h e = omega arith
