-- A pipe's elements as demand 2 speaks of them: those that its processes use, in order; its two ends; the three parts of its list that a
-- process passes before its own, uses, and passes after them. Assumes an accepted stream.
use Rattle.std.specs.Prelude.{◌≡◌, refl, ◌⊎◌, not, ℕ, zero, suc, ◌+◌, ◌-◌, ◌≤◌, ◌<◌, T, length, get_or, take, drop, ℤ, pos, negsuc, neg_ℤ}
use Rattle.std.specs.Prelude.{◌+ℤ◌, ◌*ℤ◌, ◌≤ℤ◌, ◌<ℤ◌}
use Rattle.std.proofs.Common.{sym, ◌∙◌, ap, subst, subst₂, inl, inr, eq-or-lt_of_le, arith, take-append-drop, length-drop, length-take-le}
use Rattle.std.proofs.Common.{get_or-take, get_or-drop, drop-drop}
use mathlib.Core.List.{List, ◌++◌, Memᴰ as In}
use Rattle.std.proofs.Math.Dec.{not_T}
use Rattle.std.proofs.Math.IntN.{ℤ_discrete}
use Rattle.std.specs.Int.Signed.{≤ℤ_refl}
use Rattle.integers.specs.Differences.{gaps, lt_in}
use Rattle.integers.specs.Variables.{linear}
use Rattle.integers.specs.Ring.{ring, quotes}
use Rattle.integers.proofs.Ring.{solve}
use Rattle.integers.specs.Order.{mul_positive}
use Rattle.integers.specs.Vectors.{zero2, shift2, image, same2}
use Rattle.integers.specs.declared.V3.{V3}
use Rattle.integers.specs.declared.V2.{V2}
use Rattle.meaning.specs.declared.Nest.{Nest}
use Rattle.meaning.specs.declared.Stream.{Stream}
use Rattle.meaning.specs.Loops.{place_of}
use Rattle.meaning.specs.Space.{space, count, first, last, computing}
use Rattle.meaning.specs.Streams.{line, stationary, move, pass}
use Rattle.meaning.specs.Pipes.{pipe, pipe_elements, soak, drain}
use Rattle.meaning.specs.Points.{Inside}
use Rattle.meaning.specs.Sorted.{Sorted}
use Rattle.meaning.specs.Conditions.{Moves}
use Rattle.meaning.specs.Demand2.{Uses, Ahead, along, PipeElements, Soaks, PipeEnds}
use Rattle.lists.specs.Members.{filter_in}
use Rattle.geometry.specs.Sorting.{sorted_with, sorted_filter, sorted_by_map}
use Rattle.geometry.specs.Numbers.{decide, eq2_eq, eq_eq2, lt_le, on_less, shift_shift}
use Rattle.geometry.specs.Places.{ahead, get_d_in, found, sorted_from, get_d_ahead, ahead_lt, ahead_get_d}
use Rattle.geometry.specs.Segments.{first_at, last_at}
use Rattle.geometry.specs.Processes.{RunAt, run_at, computing_count}
use Rattle.geometry.proofs.Processes.{instance_at_lem, computes}
use Rattle.geometry.specs.Pipes.{Accepted, still_elements, passes, on_in, touched_in}
use Rattle.geometry.proofs.Pipes.{in_on}
use Rattle.geometry.specs.Positions.{pipe_sorted}
use Rattle.geometry.proofs.Elements.{elements_distinct}
use Rattle.geometry.proofs.Soaks.{first_index, last_index, soak_first, drain_last, still_total, element_at_lem, total_is}
use Rattle.geometry.specs.Report.{first_element, last_element}
use Rattle.geometry.proofs.Report.{element_from}

-- ---- ranks along a vector that is not zero

along_shift : (d p : V2) (i : ℤ) → along d (shift2 p i d) ≡ along d p +ℤ i *ℤ along d d
along_shift d p i = go d.a d.b p.a p.b i
  where
    go : (c e a b i : ℤ) → c *ℤ (a +ℤ i *ℤ c) +ℤ e *ℤ (b +ℤ i *ℤ e) ≡ (c *ℤ a +ℤ e *ℤ b) +ℤ i *ℤ (c *ℤ c +ℤ e *ℤ e)
    go = ring 0 5 _ λ ρ. simp quotes (solve ρ _ _ tt)

square_not : (a : ℤ) → (a ≡ pos 0 → ⊥) → pos 0 <ℤ (a *ℤ a)
square_not (pos zero) f = absurd (f refl)
square_not (pos (suc n)) f = mul_positive (pos (suc n)) (pos (suc n)) (lt_in (omega arith)) (lt_in (omega arith))
square_not (negsuc n) f =
    subst (λ (t : ℤ). pos 0 <ℤ t) (turn (negsuc n)) (mul_positive (pos (suc n)) (pos (suc n)) (lt_in (omega arith)) (lt_in (omega arith)))
  where
    turn : (a : ℤ) → neg_ℤ a *ℤ neg_ℤ a ≡ a *ℤ a
    turn = ring 0 1 _ λ ρ. simp quotes (solve ρ _ _ tt)

along_positive : (d : V2) → (d ≡ zero2 → ⊥) → pos 0 <ℤ along d d
along_positive d f = go (ℤ_discrete d.a (pos 0)) (ℤ_discrete d.b (pos 0))
  where
    square : (a : ℤ) → Dec (a ≡ pos 0) → pos 0 ≤ℤ (a *ℤ a)
    square a (yes e) = subst (λ (t : ℤ). pos 0 ≤ℤ (t *ℤ t)) (sym e) (≤ℤ_refl (pos 0))
    square a (no g) = lt_le (square_not a g)

    sum : (u v : ℤ) → pos 0 <ℤ u → pos 0 ≤ℤ v → (pos 0 <ℤ (u +ℤ v)) × (pos 0 <ℤ (v +ℤ u))
    sum = linear 0 2 _ λ p m. simp gaps (λ h k. (omega arith, omega arith))

    go : Dec (d.a ≡ pos 0) → Dec (d.b ≡ pos 0) → pos 0 <ℤ along d d
    go (yes e) (yes e') = absurd (f (same2 e e'))
    go (yes e) (no g) = (sum (d.b *ℤ d.b) (d.a *ℤ d.a) (square_not d.b g) (square d.a (yes e))).1
    go (no g) k = (sum (d.a *ℤ d.a) (d.b *ℤ d.b) (square_not d.a g) (square d.b k)).0

-- ---- the elements of a pipe

module _ {n : Nest} {s : Stream} (h : Accepted n s) {y : V2} (hy : Inside (space n) y) where
  abbrev es : List V2
  es = pipe_elements n s y

  -- a stream moves or it is stationary
  pub moving : Moves n (line n s) → T (not (stationary n s))
  moving f = not_T (stationary n s) (λ t. f (eq2_eq (place_of n (line n s)) zero2 t))

  used_on_lem : (e : V2) → In e es → (k : ℤ) × (y' : V2) × Ahead n s k y y' × Uses n s y' e
  used_on_lem e i =
      let o = in_on h hy i in
      (o.place.by, place_of n o.by, o.place.eq, (o.by, record { within = o.at.within; to = refl }, o.at.to))

  on_used : (e : V2) → (k : ℤ) × (y' : V2) × Ahead n s k y y' × Uses n s y' e → In e es
  on_used e u =
      let x = u.3 in
      on_in h hy
      (record { by = x.0; at = record { within = x.1.within; to = x.2 }; place = record { by = u.0; eq = x.1.to ∙ u.2 } })

  -- how far along those of a moving pipe lie
  along_at : T (not (stationary n s)) → (i : ℕ) → i < length es
      → along (pass n s) (get_or es i zero2) ≡ along (pass n s) (first_element n s y) +ℤ pos i *ℤ along (pass n s) (pass n s)
  along_at t i l = ap (along (pass n s)) (element_from h t hy i l) ∙ along_shift (pass n s) (first_element n s y) (pos i)

  along_less : T (not (stationary n s)) → (i j : ℕ) → i < j → j < length es
      → along (pass n s) (get_or es i zero2) <ℤ along (pass n s) (get_or es j zero2)
  along_less t i j l k =
      subst₂ ◌<ℤ◌ (sym (along_at t i (omega arith))) (sym (along_at t j k))
      (on_less (pos i) (pos j) (along (pass n s) (pass n s)) (along (pass n s) (first_element n s y))
      (along_positive (pass n s) (passes h t)) (lt_in (omega arith)))

  along_le : T (not (stationary n s)) → (i j : ℕ) → i ≤ j → j < length es
      → along (pass n s) (get_or es i zero2) ≤ℤ along (pass n s) (get_or es j zero2)
  along_le t i j l k = go (eq-or-lt_of_le l)
    where
      go : (i ≡ j) ⊎ (i < j) → along (pass n s) (get_or es i zero2) ≤ℤ along (pass n s) (get_or es j zero2)
      go (inl e) = subst (λ (c : ℕ). along (pass n s) (get_or es i zero2) ≤ℤ along (pass n s) (get_or es c zero2)) e (≤ℤ_refl _)
      go (inr f) = lt_le (along_less t i j f k)

  -- those of a stationary pipe stand in the order of the processes that hold them
  still_sorted : T (stationary n s)
      → Sorted (λ e e'. (k : ℕ) × (p : V2) × (p' : V2) × Uses n s p e × Uses n s p' e' × Ahead n s (pos (suc k)) p p') es
  still_sorted t =
      subst (λ (l : List V2).
      Sorted (λ e e'. (k : ℕ) × (p : V2) × (p' : V2) × Uses n s p e × Uses n s p' e' × Ahead n s (pos (suc k)) p p') l)
      (sym (still_elements h t y))
      (sorted_by_map {R = λ p p'. T (computing n p) × T (computing n p') × ((k : ℕ) × (p' ≡ shift2 p (pos (suc k)) (move n s)))}
      (λ p. image s.map (first n p)) (λ p p' r. (r.2.0, p, p', holds p r.0, holds p' r.1, r.2.1))
      (sorted_with (λ p. T (computing n p)) (λ p i. (filter_in (computing n) (pipe n s y) i).ok)
      (sorted_filter (computing n) (pipe_sorted h y))))
    where
      holds : (p : V2) → T (computing n p) → Uses n s p (image s.map (first n p))
      holds p c = (first n p, computes h.layout p c, refl)

  pub pipe_elements_lem : PipeElements n s y es
  pipe_elements_lem =
      record {
        members = λ e. (used_on_lem e, on_used e);
        moving = λ f. sorted_from es zero2 (along_less (moving f));
        stationary = λ e. still_sorted (eq_eq2 (place_of n (line n s)) zero2 e);
      }

  -- ---- a moving pipe's ends

  pub pipe_ends : T (not (stationary n s)) → 0 < length es → PipeEnds n s es (first_element n s y) (last_element n s y)
  pipe_ends t c =
      record {
        first_in = get_d_in es 0 zero2 c;
        first_least = λ e i. let r = found zero2 i in
            subst (λ (w : V2). along (pass n s) (first_element n s y) ≤ℤ along (pass n s) w) r.is
            (along_le t 0 r.at (omega arith) r.lt);
        last_in = get_d_in es (length es - 1) zero2 (omega arith);
        last_greatest = λ e i. let r = found zero2 i in
            subst (λ (w : V2). along (pass n s) w ≤ℤ along (pass n s) (last_element n s y)) r.is
            (along_le t r.at (length es - 1) (omega (arith, r.lt)) (omega arith));
        from_first = λ x w i. let r = found zero2 i in (r.at, sym r.is ∙ element_from h t hy r.at r.lt);
        to_last = λ x w i.
            let r = found zero2 i in (
              length es - suc r.at,
              element_from h t hy (length es - 1) (omega arith)
                  ∙ ap (λ (k : ℕ). shift2 (first_element n s y) (pos k) (pass n s)) (sum (length es) r.at r.lt)
                  ∙ sym (shift_shift (first_element n s y) (pass n s) (pos r.at) (pos (length es - suc r.at)))
                  ∙ ap (λ (w : V2). shift2 w (pos (length es - suc r.at)) (pass n s))
                  (sym (element_from h t hy r.at r.lt) ∙ r.is),
            );
      }
    where
      sum : (l i : ℕ) → i < l → l - 1 ≡ i + (l - suc i)
      sum l i h = omega arith

-- ---- what a computing process passes, uses, and passes

-- so many elements from soak on are used
record Used (n : Nest) (s : Stream) (y : V2) : Type 0 where
  pub many : ℕ
  pub some : 0 < many
  pub total : length (pipe_elements n s y) ≡ soak n s y + many + drain n s y
  pub uses : (i : ℕ) → i < many → Uses n s y (get_or (pipe_elements n s y) (soak n s y + i) zero2)

module _ {n : Nest} {s : Stream} (h : Accepted n s) {y : V2} {x : V3} (a : RunAt n y x) where
  abbrev all : List V2
  all = pipe_elements n s y

  f : RunAt n y (first n y)
  f = first_at h.layout.dirs a

  used : Used n s y
  used = go (decide (stationary n s))
    where
      go : T (stationary n s) ⊎ T (not (stationary n s)) → Used n s y
      go (inl t) =
          record {
            many = 1;
            some = omega arith;
            total = sym (still_total h t a);
            uses = λ i l. (
              first n y,
              f,
              sym (ap (λ (k : ℕ). get_or all k zero2) (one (soak n s y) i l ∙ soak_first h a)
                  ∙ get_d_ahead (image s.map (first n y)) zero2 (touched_in h f)),
            );
          }
        where
          one : (k i : ℕ) → i < 1 → k + i ≡ k
          one k i l = omega arith
      go (inr t) =
          record {
            many = count n y;
            some = computing_count h.layout a;
            total = total_is h t a;
            uses = λ i l. (run_at n y i, instance_at_lem h.layout y i l, sym (element_at_lem h t y i zero2 l));
          }

  pub some_element : 0 < length all
  some_element = omega (arith, used.some, used.total)

  -- the index of an element that y uses
  used_index_lem : {e : V2} (j : ℕ) → j < length all → get_or all j zero2 ≡ e → Uses n s y e
      → (soak n s y ≤ j) × (j < soak n s y + used.many)
  used_index_lem {e} j l g u =
      let q : ahead (image s.map u.0) all ≡ j =
      ap (λ (w : V2). ahead w all) (u.2 ∙ sym g) ∙ ahead_get_d all j zero2 (elements_distinct h y) l in
      let c = ahead_lt (image s.map (last n y)) (touched_in h (last_at h.layout.dirs a)) in (
        omega (arith, q, first_index h u.1, soak_first h a),
        omega (arith, q, last_index h u.1, drain_last h a, used.total, c),
      )

  pub soaks : Soaks n s y all (soak n s y) (drain n s y)
  soaks =
      let k = soak n s y in
      let c = used.many in
      let rest : length (drop k all) ≡ c + drain n s y = omega (arith, length-drop k all, used.total) in
      record {
        before = take k all;
        used = take c (drop k all);
        after = drop (k + c) all;
        all =
            sym (take-append-drop k all)
            ∙ ap (λ (l : List V2). take k all ++ l)
            (sym (take-append-drop c (drop k all)) ∙ ap (λ (l : List V2). take c (drop k all) ++ l) (drop-drop c k all));
        soaked = length-take-le k all (omega (arith, used.total));
        drained = omega (arith, length-drop (k + c) all, used.total);
        some = omega (arith, length-take-le c (drop k all) (omega arith), used.some);
        uses = λ e i.
            let r = found zero2 i in
            let l : r.at < c = omega (arith, r.lt, length-take-le c (drop k all) (omega arith)) in
            subst (Uses n s y) (sym (get_or-take c (drop k all) r.at zero2 l ∙ get_or-drop k all r.at zero2) ∙ r.is)
            (used.uses r.at l);
        not_before = λ e i u.
            let r = found zero2 i in
            let l : r.at < k = omega (arith, r.lt, length-take-le k all (omega (arith, used.total))) in
            let z = used_index_lem r.at (omega (arith, used.total)) (sym (get_or-take k all r.at zero2 l) ∙ r.is) u in
            omega (arith, z.0);
        not_after = λ e i u.
            let r = found zero2 i in
            let z = used_index_lem (k + c + r.at) (omega (arith, r.lt, length-drop (k + c) all))
            (sym (get_or-drop (k + c) all r.at zero2) ∙ r.is) u in
            omega (arith, z.1);
      }
