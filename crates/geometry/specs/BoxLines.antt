-- The points of a box on a line: `line_in` lists them, each once, in the order of the line. Assumes that the line's vector d is not zero
-- and
-- that its point p is in the box.
use Rattle.std.specs.Prelude.{◌≡◌, refl, Bool, true, false, not, cond, ◌&&◌, ◌||◌, T, length, get_or, ℤ, negsuc, ◌+ℤ◌, ◌-ℤ◌, ◌≤ℤ◌, ◌<ℤ◌}
use Rattle.std.proofs.Common.{sym, ◌∙◌, arith}
use Rattle.std.proofs.Math.Path.{ap, ap₂, subst}
use mathlib.Core.List.Memᴰ.{head as here}
use mathlib.Core.List.Memᴰ.{tail as there}
use mathlib.Core.List.{Memᴰ as In}
use Prim.Native.Nat.{ℕ, zero, suc, ◌+◌, ◌-◌, ◌≤◌, ◌<◌}
use Rattle.std.proofs.Math.Decide.{dec_le}
use Rattle.std.proofs.Math.IntN.{pos, neg_ℤ}
use Rattle.std.specs.Int.Signed.{lt_z, lt_z_no}
use Rattle.integers.specs.Differences.{gaps, eq_out, Is-eq, Is-add, Is-neg, Is-pos, Is-self}
use Rattle.integers.specs.Variables.{linear}
use Rattle.integers.specs.Words.{eq_z}
use Rattle.integers.specs.Vectors.{zero2, neg2, shift2, same2}
use Rattle.integers.specs.declared.V2.{V2}
use Rattle.meaning.specs.Lists.{position}
use Rattle.meaning.specs.Space.{eq2, Box}
use Rattle.meaning.specs.Pipes.{reach, march, line_in, backward}
use Rattle.meaning.specs.Points.{Inside, RowOrder as Row, RowOrder.by_a, RowOrder.by_b}
use Rattle.meaning.specs.Sorted.{Sorted, Sorted.none, Sorted.more, Distinct}
use Rattle.geometry.specs.Numbers.{eq_z_eq, eq_eq_z, eq2_eq, eq_eq2, not_zero, beyond, below, stay, zero_shift, shift_shift, shift_next}
use Rattle.geometry.specs.Numbers.{shift_neg, shift_undo, shift_turn, shift_one, neg_not, back_and_on, back_and_past, back_to_start}
use Rattle.geometry.specs.Places.{ahead}
use Rattle.geometry.specs.Boxes.{row_distinct, row_distinct'}
use Rattle.geometry.specs.Reach.{reach_in, reach_le, reach_shift}

-- ---- marching

pub record Marched (p d : V2) (n : ℕ) (q : V2) : Type 0 where
  pub at : ℕ
  pub lt : at < n
  pub eq : q ≡ shift2 p (pos at) d

pub march_in : (p d : V2) (n : ℕ) {q : V2} → In q (march p d n) → Marched p d n q
unfolding march
march_in p d zero h = elim h [ ]
march_in p d (suc n) (here e) = record { at = 0; lt = omega arith; eq = e ∙ sym (zero_shift p d) }
march_in p d (suc n) (there k) =
    let r = march_in (shift2 p (pos 1) d) d n k in
    record { at = suc r.at; lt = omega (arith, r.lt); eq = r.eq ∙ shift_next p d r.at }

in_march : (p d : V2) (n i : ℕ) {q : V2} → i < n → q ≡ shift2 p (pos i) d → In q (march p d n)
unfolding march
in_march p d zero i h e = absurd (omega arith)
in_march p d (suc n) zero h e = here (e ∙ zero_shift p d)
in_march p d (suc n) (suc i) h e = there (in_march (shift2 p (pos 1) d) d n i (omega arith) (e ∙ sym (shift_next p d i)))

pub march_length : (p d : V2) (n : ℕ) → length (march p d n) ≡ n
unfolding march
march_length p d zero = refl
march_length p d (suc n) = ap suc (march_length (shift2 p (pos 1) d) d n)

pub march_at : (p d : V2) (n i : ℕ) (z : V2) → i < n → get_or (march p d n) i z ≡ shift2 p (pos i) d
unfolding march
march_at p d zero i z h = absurd (omega arith)
march_at p d (suc n) zero z h = sym (zero_shift p d)
march_at p d (suc n) (suc i) z h = march_at (shift2 p (pos 1) d) d n i z (omega arith) ∙ shift_next p d i

-- ---- a march goes on in row order, or back

row_on : (p d : V2) (i : ℕ) → Row zero2 d → Row p (shift2 p (pos (suc i)) d)
row_on p d i (by_a h) = by_a (beyond i d.a p.a h)
row_on p d i (by_b e h) = by_b (sym (stay (pos (suc i)) d.a p.a (sym e))) (beyond i d.b p.b h)

row_back : (p d : V2) (i : ℕ) → Row d zero2 → Row (shift2 p (pos (suc i)) d) p
row_back p d i (by_a h) = by_a (below i d.a p.a h)
row_back p d i (by_b e h) = by_b (stay (pos (suc i)) d.a p.a e) (below i d.b p.b h)

-- the test for a step back in row order, with what it means
pub data Way (d : V2) : Bool → Type 0 where
  on : Row zero2 d → Way d false
  back : Row d zero2 → Way d true

pub way : (d : V2) → (d ≡ zero2 → ⊥) → Way d (backward d)
way d f = go (lt_z d.a (pos 0)) (λ t. record { lt = t }) (λ t. lt_z_no t)
  where
    third : (b : Bool) → (T b → d.b <ℤ pos 0) → (T (not b) → pos 0 ≤ℤ d.b) → d.a ≡ pos 0 → Way d b
    third true g h e = back (by_b e (g tt))
    third false g h e = on (by_b (sym e) (not_zero d.b (h tt) (λ e'. f (same2 e e'))))

    second : (b : Bool) → (T b → d.a ≡ pos 0) → (d.a ≡ pos 0 → T b) → pos 0 ≤ℤ d.a → Way d (b && lt_z d.b (pos 0))
    second true g h k = third (lt_z d.b (pos 0)) (λ t. record { lt = t }) (λ t. lt_z_no t) (g tt)
    second false g h k = on (by_a (not_zero d.a k h))

    go : (b : Bool) → (T b → d.a <ℤ pos 0) → (T (not b) → pos 0 ≤ℤ d.a) → Way d (b || (eq_z d.a (pos 0) && lt_z d.b (pos 0)))
    go true g h = back (by_a (g tt))
    go false g h = second (eq_z d.a (pos 0)) (eq_z_eq d.a (pos 0)) (eq_eq_z d.a (pos 0)) (h tt)

pub march_on : (d : V2) → Row zero2 d → (p : V2) (n : ℕ) → Sorted Row (march p d n)
unfolding march
march_on d r p zero = none
march_on d r p (suc n) =
    more (λ y k. let s = march_in (shift2 p (pos 1) d) d n k in subst (Row p) (sym (s.eq ∙ shift_next p d s.at)) (row_on p d s.at r))
    (march_on d r (shift2 p (pos 1) d) n)

pub march_back : (d : V2) → Row d zero2 → (p : V2) (n : ℕ) → Sorted (λ x y. Row y x) (march p d n)
unfolding march
march_back d r p zero = none
march_back d r p (suc n) =
    more (λ y k. let s = march_in (shift2 p (pos 1) d) d n k in
    subst (λ w. Row w p) (sym (s.eq ∙ shift_next p d s.at)) (row_back p d s.at r))
    (march_back d r (shift2 p (pos 1) d) n)

-- each point of it is so many steps before all behind it
pub march_sorted : (p d : V2) (n : ℕ) → Sorted (λ q q'. (k : ℕ) × (q' ≡ shift2 q (pos (suc k)) d)) (march p d n)
unfolding march
march_sorted p d zero = none
march_sorted p d (suc n) =
    more (λ y i. let s = march_in (shift2 p (pos 1) d) d n i in (s.at, s.eq ∙ shift_next p d s.at))
    (march_sorted (shift2 p (pos 1) d) d n)

pub line_distinct : (k : Box) (d : V2) → (d ≡ zero2 → ⊥) → (p : V2) → Distinct (line_in k d p)
unfolding line_in
line_distinct k d f p = go (way d f)
  where
    go : {b : Bool} → Way d b → Distinct (line_in k d p)
    go (on r) = row_distinct (march_on d r _ _)
    go (back r) = row_distinct' (march_back d r _ _)

-- ---- the points of a box on a line

-- q is a point of the box on the line through p along d
pub record OnLine (k : Box) (d p q : V2) : Type 0 where
  pub inside : Inside k q
  pub by : ℤ
  pub eq : q ≡ shift2 p by d

pub line_length : (k : Box) (d p : V2) → length (line_in k d p) ≡ reach k (neg2 d) p + suc (reach k d p)
unfolding line_in
line_length k d p = march_length _ d _

-- what stands at place i
pub line_at_lem : (k : Box) (d p : V2) (i : ℕ) (z : V2) → i < length (line_in k d p)
    → get_or (line_in k d p) i z ≡ shift2 p (pos i -ℤ pos (reach k (neg2 d) p)) d
unfolding line_in
line_at_lem k d p i z h =
    march_at _ d _ i z (subst (λ (c : ℕ). i < c) (line_length k d p) h) ∙ shift_shift p d (neg_ℤ (pos r)) (pos i)
    ∙ ap (λ (w : ℤ). shift2 p w d) (swap (pos i) (pos r))
  where
    r : ℕ
    r = reach k (neg2 d) p

    swap : (i r : ℤ) → neg_ℤ r +ℤ i ≡ i -ℤ r
    swap = linear 0 2 _ λ p m. simp gaps (omega arith)

module _ (k : Box) {d : V2} (moves : d ≡ zero2 → ⊥) {p : V2} (start : Inside k p) where
  pub back_in : (i : ℕ) → i ≤ reach k (neg2 d) p → Inside k (shift2 p (neg_ℤ (pos i)) d)
  back_in i h = subst (Inside k) (shift_neg p d (pos i)) (reach_in k (neg_not moves) start i h)

  back_le : (i : ℕ) → Inside k (shift2 p (neg_ℤ (pos i)) d) → i ≤ reach k (neg2 d) p
  back_le i h = reach_le k (neg_not moves) start i (subst (Inside k) (sym (shift_neg p d (pos i))) h)

  pub line_on : {q : V2} → In q (line_in k d p) → OnLine k d p q
  unfolding line_in
  line_on h =
      let s = march_in (shift2 p (neg_ℤ (pos r)) d) d (r + suc (reach k d p)) h in
      let e = s.eq ∙ shift_shift p d (neg_ℤ (pos r)) (pos s.at) in
      record { inside = subst (Inside k) (sym e) (go s.at s.lt (dec_le s.at r)); by = neg_ℤ (pos r) +ℤ pos s.at; eq = e }
    where
      r : ℕ
      r = reach k (neg2 d) p

      go : (i : ℕ) → i < r + suc (reach k d p) → Dec (i ≤ r) → Inside k (shift2 p (neg_ℤ (pos r) +ℤ pos i) d)
      go i h (yes l) = subst (λ (w : ℤ). Inside k (shift2 p w d)) (sym (back_and_on r i l)) (back_in (r - i) (omega arith))
      go i h (no l) =
          subst (λ (w : ℤ). Inside k (shift2 p w d)) (sym (back_and_past r i (omega arith))) (reach_in k moves start (i - r) (omega arith))

  pub on_line_in : {q : V2} → OnLine k d p q → In q (line_in k d p)
  unfolding line_in
  on_line_in {q} h = go h.by h.eq
    where
      r : ℕ
      r = reach k (neg2 d) p

      from : (j : ℤ) (i : ℕ) → j ≡ neg_ℤ (pos r) +ℤ pos i → q ≡ shift2 p j d → q ≡ shift2 (shift2 p (neg_ℤ (pos r)) d) (pos i) d
      from j i e f = f ∙ ap (λ (w : ℤ). shift2 p w d) e ∙ sym (shift_shift p d (neg_ℤ (pos r)) (pos i))

      to_some : (r t : ℕ) → suc t ≤ r → negsuc t ≡ neg_ℤ (pos r) +ℤ pos (r - suc t)
      to_some r t h = Is-eq (Is-self (negsuc t)) (Is-add (Is-neg (Is-pos r)) (Is-pos (r - suc t))) (omega arith)

      to_more : (r t : ℕ) → pos t ≡ neg_ℤ (pos r) +ℤ pos (r + t)
      to_more r t = Is-eq (Is-pos t) (Is-add (Is-neg (Is-pos r)) (Is-pos (r + t))) (omega arith)

      go : (j : ℤ) → q ≡ shift2 p j d → In q (march (shift2 p (neg_ℤ (pos r)) d) d (r + suc (reach k d p)))
      go (pos t) e =
          let l : t ≤ reach k d p = reach_le k moves start t (subst (Inside k) e h.inside) in
          in_march _ d _ (r + t) (omega arith) (from (pos t) (r + t) (to_more r t) e)
      go (negsuc t) e =
          let l : suc t ≤ r = back_le (suc t) (subst (Inside k) e h.inside) in
          in_march _ d _ (r - suc t) (omega arith) (from (negsuc t) (r - suc t) (to_some r t l) e)

  -- p itself is on it
  pub line_self : In p (line_in k d p)
  line_self = on_line_in (record { inside = start; by = pos 0; eq = sym (zero_shift p d) })

-- ---- where a point stands on a line

ahead_march : (d : V2) → (d ≡ zero2 → ⊥) → (p : V2) (n i : ℕ) (q : V2) → i < n → q ≡ shift2 p (pos i) d → ahead q (march p d n) ≡ i
unfolding march position
ahead_march d f p zero i q h e = absurd (omega arith)
ahead_march d f p (suc n) zero q h e = go (eq2 p q) (eq_eq2 p q (sym (e ∙ zero_shift p d)))
  where
    go : (b : Bool) → T b → ◌≡◌ {A = ℕ} (cond b 0 (suc (ahead q (march (shift2 p (pos 1) d) d n)))) 0
    go true t = refl
    go false t = absurd t
ahead_march d f p (suc n) (suc i) q h e =
    go (eq2 p q) (eq2_eq p q) (ahead_march d f (shift2 p (pos 1) d) n i q (omega arith) (e ∙ sym (shift_next p d i)))
  where
    no_return : p ≡ shift2 p (pos (suc i)) d → ⊥
    no_return e = different (shift_one p d (pos 0) (pos (suc i)) f (zero_shift p d ∙ e))
      where
        different : pos 0 ≡ pos (suc i) → ⊥
        different e = omega (arith, eq_out e)

    go : (b : Bool) → (T b → p ≡ q) → ahead q (march (shift2 p (pos 1) d) d n) ≡ i
        → cond b 0 (suc (ahead q (march (shift2 p (pos 1) d) d n))) ≡ suc i
    go true g ih = absurd (no_return (g tt ∙ e))
    go false g ih = ap suc ih

pub ahead_line : (k : Box) (d : V2) → (d ≡ zero2 → ⊥) → (p : V2) → ahead p (line_in k d p) ≡ reach k (neg2 d) p
unfolding line_in
ahead_line k d f p =
    ahead_march d f (shift2 p (neg_ℤ (pos r)) d) (r + suc (reach k d p)) r p (omega arith)
    (sym (shift_shift p d (neg_ℤ (pos r)) (pos r) ∙ ap (λ (w : ℤ). shift2 p w d) (back_to_start r) ∙ zero_shift p d))
  where
    r : ℕ
    r = reach k (neg2 d) p

-- ---- a line in a box is the same from each of its points

module _ (k : Box) {d : V2} (moves : d ≡ zero2 → ⊥) where
  later_same : (p q : V2) (t : ℕ) → Inside k p → Inside k q → q ≡ shift2 p (pos t) d → line_in k d q ≡ line_in k d p
  unfolding line_in
  later_same p q t hp hq e =
      let a = reach_shift k moves t hp hq e in
      let b = reach_shift k (neg_not moves) t hq hp (shift_turn d (pos t) e) in
      ap₂ (λ (w : V2) (i : ℕ). march w d i)
      (ap (λ (w : V2). shift2 w (neg_ℤ (pos (reach k (neg2 d) q))) d) e ∙ shift_shift p d (pos t) (neg_ℤ (pos (reach k (neg2 d) q)))
      ∙ ap (λ (w : ℤ). shift2 p w d) (from t (reach k (neg2 d) q) (reach k (neg2 d) p) b))
      (omega arith)
    where
      from : (t r' r : ℕ) → r' ≡ t + r → pos t +ℤ neg_ℤ (pos r') ≡ neg_ℤ (pos r)
      from t r' r e = Is-eq (Is-add (Is-pos t) (Is-neg (Is-pos r'))) (Is-neg (Is-pos r)) (omega arith)

  pub line_same : (p q : V2) (j : ℤ) → Inside k p → Inside k q → q ≡ shift2 p j d → line_in k d q ≡ line_in k d p
  line_same p q (pos t) hp hq e = later_same p q t hp hq e
  line_same p q (negsuc t) hp hq e = sym (later_same q p (suc t) hq hp (shift_undo d (negsuc t) e))
