-- Small facts on tests, whole numbers and points, each used in several places. Assumes nothing.
use Rattle.std.specs.Prelude.{◌≡◌, refl, ◌⊎◌, Bool, true, false, not, cond, ◌&&◌, ℕ, zero, suc, ◌-◌, ◌≤◌, T, leb, ℤ, pos, negsuc, neg_ℤ}
use Rattle.std.specs.Prelude.{nat_abs, ◌+ℤ◌, ◌*ℤ◌, ◌≤ℤ◌, ◌<ℤ◌}
use Rattle.std.proofs.Common.{sym, ◌∙◌, ap, subst, inl, inr, arith, eqb→eq, leb-true, leb-false, le-leb, ne_eqb}
use Rattle.std.proofs.Math.Dec.{eqb_refl}
use Rattle.std.proofs.lemmas.Bool.{lt-leb}
use Rattle.std.proofs.Math.IntN.{ℤ_discrete}
use Rattle.integers.specs.Bounds.{abs_neg}
use Rattle.integers.specs.Differences.{up, gaps, le_out, lt_out, eq_out, le_in, lt_in, Is-eq, Is-add, Is-neg, Is-pos}
use Rattle.integers.specs.Variables.{linear}
use Rattle.integers.specs.Ring.{ring, quotes, literal, solve3, given, Ex.var}
use Rattle.integers.proofs.Ring.{solve, solve_by}
use Rattle.integers.specs.Words.{eq_z}
use Rattle.integers.specs.Order.{mul_less, mul_reflects, mul_positive}
use Rattle.integers.proofs.Order.{cancel}
use Rattle.integers.specs.Vectors.{shift3, zero2, neg2, shift2, same2}
use Rattle.integers.specs.declared.V3.{V3}
use Rattle.integers.specs.declared.V2.{V2}
use Rattle.meaning.specs.Space.{eq2}
use Rattle.meaning.specs.Accept.{small}

-- ---- magnitudes

pub up_abs : (z : ℤ) → pos 0 ≤ℤ z → nat_abs z ≡ up z
up_abs (pos a) h = refl
up_abs (negsuc a) h = absurd (omega (arith, le_out h))

-- a component from −1 to 1
pub small_is : (z : ℤ) → leb (nat_abs z) 1 ≡ small z
small_is (pos a) = refl
small_is (negsuc a) = go (leb a 0) refl
  where
    go : (b : Bool) → leb a 0 ≡ b → leb (suc a) 1 ≡ b && true
    go true e = le-leb (suc a) 1 (omega (arith, leb-true a 0 e))
    go false e = lt-leb (suc a) 1 (omega (arith, leb-false a 0 e))

-- what a number and its negation have in common
pub small_neg : (z : ℤ) → small (neg_ℤ z) ≡ small z
small_neg z = sym (small_is (neg_ℤ z)) ∙ ap (λ (n : ℕ). leb n 1) (abs_neg z) ∙ small_is z

pub zero_neg : (z : ℤ) → eq_z (neg_ℤ z) (pos 0) ≡ eq_z z (pos 0)
zero_neg (pos zero) = refl
zero_neg (pos (suc n)) = sym (ne_eqb (suc n) 0 (λ e. omega arith))
zero_neg (negsuc n) = ne_eqb (suc n) 0 (λ e. omega arith)

-- ---- tests

-- two numbers are one exactly if the test says so
pub eq_z_eq : (a b : ℤ) → T (eq_z a b) → a ≡ b
eq_z_eq (pos a) (pos b) t = ap pos (eqb→eq a b t)
eq_z_eq (pos a) (negsuc b) t = absurd t
eq_z_eq (negsuc a) (pos b) t = absurd t
eq_z_eq (negsuc a) (negsuc b) t = ap negsuc (eqb→eq a b t)

eq_z_refl : (a : ℤ) → T (eq_z a a)
eq_z_refl (pos a) = eqb_refl a
eq_z_refl (negsuc a) = eqb_refl a

pub eq_eq_z : (a b : ℤ) → a ≡ b → T (eq_z a b)
eq_eq_z a b e = subst (λ (c : ℤ). T (eq_z a c)) e (eq_z_refl a)

-- both tests hold, or one does not
pub and_left : (p q : Bool) → T (p && q) → T p
and_left true q t = tt
and_left false q t = absurd t

pub and_right : (p q : Bool) → T (p && q) → T q
and_right true q t = t
and_right false q t = absurd t

pub both : (p q : Bool) → T p → T q → T (p && q)
both true q s t = t
both false q s t = absurd s

-- a test and a choice by it
pub decide : (b : Bool) → T b ⊎ T (not b)
decide true = inl tt
decide false = inr tt

pub yes_cond : {A : Type 0} (b : Bool) (x y : A) → T b → cond b x y ≡ x
yes_cond true x y t = refl
yes_cond false x y t = absurd t

pub no_cond : {A : Type 0} (b : Bool) (x y : A) → T (not b) → cond b x y ≡ y
no_cond true x y t = absurd t
no_cond false x y t = refl

-- two points are one exactly if the test says so
pub eq2_eq : (p q : V2) → T (eq2 p q) → p ≡ q
eq2_eq p q t =
    let u = eq_z p.a q.a in
    let w = eq_z p.b q.b in
    same2 (eq_z_eq p.a q.a (and_left u w t)) (eq_z_eq p.b q.b (and_right u w t))

pub eq_eq2 : (p q : V2) → p ≡ q → T (eq2 p q)
eq_eq2 p q e = subst (λ (r : V2). T (eq2 p r)) e (both (eq_z p.a p.a) (eq_z p.b p.b) (eq_z_refl p.a) (eq_z_refl p.b))

-- ---- whole numbers

pub not_zero : (a : ℤ) → pos 0 ≤ℤ a → (a ≡ pos 0 → ⊥) → pos 0 <ℤ a
not_zero (pos zero) h k = absurd (k refl)
not_zero (pos (suc a)) h k = lt_in (omega arith)
not_zero (negsuc a) h k = absurd (omega (arith, le_out h))

pub lt_le : {a b : ℤ} → a <ℤ b → a ≤ℤ b
lt_le h = le_in (omega (arith, lt_out h))

pub positive_not : {a : ℤ} → pos 0 <ℤ a → a ≡ pos 0 → ⊥
positive_not h e = omega (arith, lt_out h, eq_out e)

-- a + i c with c > 0 is a number beyond a, with c < 0 one below it, with c = 0 it is a
pub beyond : (i : ℕ) (c a : ℤ) → pos 0 <ℤ c → a <ℤ (a +ℤ pos (suc i) *ℤ c)
beyond i c a h = go a (pos (suc i) *ℤ c) (mul_positive (pos (suc i)) c (lt_in (omega arith)) h)
  where
    go : (a t : ℤ) → pos 0 <ℤ t → a <ℤ (a +ℤ t)
    go = linear 0 2 _ λ p m. simp gaps (omega arith)

pub below : (i : ℕ) (c a : ℤ) → c <ℤ pos 0 → (a +ℤ pos (suc i) *ℤ c) <ℤ a
below i c a h = go a c (pos (suc i)) (beyond i (neg_ℤ c) a (turn c h))
  where
    turn : (c : ℤ) → c <ℤ pos 0 → pos 0 <ℤ neg_ℤ c
    turn = linear 0 1 _ λ p m. simp gaps (omega arith)

    go : (a c t : ℤ) → a <ℤ (a +ℤ t *ℤ neg_ℤ c) → (a +ℤ t *ℤ c) <ℤ a
    go = linear 0 3 _ λ p m. simp gaps (omega arith)

pub stay : (t c a : ℤ) → c ≡ pos 0 → a +ℤ t *ℤ c ≡ a
stay = ring 0 3 _ λ ρ. simp (quotes, literal ρ) (λ e. solve_by _ _ (given (var 0) e) tt)

pub zero_on : (a d : ℤ) → a +ℤ pos 0 *ℤ d ≡ a
zero_on = linear 0 2 _ λ p m. simp gaps (omega arith)

-- a + s c and a + t c stand to each other as s and t, for c > 0, and determine s and t, for c ≠ 0
pub on_reflects : (s t c a : ℤ) → pos 0 <ℤ c → (a +ℤ s *ℤ c) ≤ℤ (a +ℤ t *ℤ c) → s ≤ℤ t
on_reflects s t c a h k = mul_reflects c s t h (go s t c a k)
  where
    go : (s t c a : ℤ) → (a +ℤ s *ℤ c) ≤ℤ (a +ℤ t *ℤ c) → (c *ℤ s) ≤ℤ (c *ℤ t)
    go = linear 0 4 _ λ p m. simp gaps (omega arith)

pub on_less : (s t c a : ℤ) → pos 0 <ℤ c → s <ℤ t → (a +ℤ s *ℤ c) <ℤ (a +ℤ t *ℤ c)
on_less s t c a h k = go s t c a (mul_less c s t h k)
  where
    go : (s t c a : ℤ) → (c *ℤ s) <ℤ (c *ℤ t) → (a +ℤ s *ℤ c) <ℤ (a +ℤ t *ℤ c)
    go = linear 0 4 _ λ p m. simp gaps (omega arith)

pub on_one : (s t c a : ℤ) → (c ≡ pos 0 → ⊥) → a +ℤ s *ℤ c ≡ a +ℤ t *ℤ c → s ≡ t
on_one s t c a n e = cancel c s t n (go s t c a e)
  where
    go : (s t c a : ℤ) → a +ℤ s *ℤ c ≡ a +ℤ t *ℤ c → c *ℤ s ≡ c *ℤ t
    go = linear 0 4 _ λ p m. simp gaps (omega arith)

-- ---- points along a vector

-- no step, two in a row, one more, the other way, and along zero
pub zero_shift : (p d : V2) → shift2 p (pos 0) d ≡ p
zero_shift p d = same2 (zero_on p.a d.a) (zero_on p.b d.b)

pub shift_shift : (p d : V2) (i j : ℤ) → shift2 (shift2 p i d) j d ≡ shift2 p (i +ℤ j) d
shift_shift p d i j = same2 (go p.a d.a i j) (go p.b d.b i j)
  where
    go : (a d i j : ℤ) → (a +ℤ i *ℤ d) +ℤ j *ℤ d ≡ a +ℤ (i +ℤ j) *ℤ d
    go = ring 0 4 _ λ ρ. simp quotes (solve ρ _ _ tt)

pub shift_next : (p d : V2) (i : ℕ) → shift2 (shift2 p (pos 1) d) (pos i) d ≡ shift2 p (pos (suc i)) d
shift_next p d i = shift_shift p d (pos 1) (pos i) ∙ ap (λ (w : ℤ). shift2 p w d) (ap pos (omega arith))

pub shift_neg : (p d : V2) (i : ℤ) → shift2 p i (neg2 d) ≡ shift2 p (neg_ℤ i) d
shift_neg p d i = same2 (go p.a d.a i) (go p.b d.b i)
  where
    go : (a d i : ℤ) → a +ℤ i *ℤ neg_ℤ d ≡ a +ℤ neg_ℤ i *ℤ d
    go = ring 0 3 _ λ ρ. simp quotes (solve ρ _ _ tt)

pub shift_still : (p : V2) (i : ℤ) {d : V2} → d ≡ zero2 → shift2 p i d ≡ p
shift_still p i {d} e = same2 (stay i d.a p.a (ap (λ (w : V2). w.a) e)) (stay i d.b p.b (ap (λ (w : V2). w.b) e))

-- and back
pub shift_back : (p d : V2) (j : ℤ) → shift2 (shift2 p j d) (neg_ℤ j) d ≡ p
shift_back p d j = same2 (go p.a d.a j) (go p.b d.b j)
  where
    go : (a d j : ℤ) → (a +ℤ j *ℤ d) +ℤ neg_ℤ j *ℤ d ≡ a
    go = ring 0 3 _ λ ρ. simp quotes (solve ρ _ _ tt)

pub shift_undo : {p q : V2} (d : V2) (j : ℤ) → q ≡ shift2 p j d → p ≡ shift2 q (neg_ℤ j) d
shift_undo {p} d j e = sym (ap (λ (w : V2). shift2 w (neg_ℤ j) d) e ∙ shift_back p d j)

-- q lies t on from p: p lies t on from q, the other way
pub shift_turn : {p q : V2} (d : V2) (t : ℤ) → q ≡ shift2 p t d → p ≡ shift2 q t (neg2 d)
shift_turn {q} d t e = shift_undo d t e ∙ sym (shift_neg q d t)

-- how far along is determined
pub shift_one : (p d : V2) (i j : ℤ) → (d ≡ zero2 → ⊥) → shift2 p i d ≡ shift2 p j d → i ≡ j
shift_one p d i j n e = go (ℤ_discrete d.a (pos 0)) (ℤ_discrete d.b (pos 0))
  where
    go : Dec (d.a ≡ pos 0) → Dec (d.b ≡ pos 0) → i ≡ j
    go (yes u) (yes w) = absurd (n (same2 u w))
    go (yes u) (no w) = on_one i j d.b p.b w (ap (λ (w : V2). w.b) e)
    go (no u) w = on_one i j d.a p.a u (ap (λ (w : V2). w.a) e)

pub neg_not : {d : V2} → (d ≡ zero2 → ⊥) → neg2 d ≡ zero2 → ⊥
neg_not {d} n e = n (same2 (go d.a (ap (λ (w : V2). w.a) e)) (go d.b (ap (λ (w : V2). w.b) e)))
  where
    go : (a : ℤ) → neg_ℤ a ≡ pos 0 → a ≡ pos 0
    go = linear 0 1 _ λ p m. simp gaps (omega arith)

pub shift_shift3 : (x u : V3) (j i : ℤ) → shift3 (shift3 x j u) i u ≡ shift3 x (j +ℤ i) u
shift_shift3 = ring 2 2 _ λ ρ. simp quotes (solve3 (solve ρ _ _ tt) (solve ρ _ _ tt) (solve ρ _ _ tt))

pub zero_shift3 : (x u : V3) → shift3 x (pos 0) u ≡ x
zero_shift3 = ring 2 0 _ λ ρ. simp (quotes, literal ρ) (solve3 (solve ρ _ _ tt) (solve ρ _ _ tt) (solve ρ _ _ tt))

-- ---- i steps on after r steps back

pub back_and_on : (r i : ℕ) → i ≤ r → neg_ℤ (pos r) +ℤ pos i ≡ neg_ℤ (pos (r - i))
back_and_on r i h = Is-eq (Is-add (Is-neg (Is-pos r)) (Is-pos i)) (Is-neg (Is-pos (r - i))) (omega arith)

pub back_and_past : (r i : ℕ) → r ≤ i → neg_ℤ (pos r) +ℤ pos i ≡ pos (i - r)
back_and_past r i h = Is-eq (Is-add (Is-neg (Is-pos r)) (Is-pos i)) (Is-pos (i - r)) (omega arith)

pub back_to_start : (r : ℕ) → neg_ℤ (pos r) +ℤ pos r ≡ pos 0
back_to_start r = Is-eq (Is-add (Is-neg (Is-pos r)) (Is-pos r)) (Is-pos 0) (omega arith)
