-- The whole vectors that two rows send to zero: the shortened cross product of the rows is one, every other is a whole multiple of it, and
-- so none is shorter. Assumes nothing.
use Rattle.std.specs.Prelude.{◌≡◌, refl, ℕ, zero, suc, ◌*◌, ◌≤◌, ℤ, pos, negsuc, neg_ℤ, nat_abs, ◌-ℤ◌, ◌*ℤ◌}
use Rattle.std.proofs.Common.{sym, ◌∙◌, ap, arith}
use Rattle.integers.specs.declared.V3.{V3}
use Rattle.integers.specs.Ring.{ring, quotes, literal, solve3, given, ◌also◌, Ex.var, Ex.minus}
use Rattle.integers.proofs.Ring.{solve, solve_by}
use Rattle.integers.specs.Vectors.{zero3, scale3, sub3, neg3, dot, cross}
use Rattle.integers.proofs.Vectors.{dot_scale, dot_neg, cross_left, cross_right, cross_scale}
use Rattle.integers.proofs.Vectors.{cross_cross, cancel3}
use Rattle.integers.specs.Bounds.{abs_mul}
use Rattle.integers.proofs.Order.{cancel_zero}
use Rattle.lattice.specs.declared.Short.{Short}
use Rattle.lattice.specs.Shorten.{Shortens, divisor_zero, Bezout3, shortened_one}

-- both rows send d to zero
pub record Null (p q d : V3) : Type 0 where
  pub top : dot p d ≡ pos 0
  pub low : dot q d ≡ pos 0

-- d is a whole multiple of u
pub record Multiple (u d : V3) : Type 0 where
  pub by : ℤ
  pub eq : d ≡ scale3 by u

-- the rows send u to zero, and every other vector that they send there is a whole multiple of it
pub record Shortest (p q u : V3) : Type 0 where
  pub null : Null p q u
  pub all : (d : V3) → Null p q d → Multiple u d

-- the rows are independent
abbrev pub Independent : V3 → V3 → Type 0
Independent p q = cross p q ≡ zero3 → ⊥

-- ---- the shortened cross product

-- d × u = 0, and u's components have a sum of multiples that is 1: d is that sum of its own components times u
parallel : (d u : V3) → Bezout3 (pos 1) u → cross d u ≡ zero3 → Multiple u d
parallel d u k e =
    record {
      by = dot k.by d;
      eq = multiple k.by d u k.eq (ap (λ (w : V3). w.x) e) (ap (λ (w : V3). w.y) e) (ap (λ (w : V3). w.z) e);
    }
  where
    multiple : (b d u : V3) → dot b u ≡ pos 1 → d.y *ℤ u.z -ℤ d.z *ℤ u.y ≡ pos 0 → d.z *ℤ u.x -ℤ d.x *ℤ u.z ≡ pos 0
        → d.x *ℤ u.y -ℤ d.y *ℤ u.x ≡ pos 0 → d ≡ scale3 (dot b d) u
    multiple = ring 3 0 _ λ ρ. simp (quotes, literal ρ) (λ o x y z. solve3
        (solve_by _ _ (given (minus (var 3)) o also given (var 1) z also given (minus (var 2)) y) tt)
        (solve_by _ _ (given (minus (var 4)) o also given (minus (var 0)) z also given (var 2) x) tt)
        (solve_by _ _ (given (minus (var 5)) o also given (var 0) y also given (minus (var 1)) x) tt))

nothing : (p q : V3) (s t : ℤ) → s ≡ pos 0 → t ≡ pos 0 → sub3 (scale3 s p) (scale3 t q) ≡ zero3
nothing = ring 2 2 _ λ ρ. simp (quotes, literal ρ) (λ e f. solve3
    (solve_by _ _ (given (var 0) e also given (minus (var 3)) f) tt)
    (solve_by _ _ (given (var 1) e also given (minus (var 4)) f) tt)
    (solve_by _ _ (given (var 2) e also given (minus (var 5)) f) tt))

module _ (p q : V3) {r : Short} (s : Shortens (cross p q) r) (h : Independent p q) where
  pub divisor_not : pos r.divisor ≡ pos 0 → ⊥
  divisor_not e = h (divisor_zero s (ap nat_abs e))

  -- a row that sends the cross product to zero sends the shortened one there
  row : (w : V3) → dot w (cross p q) ≡ pos 0 → dot w r.vector ≡ pos 0
  row w e =
      cancel_zero (pos r.divisor) (dot w r.vector) divisor_not
      (sym (dot_scale w r.vector (pos r.divisor)) ∙ ap (dot w) s.times ∙ e)

  -- L1: the rows send it to zero
  pub short_null : Null p q r.vector
  short_null = record { top = row p (cross_left p q); low = row q (cross_right p q) }

  pub short_one : Bezout3 (pos 1) r.vector
  short_one = shortened_one s (λ e. h (divisor_zero s e))

  -- L3: every vector that they send there is a whole multiple of it
  pub short_all : (d : V3) → Null p q d → Multiple r.vector d
  short_all d k =
      let u = r.vector in
      let g = pos r.divisor in
      let e : scale3 g (cross d u) ≡ zero3 =
      sym (cross_scale d u g) ∙ ap (cross d) s.times ∙ cross_cross d p q ∙ nothing p q (dot q d) (dot p d) k.low k.top in
      parallel d u short_one (cancel3 g (cross d u) divisor_not e)

  -- document 01: "the shortest non-zero whole vector that place sends to zero", up to its sign
  pub shortest : Shortest p q r.vector
  shortest = record { null = short_null; all = short_all }

-- and so is its negation
pub shortest_neg : (p q u : V3) → Shortest p q u → Shortest p q (neg3 u)
shortest_neg p q u h =
    record {
      null = record { top = flip h.null.top (dot_neg p u); low = flip h.null.low (dot_neg q u) };
      all = λ d k. let r = h.all d k in record { by = neg_ℤ r.by; eq = r.eq ∙ twice u r.by };
    }
  where
    flip : {a b : ℤ} → b ≡ pos 0 → a ≡ neg_ℤ b → a ≡ pos 0
    flip e f = f ∙ ap neg_ℤ e

    twice : (u : V3) (t : ℤ) → scale3 t u ≡ scale3 (neg_ℤ t) (neg3 u)
    twice = ring 1 1 _ λ ρ. simp quotes (solve3 (solve ρ _ _ tt) (solve ρ _ _ tt) (solve ρ _ _ tt))

-- ---- so none that is not zero is shorter, in any component

pub record NoLonger (u d : V3) : Type 0 where
  pub atx : nat_abs u.x ≤ nat_abs d.x
  pub aty : nat_abs u.y ≤ nat_abs d.y
  pub atz : nat_abs u.z ≤ nat_abs d.z

pub no_shorter : (p q u : V3) → Shortest p q u → (d : V3) → Null p q d → (d ≡ zero3 → ⊥) → NoLonger u d
no_shorter p q u h d k n = go (h.all d k).by (h.all d k).eq
  where
    grow : (t : ℕ) (a : ℕ) → a ≤ suc t * a
    grow t a = omega arith

    large : (t : ℤ) (u : ℤ) {d : ℤ} → (t ≡ pos 0 → ⊥) → d ≡ t *ℤ u → nat_abs u ≤ nat_abs d
    large (pos zero) u n e = absurd (n refl)
    large (pos (suc t)) u n e = omega (arith, ap nat_abs e, abs_mul (pos (suc t)) u, grow t (nat_abs u))
    large (negsuc t) u n e = omega (arith, ap nat_abs e, abs_mul (negsuc t) u, grow t (nat_abs u))

    zero_times : (u : V3) → scale3 (pos 0) u ≡ zero3
    zero_times = ring 1 0 _ λ ρ. simp (quotes, literal ρ) (solve3 (solve ρ _ _ tt) (solve ρ _ _ tt) (solve ρ _ _ tt))

    go : (t : ℤ) → d ≡ scale3 t u → NoLonger u d
    go t e =
        let m : t ≡ pos 0 → ⊥ = λ f. n (e ∙ ap (λ (s : ℤ). scale3 s u) f ∙ zero_times u) in
        record {
          atx = large t u.x m (ap (λ (w : V3). w.x) e);
          aty = large t u.y m (ap (λ (w : V3). w.y) e);
          atz = large t u.z m (ap (λ (w : V3). w.z) e);
        }
