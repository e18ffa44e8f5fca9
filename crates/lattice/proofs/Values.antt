-- The values of a matrix at all whole vectors, and how far apart they lie: the divisor of the cross product of its rows tells.
-- Assumes nothing.
use Rattle.std.specs.Prelude.{◌≡◌, refl, ◌↔◌, ℕ, ◌*◌, ◌/◌, ℤ, pos, negsuc, nat_abs, ◌+ℤ◌, ◌-ℤ◌, ◌*ℤ◌}
use Rattle.std.proofs.Common.{sym, ◌∙◌, ap, ap₂, subst, arith}
use Rattle.std.specs.Int.{◌∣◌}
use Rattle.std.proofs.Math.Nat.{mul-div_cancel'}
use Rattle.std.specs.Int.Signed.{quot_z}
use Rattle.integers.specs.declared.V3.{V3}
use Rattle.integers.specs.declared.V2.{V2}
use Rattle.integers.specs.declared.Matrix.{Matrix}
use Rattle.integers.specs.Differences.{gaps}
use Rattle.integers.specs.Variables.{linear}
use Rattle.integers.specs.Ring.{ring, quotes, literal, solve3, given, ◌also◌, Ex.var, Ex.minus, Ex.plain, Ex.◌⊗◌}
use Rattle.integers.proofs.Ring.{solve, solve_by}
use Rattle.integers.proofs.Order.{cancel, cancel_zero}
use Rattle.integers.specs.Vectors.{zero3, sub3, scale3, shift3, shift2, dot, cross, image, same2}
use Rattle.integers.proofs.Vectors.{cross_scale, cross_cross, image_shift}
use Rattle.lattice.specs.declared.Short.{Short}
use Rattle.lattice.specs.Shorten.{Divides, Shortens, over, shortened, divisor_zero, exact, divides_whole, whole_divides}
use Rattle.lattice.specs.Shorten.{divides_times, Bezout3, shortened_one}
use Rattle.lattice.specs.Lattice.{Independent, divisor_not, short_one}
use Rattle.lattice.specs.Independence.{combined, only_trivial}
use Rattle.lattice.specs.Values.{Value, minors_with, Apart}
use Rattle.lattice.proofs.Shortening.{shortens}

-- a value and a whole number of times another
values_shift : (m : Matrix) {y z : V2} → Value m y → Value m z → (t : ℤ) → Value m (shift2 y t z)
values_shift m v w t = (shift3 v.0 t w.0, image_shift m v.0 w.0 t ∙ ap₂ (λ (y z : V2). shift2 y t z) v.1 w.1)

-- ---- y is a value exactly if the divisor divides the minors with it

-- v is across u, and a sum of multiples of u's components is 1: some vector crossed with u is v
across : (b v u : V3) → dot v u ≡ pos 0 → dot b u ≡ pos 1 → cross (cross b v) u ≡ v
across = ring 3 0 _ λ ρ. simp (quotes, literal ρ) (λ z o. solve3
    (solve_by _ _ (given (var 3) o also given (minus (var 0)) z) tt)
    (solve_by _ _ (given (var 4) o also given (minus (var 1)) z) tt)
    (solve_by _ _ (given (var 5) o also given (minus (var 2)) z) tt))

minors_null : (p q : V3) (a b : ℤ) → dot (sub3 (scale3 b p) (scale3 a q)) (cross p q) ≡ pos 0
minors_null = ring 2 2 _ λ ρ. simp (quotes, literal ρ) (solve ρ _ _ tt)

both_scaled : (v u : V3) (g : ℤ) → dot (scale3 g v) (scale3 g u) ≡ g *ℤ (g *ℤ dot v u)
both_scaled = ring 2 1 _ λ ρ. simp quotes (solve ρ _ _ tt)

-- equal minors: a combination of the rows is zero
combination : (p q : V3) (a b a' b' : ℤ) → b *ℤ p.x -ℤ a *ℤ q.x ≡ b' *ℤ p.x -ℤ a' *ℤ q.x
    → b *ℤ p.y -ℤ a *ℤ q.y ≡ b' *ℤ p.y -ℤ a' *ℤ q.y
    → b *ℤ p.z -ℤ a *ℤ q.z ≡ b' *ℤ p.z -ℤ a' *ℤ q.z → combined (b -ℤ b') (a' -ℤ a) p q ≡ zero3
combination = ring 2 4 _ λ ρ. simp (quotes, literal ρ) (λ x y z. solve3
    (solve_by _ _ (given (plain 1) x) tt) (solve_by _ _ (given (plain 1) y) tt) (solve_by _ _ (given (plain 1) z) tt))

difference : (a b : ℤ) → a -ℤ b ≡ pos 0 → a ≡ b
difference = linear 0 2 _ λ p m. simp gaps (λ e. omega arith)

module _ (m : Matrix) {r : Short} (s : Shortens (cross m.top m.low) r) (h : Independent m.top m.low) where
  abbrev g : ℤ
  g = pos r.divisor

  minors_of : (x : V3) → scale3 g (cross x r.vector) ≡ minors_with m (image m x)
  minors_of x = sym (cross_scale x r.vector g) ∙ ap (cross x) s.times ∙ cross_cross x m.top m.low

  one_value : (y z : V2) → minors_with m y ≡ minors_with m z → y ≡ z
  one_value y z e =
      let t = only_trivial m.top m.low h (y.b -ℤ z.b) (z.a -ℤ y.a) (combination m.top m.low y.a y.b z.a z.b
      (ap (λ (w : V3). w.x) e) (ap (λ (w : V3). w.y) e) (ap (λ (w : V3). w.z) e)) in
      same2 (sym (difference z.a y.a t.1)) (difference y.b z.b t.0)

  found : (y : V2) → Divides r.divisor (minors_with m y) → Value m y
  found y d =
      let v = over (minors_with m y) r.divisor in
      let k = short_one m.top m.low s h in
      let n = divisor_not m.top m.low s h in
      let z : dot v r.vector ≡ pos 0 =
      cancel_zero g _ n (cancel_zero g _ n
      (sym (both_scaled v r.vector g) ∙ ap₂ dot (divides_whole d) s.times ∙ minors_null m.top m.low y.a y.b)) in
      let x = cross k.by v in
      (x, one_value (image m x) y (sym (minors_of x) ∙ ap (scale3 g) (across k.by v r.vector z k.eq) ∙ divides_whole d))

  pub values : (y : V2) → Value m y ↔ Divides r.divisor (minors_with m y)
  values y = (λ w. whole_divides (cross w.0 r.vector) (minors_of w.0 ∙ ap (minors_with m) w.1), found y)

-- ---- how far apart they lie

scale_dot : (u x : V3) (t : ℤ) → t *ℤ dot u x ≡ dot (scale3 t u) x
scale_dot = ring 2 1 _ λ ρ. simp quotes (solve ρ _ _ tt)

scale_cross : (u q : V3) (t : ℤ) → scale3 t (cross u q) ≡ cross (scale3 t u) q
scale_cross = ring 2 1 _ λ ρ. simp quotes (solve3 (solve ρ _ _ tt) (solve ρ _ _ tt) (solve ρ _ _ tt))

zero_cross : (q : V3) → cross zero3 q ≡ zero3
zero_cross = ring 1 0 _ λ ρ. simp (quotes, literal ρ) (solve3 (solve ρ _ _ tt) (solve ρ _ _ tt) (solve ρ _ _ tt))

reaches : (b u : V3) (t c : ℤ) → dot b u ≡ pos 1 → dot (scale3 c u) (scale3 t b) ≡ c *ℤ t
reaches = ring 2 2 _ λ ρ. simp (quotes, literal ρ) (λ o. solve_by _ _ (given (var 7 ⊗ var 6) o) tt)

-- the minors with (0, t), of a first row c u
level_minors : (u q : V3) (t c : ℤ) → sub3 (scale3 t (scale3 c u)) (scale3 (pos 0) q) ≡ scale3 (c *ℤ t) u
level_minors = ring 2 2 _ λ ρ. simp (quotes, literal ρ) (solve3 (solve ρ _ _ tt) (solve ρ _ _ tt) (solve ρ _ _ tt))

summed : (b u w : V3) (c k t : ℤ) → dot b u ≡ pos 1 → dot b (scale3 (c *ℤ k) w) ≡ dot b (scale3 (c *ℤ t) u) → c *ℤ (k *ℤ dot b w) ≡ c *ℤ t
summed = ring 3 3 _ λ ρ. simp (quotes, literal ρ) (λ o e. solve_by _ _ (given (plain 1) e also given (var 9 ⊗ var 11) o) tt)

module _ (m : Matrix) {r : Short} (s : Shortens (cross m.top m.low) r) (h : Independent m.top m.low) where
  -- the first row shortened: its divisor is how far apart the rows lie
  abbrev first : Short
  first = shortened m.top

  times : scale3 (pos first.divisor) first.vector ≡ m.top
  times = (shortens m.top).times

  not_zero : first.divisor ≡ 0 → ⊥
  not_zero e = h (ap (λ (w : V3). cross w m.low) (divisor_zero (shortens m.top) e) ∙ zero_cross m.low)

  one : Bezout3 (pos 1) first.vector
  one = shortened_one (shortens m.top) not_zero

  part : first.divisor ∣ r.divisor
  part =
      s.greatest first.divisor (whole_divides (cross first.vector m.low)
      (scale_cross first.vector m.low (pos first.divisor) ∙ ap (λ (w : V3). cross w m.low) times))

  abbrev columns : ℕ
  columns = r.divisor / first.divisor

  product : first.divisor * columns ≡ r.divisor
  product = mul-div_cancel' first.divisor part

  holds : (a : ℤ) → ((b : ℤ) × Value m (record { a = a; b = b })) ↔ (first.divisor ∣ nat_abs a)
  holds a = (
    λ v. let x = v.1.0 in
        divides_times first.divisor (dot first.vector x)
        (scale_dot first.vector x (pos first.divisor) ∙ ap (λ (w : V3). dot w x) times ∙ ap (λ (y : V2). y.a) v.1.1),
    λ d. let t = quot_z a (pos first.divisor) in
        let x = scale3 t one.by in (
          dot m.low x,
          (
            x,
            same2 (ap (λ (w : V3). dot w x) (sym times) ∙ reaches one.by first.vector t (pos first.divisor) one.eq
                ∙ exact first.divisor a d) refl,
          ),
        ),
  )

  -- in the row of 0
  level : (t : ℤ) → minors_with m (record { a = pos 0; b = t }) ≡ scale3 (pos first.divisor *ℤ t) first.vector
  level t = ap (λ (w : V3). sub3 (scale3 t w) (scale3 (pos 0) m.low)) (sym times)
      ∙ level_minors first.vector m.low t (pos first.divisor)

  on_level : (t : ℤ) → Value m (record { a = pos 0; b = t }) ↔ (columns ∣ nat_abs t)
  on_level t = (
    λ v. let d = (values m s h (record { a = pos 0; b = t })).0 v in
        let w = over (minors_with m (record { a = pos 0; b = t })) r.divisor in
        divides_times columns (dot one.by w)
        (cancel (pos first.divisor) _ t (λ e. not_zero (ap nat_abs e))
        (summed one.by first.vector w (pos first.divisor) (pos columns) t one.eq
        (ap (dot one.by) (ap (λ (k : ℕ). scale3 (pos k) w) product ∙ divides_whole d ∙ level t)))),
    λ k. (values m s h (record { a = pos 0; b = t })).1 (whole_divides (scale3 (quot_z t (pos columns)) first.vector)
        (ap (λ (k : ℕ). scale3 (pos k) (scale3 (quot_z t (pos columns)) first.vector)) (sym product)
        ∙ regroup first.vector (pos first.divisor) (pos columns) (quot_z t (pos columns))
        ∙ ap (λ (z : ℤ). scale3 (pos first.divisor *ℤ z) first.vector) (exact columns t k)
        ∙ sym (level t))),
  )
    where
      regroup : (u : V3) (c k t : ℤ) → scale3 (c *ℤ k) (scale3 t u) ≡ scale3 (c *ℤ (k *ℤ t)) u
      regroup = ring 1 3 _ λ ρ. simp quotes (solve3 (solve ρ _ _ tt) (solve ρ _ _ tt) (solve ρ _ _ tt))

  within : (y : V2) → Value m y → (b : ℤ) → Value m (record { a = y.a; b = b }) ↔ (columns ∣ nat_abs (b -ℤ y.b))
  within y v b = (
    λ w. (on_level (b -ℤ y.b)).0 (subst (Value m) (less y.a b y.b) (values_shift m w v (negsuc 0))),
    λ d. subst (Value m) (more y.a b y.b) (values_shift m v ((on_level (b -ℤ y.b)).1 d) (pos 1)),
  )
    where
      -- less the value that is there, and with it again
      less : (a b c : ℤ) → shift2 (record { a = a; b = b }) (negsuc 0) (record { a = a; b = c }) ≡ record { a = pos 0; b = b -ℤ c }
      less a b c = same2 (none a) (rest b c)
        where
          none : (a : ℤ) → a +ℤ negsuc 0 *ℤ a ≡ pos 0
          none = linear 0 1 _ λ p m. simp gaps (omega arith)

          rest : (b c : ℤ) → b +ℤ negsuc 0 *ℤ c ≡ b -ℤ c
          rest = linear 0 2 _ λ p m. simp gaps (omega arith)

      more : (a b c : ℤ) → shift2 (record { a = a; b = c }) (pos 1) (record { a = pos 0; b = b -ℤ c }) ≡ record { a = a; b = b }
      more a b c = same2 (same a) (whole b c)
        where
          same : (a : ℤ) → a +ℤ pos 1 *ℤ pos 0 ≡ a
          same = linear 0 1 _ λ p m. simp gaps (omega arith)

          whole : (b c : ℤ) → c +ℤ pos 1 *ℤ (b -ℤ c) ≡ b
          whole = linear 0 2 _ λ p m. simp gaps (omega arith)

  pub apart : Apart m r.divisor
  apart = record { rows = first.divisor; columns = columns; product = product; holds = holds; within = within }
