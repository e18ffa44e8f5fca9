-- The shortening rule, as request 2.7 says it, and the vector and divisor that answer it: one and no other. The components of a shortened
-- vector have no common divisor. Assumes nothing.
use Rattle.std.specs.Prelude.{◌≡◌, refl, ℕ, zero, suc, ◌*◌, ◌/◌, ◌<◌, ℤ, pos, negsuc, neg_ℤ, nat_abs, ◌+ℤ◌, ◌*ℤ◌}
use Rattle.std.proofs.Common.{sym, ◌∙◌, ap, subst, mul-one, arith}
use Rattle.std.specs.Int.{◌∣◌}
use Rattle.std.proofs.Math.Nat.{mul-div_cancel', dvd_trans, dvd-mul_right, dvd_antisymm, mul-dvd-mul_left, dvd_of_mul-dvd-mul_left}
use Rattle.std.proofs.Math.Nat.{eq-zero_of_zero-dvd, eq-one_of_dvd-one}
use Rattle.std.specs.Int.Signed.{quot_z}
use Rattle.integers.specs.declared.V3.{V3}
use Rattle.integers.specs.Ring.{ring, quotes, literal, given, Ex.plain, Ex.minus}
use Rattle.integers.proofs.Ring.{solve, solve_by}
use Rattle.integers.specs.Bounds.{abs_mul}
use Rattle.integers.specs.Vectors.{zero3, scale3, dot, same3}
use Rattle.integers.proofs.Vectors.{dot_scale}
use Rattle.integers.proofs.Order.{cancel}
use Rattle.lattice.specs.declared.Short.{Short}
use Rattle.lattice.specs.Gcd.{gcd_of, gcd_greatest, bezout}

-- d divides every component
pub record Divides (d : ℕ) (v : V3) : Type 0 where
  pub atx : d ∣ nat_abs v.x
  pub aty : d ∣ nat_abs v.y
  pub atz : d ∣ nat_abs v.z

-- THE SHORTENING RULE: r is v shortened, with the divisor that was taken out (one r is, and no other: `shortens` and `shortens-one`)
pub record Shortens (v : V3) (r : Short) : Type 0 where
  -- "a shortened vector, before it is turned, times its divisor is that vector"
  pub times : scale3 (pos r.divisor) r.vector ≡ v
  -- the divisor is the greatest common one: every common one divides it
  pub greatest : (d : ℕ) → Divides d v → d ∣ r.divisor
  -- "a zero vector has divisor 0 and stays zero"
  pub zero : v ≡ zero3 → r ≡ record { vector = zero3; divisor = 0 }

-- ---- what is found by Euclid's rule

-- the greatest common divisor of a vector's components: 0 for the zero vector alone
abbrev pub divisor_of : V3 → ℕ
divisor_of v = gcd_of (nat_abs v.x) (gcd_of (nat_abs v.y) (nat_abs v.z))

-- each component divided by d
abbrev pub over : V3 → ℕ → V3
over v d = record { x = quot_z v.x (pos d); y = quot_z v.y (pos d); z = quot_z v.z (pos d) }

-- document 01: "found by dividing out the greatest common divisor"
abbrev pub shortened : V3 → Short
shortened v = record { vector = over v (divisor_of v); divisor = divisor_of v }

-- ---- divisors of a vector

-- d divides v exactly if v is d times a whole vector
pub exact : (d : ℕ) (z : ℤ) → d ∣ nat_abs z → pos d *ℤ quot_z z (pos d) ≡ z
exact d (pos a) h = ap pos (mul-div_cancel' d h)
exact d (negsuc a) h = neg_mul (pos d) (pos (suc a / d)) (pos (suc a)) (ap pos (mul-div_cancel' d h))
  where
    neg_mul : (a b c : ℤ) → a *ℤ b ≡ c → a *ℤ neg_ℤ b ≡ neg_ℤ c
    neg_mul = ring 0 3 _ λ ρ. simp quotes (λ h. solve_by _ _ (given (minus (plain 1)) h) tt)

pub divides_whole : {d : ℕ} {v : V3} → Divides d v → scale3 (pos d) (over v d) ≡ v
divides_whole {d} {v} h = same3 (exact d v.x h.atx) (exact d v.y h.aty) (exact d v.z h.atz)

pub divides_times : (d : ℕ) (z : ℤ) {w : ℤ} → pos d *ℤ z ≡ w → d ∣ nat_abs w
divides_times d z e = subst (λ (m : ℕ). d ∣ m) (sym (abs_mul (pos d) z) ∙ ap nat_abs e) (dvd-mul_right d (nat_abs z))

pub whole_divides : {d : ℕ} (u : V3) {v : V3} → scale3 (pos d) u ≡ v → Divides d v
whole_divides {d} u e =
    record {
      atx = divides_times d u.x (ap (λ (w : V3). w.x) e);
      aty = divides_times d u.y (ap (λ (w : V3). w.y) e);
      atz = divides_times d u.z (ap (λ (w : V3). w.z) e);
    }

pub divisor_divides : (v : V3) → Divides (divisor_of v) v
divisor_divides v =
    let h = gcd_greatest (nat_abs v.x) (gcd_of (nat_abs v.y) (nat_abs v.z)) in
    let k = gcd_greatest (nat_abs v.y) (nat_abs v.z) in
    record { atx = h.left; aty = dvd_trans _ h.right k.left; atz = dvd_trans _ h.right k.right }

pub divisor_greatest : (v : V3) (d : ℕ) → Divides d v → d ∣ divisor_of v
divisor_greatest v d h =
    (gcd_greatest (nat_abs v.x) (gcd_of (nat_abs v.y) (nat_abs v.z))).most d h.atx
    ((gcd_greatest (nat_abs v.y) (nat_abs v.z)).most d h.aty h.atz)

module _ {v : V3} {r : Short} (s : Shortens v r) where
  pub divisor_is : r.divisor ≡ divisor_of v
  divisor_is =
      dvd_antisymm (divisor_greatest v r.divisor (whole_divides r.vector s.times)) (s.greatest (divisor_of v) (divisor_divides v))

  -- only the zero vector has divisor 0
  pub divisor_zero : r.divisor ≡ 0 → v ≡ zero3
  divisor_zero e =
      let h = subst (λ (d : ℕ). Divides d v) (sym divisor_is ∙ e) (divisor_divides v) in
      same3 (abs_zero v.x (eq-zero_of_zero-dvd h.atx)) (abs_zero v.y (eq-zero_of_zero-dvd h.aty))
      (abs_zero v.z (eq-zero_of_zero-dvd h.atz))
    where
      abs_zero : (z : ℤ) → nat_abs z ≡ 0 → z ≡ pos 0
      abs_zero (pos n) e = ap pos e
      abs_zero (negsuc n) e = absurd (omega arith)

-- ---- the components of a shortened vector have no common divisor

pub shortened_coprime : {v : V3} {r : Short} → Shortens v r → (r.divisor ≡ 0 → ⊥) → (d : ℕ) → Divides d r.vector → d ≡ 1
shortened_coprime {v} {r} s n d h =
    let k : g * d ∣ g = s.greatest (g * d) (record {
      atx = scaled u.x h.atx (ap (λ (w : V3). w.x) s.times);
      aty = scaled u.y h.aty (ap (λ (w : V3). w.y) s.times);
      atz = scaled u.z h.atz (ap (λ (w : V3). w.z) s.times);
    }) in
    eq-one_of_dvd-one (dvd_of_mul-dvd-mul_left d {n = 1} (above_zero n) (subst (λ (m : ℕ). g * d ∣ m) (sym (mul-one g)) k))
  where
    g : ℕ
    g = r.divisor

    u : V3
    u = r.vector

    scaled : (z : ℤ) {w : ℤ} → d ∣ nat_abs z → pos g *ℤ z ≡ w → g * d ∣ nat_abs w
    scaled z k e = subst (λ (m : ℕ). g * d ∣ m) (sym (abs_mul (pos g) z) ∙ ap nat_abs e) (mul-dvd-mul_left d g k)

    above_zero : {m : ℕ} → (m ≡ 0 → ⊥) → 0 < m
    above_zero {m = zero} n = absurd (n refl)
    above_zero {m = suc m} n = omega arith

-- ---- and a sum of multiples of them is 1

pub record Bezout3 (g : ℤ) (v : V3) : Type 0 where
  pub by : V3
  pub eq : dot by v ≡ g

bezout3 : (v : V3) → Bezout3 (pos (divisor_of v)) v
bezout3 v =
    let k = bezout v.y v.z in
    let h = bezout v.x (pos (gcd_of (nat_abs v.y) (nat_abs v.z))) in
    record {
      by = record { x = h.u; y = h.w *ℤ k.u; z = h.w *ℤ k.w };
      eq =
          regroup h.u v.x h.w k.u v.y k.w v.z ∙ ap (λ (t : ℤ). h.u *ℤ v.x +ℤ h.w *ℤ t) k.eq ∙ h.eq;
    }
  where
    regroup : (u a w s b t c : ℤ) → u *ℤ a +ℤ (w *ℤ s) *ℤ b +ℤ (w *ℤ t) *ℤ c ≡ u *ℤ a +ℤ w *ℤ (s *ℤ b +ℤ t *ℤ c)
    regroup = ring 0 7 _ λ ρ. simp quotes (solve ρ _ _ tt)

pub shortened_one : {v : V3} {r : Short} → Shortens v r → (r.divisor ≡ 0 → ⊥) → Bezout3 (pos 1) r.vector
shortened_one {v} {r} s n =
    let k = bezout3 v in
    let g = pos r.divisor in
    record {
      by = k.by;
      eq =
          cancel g (dot k.by r.vector) (pos 1) (λ e. n (ap nat_abs e))
          (sym (dot_scale k.by r.vector g) ∙ ap (λ (t : V3). dot k.by t) s.times ∙ k.eq ∙ ap pos (sym (divisor_is s)) ∙ one g);
    }
  where
    one : (g : ℤ) → g ≡ g *ℤ pos 1
    one = ring 0 1 _ λ ρ. simp (quotes, literal ρ) (solve ρ _ _ tt)
