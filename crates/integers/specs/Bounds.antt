-- Bounds of absolute values: `Abs z n` says |z| ≤ n, and what sums and products do to it. Assumes nothing.
use Rattle.std.specs.Prelude.{◌≡◌, refl, ℕ, zero, suc, ◌+◌, ◌*◌, ◌≤◌, ◌/◌, T, leb, ℤ, pos, negsuc, neg_ℤ, nat_abs, ◌+ℤ◌, ◌-ℤ◌, ◌*ℤ◌, ◌≤ℤ◌}
use Rattle.std.proofs.Common.{sym, subst, mul-le-mul, div-le_self, arith, leb→le}
use Rattle.std.specs.Int.Signed.{quot_z}
use Rattle.integers.specs.Differences.{Abs, Is, Is-neg, Is-pos, abs_is, le_out, sum_is}

-- ---- absolute values

pub abs_neg : (z : ℤ) → nat_abs (neg_ℤ z) ≡ nat_abs z
abs_neg (pos zero) = refl
abs_neg (pos (suc n)) = refl
abs_neg (negsuc n) = refl

abs_split : (z : ℤ) (p m : ℕ) → Is z p m → nat_abs z ≤ p + m
abs_split (pos n) p m h = omega arith
abs_split (negsuc n) p m h = omega arith

pub abs_add : (y z : ℤ) → nat_abs (y +ℤ z) ≤ nat_abs y + nat_abs z
abs_add y z = omega (arith, abs_split (y +ℤ z) _ _ (sum_is y z), abs_is y, abs_is z)

pub abs_mul : (y z : ℤ) → nat_abs (y *ℤ z) ≡ nat_abs y * nat_abs z
abs_mul (pos a) (pos b) = refl
abs_mul (pos a) (negsuc b) = abs_neg (pos (a * suc b))
abs_mul (negsuc a) (pos b) = abs_neg (pos (suc a * b))
abs_mul (negsuc a) (negsuc b) = refl

-- a quotient by a natural is the quotient of the absolute values
pub abs_quot : (z : ℤ) (d : ℕ) → nat_abs (quot_z z (pos d)) ≡ nat_abs z / d
abs_quot (pos a) d = refl
abs_quot (negsuc a) d = abs_neg (pos (suc a / d))

-- ---- bounds

pub Abs-neg : {z : ℤ} {n : ℕ} → Abs z n → Abs (neg_ℤ z) n
Abs-neg {z} h = record { abs = omega (arith, abs_neg z, h.abs) }

pub Abs-add : {y z : ℤ} {m n : ℕ} → Abs y m → Abs z n → Abs (y +ℤ z) (m + n)
Abs-add {y} {z} h k = record { abs = omega (arith, abs_add y z, h.abs, k.abs) }

pub Abs-sub : {y z : ℤ} {m n : ℕ} → Abs y m → Abs z n → Abs (y -ℤ z) (m + n)
Abs-sub h k = Abs-add h (Abs-neg k)

pub Abs-mul : {y z : ℤ} {m n : ℕ} → Abs y m → Abs z n → Abs (y *ℤ z) (m * n)
Abs-mul {y} {z} {m} {n} h k =
    record { abs = subst (λ (a : ℕ). a ≤ m * n) (sym (abs_mul y z)) (mul-le-mul h.abs k.abs) }

pub Abs-quot : {z : ℤ} {n : ℕ} (d : ℕ) → Abs z n → Abs (quot_z z (pos d)) n
Abs-quot {z} d h = record { abs = omega (arith, abs_quot z d, div-le_self (nat_abs z) d, h.abs) }

-- a wider one; at literals `Abs-wider tt`
pub Abs-wider : {z : ℤ} {m n : ℕ} → T (leb m n) → Abs z m → Abs z n
Abs-wider {m} {n} t h = record { abs = omega (arith, h.abs, leb→le m n t) }

-- a range
pub Abs-range : (z : ℤ) (n : ℕ) → neg_ℤ (pos n) ≤ℤ z → z ≤ℤ pos n → Abs z n
Abs-range (pos a) n h k = record { abs = omega (arith, le_out k) }
Abs-range (negsuc a) n h k = record { abs = omega (arith, le_out h, (Is-neg (Is-pos n)).is) }
