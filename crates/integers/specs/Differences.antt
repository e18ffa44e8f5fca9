-- ℤ as differences of naturals: `gap p m` is p − m, shut, so that `simp` sees it. `simp gaps` turns sums, products, negations and
-- comparisons of such differences into facts on ℕ, which `omega` closes. Assumes nothing.
use Rattle.std.specs.Prelude.{◌≡◌, refl, ◌↔◌, Bool, true, false, not, cond, ℕ, zero, suc, ◌+◌, ◌*◌, ◌-◌, ◌≤◌, ◌<◌, T, ltb, ℤ, pos, negsuc}
use Rattle.std.specs.Prelude.{neg_ℤ, nat_abs, ◌+ℤ◌, ◌*ℤ◌, ◌≤ℤ◌, ◌<ℤ◌}
use Rattle.std.proofs.Common.{◌∙◌, ap, ap₂, subst, arith, ltb→lt, nltb→le, leb→le, le→leb, lt→ltb}
use Rattle.std.proofs.Math.IntN.{sub_ℕ}
use Rattle.std.specs.Int.Signed.{le_z, lt_z}

pub gap : ℕ → ℕ → ℤ
gap u v = sub_ℕ u v

-- the positive and the negative part
abbrev pub up : ℤ → ℕ
up (pos n) = n
up (negsuc n) = 0

abbrev pub dn : ℤ → ℕ
dn (pos n) = 0
dn (negsuc n) = suc n

-- z is the difference of p and m
pub record Is (z : ℤ) (p m : ℕ) : Type 0 where
  pub is : up z + m ≡ p + dn z

cond_ind {ℓ} : (c : Bool) (x y : ℤ) (P : ℤ → Type ℓ) → (T c → P x) → (T (not c) → P y) → P (cond c x y)
cond_ind true x y P f g = f tt
cond_ind false x y P f g = g tt

sub_is : (a b : ℕ) → up (sub_ℕ a b) + b ≡ a + dn (sub_ℕ a b)
sub_is a b = cond_ind (ltb a b) (negsuc (b - suc a)) (pos (a - b)) (λ z. up z + b ≡ a + dn z)
    (λ t. let h : a < b = ltb→lt a b t in omega arith) (λ t. let h : b ≤ a = nltb→le a b t in omega arith)

pub gap_is : (a b : ℕ) → up (gap a b) + b ≡ a + dn (gap a b)
unfolding gap
gap_is a b = sub_is a b

-- equal differences, equal numbers
pub Is-eq : {y z : ℤ} {p m q n : ℕ} → Is y p m → Is z q n → p + n ≡ q + m → y ≡ z
Is-eq {y = pos a} {z = pos b} h k e = ap pos (omega arith)
Is-eq {y = pos a} {z = negsuc b} h k e = absurd (omega arith)
Is-eq {y = negsuc a} {z = pos b} h k e = absurd (omega arith)
Is-eq {y = negsuc a} {z = negsuc b} h k e = ap negsuc (omega arith)

-- what each operation does to differences
pub Is-pos : (n : ℕ) → Is (pos n) n 0
Is-pos n = record { is = refl }

pub Is-self : (z : ℤ) → Is z (up z) (dn z)
Is-self z = record { is = refl }

pub Is-gap : (a b : ℕ) → Is (gap a b) a b
Is-gap a b = record { is = gap_is a b }

pub Is-neg : {z : ℤ} {p m : ℕ} → Is z p m → Is (neg_ℤ z) m p
Is-neg {z = pos zero} h = record { is = omega arith }
Is-neg {z = pos (suc n)} h = record { is = omega arith }
Is-neg {z = negsuc n} h = record { is = omega arith }

Is-sub : (a b : ℕ) {p m : ℕ} → a + m ≡ p + b → Is (sub_ℕ a b) p m
Is-sub a b e = record { is = omega (arith, sub_is a b) }

pub Is-add : {y z : ℤ} {p m q n : ℕ} → Is y p m → Is z q n → Is (y +ℤ z) (p + q) (m + n)
Is-add {y = pos a} {z = pos b} h k = record { is = omega arith }
Is-add {y = pos a} {z = negsuc b} h k = Is-sub a (suc b) (omega arith)
Is-add {y = negsuc a} {z = pos b} h k = Is-sub b (suc a) (omega arith)
Is-add {y = negsuc a} {z = negsuc b} h k = record { is = omega arith }

-- a product of differences: from a + m ≡ p + b and c + n ≡ q + d
mul_diff : (a b c d p m q n : ℕ) → a + m ≡ p + b → c + n ≡ q + d
    → (a * c + b * d) + (p * n + m * q) ≡ (p * q + m * n) + (a * d + b * c)
mul_diff a b c d p m q n h k =
    omega (arith, ap (λ (x : ℕ). x * c) h, ap (λ (x : ℕ). x * d) h, ap (λ (x : ℕ). p * x) k, ap (λ (x : ℕ). m * x) k)

neg_pos_is : (n : ℕ) → Is (neg_ℤ (pos n)) 0 n
neg_pos_is n = Is-neg (Is-pos n)

pub Is-mul : {y z : ℤ} {p m q n : ℕ} → Is y p m → Is z q n → Is (y *ℤ z) (p * q + m * n) (p * n + m * q)
Is-mul {y = pos a} {z = pos b} {p} {m} {q} {n} h k =
    record { is = omega (arith, mul_diff a 0 b 0 p m q n h.is k.is) }
Is-mul {y = pos a} {z = negsuc b} {p} {m} {q} {n} h k =
    record { is = omega (arith, mul_diff a 0 0 (suc b) p m q n h.is k.is, (neg_pos_is (a * suc b)).is) }
Is-mul {y = negsuc a} {z = pos b} {p} {m} {q} {n} h k =
    record { is = omega (arith, mul_diff 0 (suc a) b 0 p m q n h.is k.is, (neg_pos_is (suc a * b)).is) }
Is-mul {y = negsuc a} {z = negsuc b} {p} {m} {q} {n} h k =
    record { is = omega (arith, mul_diff 0 (suc a) 0 (suc b) p m q n h.is k.is) }

-- the order
le_of : (y z : ℤ) → up y + dn z ≤ up z + dn y → T (le_z y z)
le_of (pos a) (pos b) e = le→leb a b (omega arith)
le_of (pos a) (negsuc b) e = omega arith
le_of (negsuc a) (pos b) e = tt
le_of (negsuc a) (negsuc b) e = le→leb b a (omega arith)

le_to : (y z : ℤ) → T (le_z y z) → up y + dn z ≤ up z + dn y
le_to (pos a) (pos b) t = omega (arith, leb→le a b t)
le_to (pos a) (negsuc b) t = absurd t
le_to (negsuc a) (pos b) t = omega arith
le_to (negsuc a) (negsuc b) t = omega (arith, leb→le b a t)

lt_of : (y z : ℤ) → up y + dn z < up z + dn y → T (lt_z y z)
lt_of (pos a) (pos b) e = lt→ltb a b (omega arith)
lt_of (pos a) (negsuc b) e = omega arith
lt_of (negsuc a) (pos b) e = tt
lt_of (negsuc a) (negsuc b) e = lt→ltb b a (omega arith)

lt_to : (y z : ℤ) → T (lt_z y z) → up y + dn z < up z + dn y
lt_to (pos a) (pos b) t = omega (arith, ltb→lt a b t)
lt_to (pos a) (negsuc b) t = absurd t
lt_to (negsuc a) (pos b) t = omega arith
lt_to (negsuc a) (negsuc b) t = omega (arith, ltb→lt b a t)

-- rules for `omega`: a hypothesis over ℤ read, a goal over ℤ turned
pub le_out : {y z : ℤ} → y ≤ℤ z → up y + dn z ≤ up z + dn y
le_out {y} {z} h = le_to y z h.le

pub lt_out : {y z : ℤ} → y <ℤ z → up y + dn z < up z + dn y
lt_out {y} {z} h = lt_to y z h.lt

pub eq_out : {y z : ℤ} → y ≡ z → up y + dn z ≡ up z + dn y
eq_out {y} {z} h = subst (λ (x : ℤ). up y + dn x ≡ up x + dn y) h refl

pub le_in : {y z : ℤ} → up y + dn z ≤ up z + dn y → y ≤ℤ z
le_in {y} {z} h = record { le = le_of y z h }

pub lt_in : {y z : ℤ} → up y + dn z < up z + dn y → y <ℤ z
lt_in {y} {z} h = record { lt = lt_of y z h }

pub eq_in : {y z : ℤ} → up y + dn z ≡ up z + dn y → y ≡ z
eq_in {y} {z} h = Is-eq (Is-self y) (Is-self z) h

pub ruleset zrules = (le_out, lt_out, eq_out, le_in, lt_in, eq_in)

-- the same on `gap`, for `simp`
pub gap_self : (z : ℤ) → z ≡ gap (up z) (dn z)
gap_self z = Is-eq (Is-self z) (Is-gap (up z) (dn z)) refl

pub pos_gap : (n : ℕ) → pos n ≡ gap n 0
pos_gap n = gap_self (pos n)

pub negsuc_gap : (n : ℕ) → negsuc n ≡ gap 0 (suc n)
negsuc_gap n = gap_self (negsuc n)

pub add_gap : (a b c d : ℕ) → gap a b +ℤ gap c d ≡ gap (a + c) (b + d)
add_gap a b c d = Is-eq (Is-add (Is-gap a b) (Is-gap c d)) (Is-gap (a + c) (b + d)) refl

pub neg_gap : (a b : ℕ) → neg_ℤ (gap a b) ≡ gap b a
neg_gap a b = Is-eq (Is-neg (Is-gap a b)) (Is-gap b a) refl

pub mul_gap : (a b c d : ℕ) → gap a b *ℤ gap c d ≡ gap (a * c + b * d) (a * d + b * c)
mul_gap a b c d = Is-eq (Is-mul (Is-gap a b) (Is-gap c d)) (Is-gap (a * c + b * d) (a * d + b * c)) refl

pub le_gap : (a b c d : ℕ) → gap a b ≤ℤ gap c d ↔ a + d ≤ c + b
le_gap a b c d =
    (λ h. omega (arith, le_out h, gap_is a b, gap_is c d), λ h. le_in (omega (arith, gap_is a b, gap_is c d)))

pub lt_gap : (a b c d : ℕ) → gap a b <ℤ gap c d ↔ a + d < c + b
lt_gap a b c d =
    (λ h. omega (arith, lt_out h, gap_is a b, gap_is c d), λ h. lt_in (omega (arith, gap_is a b, gap_is c d)))

pub eq_gap : (a b c d : ℕ) → gap a b ≡ gap c d ↔ a + d ≡ c + b
eq_gap a b c d =
    (λ h. omega (arith, eq_out h, gap_is a b, gap_is c d), λ h. eq_in (omega (arith, gap_is a b, gap_is c d)))

pub ruleset gaps = (pos_gap, negsuc_gap, add_gap, neg_gap, mul_gap, le_gap, lt_gap, eq_gap)

-- the parts of a difference
up_is : (z : ℤ) (p m : ℕ) → Is z p m → up z ≡ p - m
up_is (pos n) p m h = omega arith
up_is (negsuc n) p m h = omega arith

dn_is : (z : ℤ) (p m : ℕ) → Is z p m → dn z ≡ m - p
dn_is (pos n) p m h = omega arith
dn_is (negsuc n) p m h = omega arith

pub abs_is : (z : ℤ) → nat_abs z ≡ up z + dn z
abs_is (pos n) = omega arith
abs_is (negsuc n) = omega arith

pub up_gap : (a b : ℕ) → up (gap a b) ≡ a - b
up_gap a b = up_is (gap a b) a b (Is-gap a b)

pub dn_gap : (a b : ℕ) → dn (gap a b) ≡ b - a
dn_gap a b = dn_is (gap a b) a b (Is-gap a b)

pub abs_gap : (a b : ℕ) → nat_abs (gap a b) ≡ (a - b) + (b - a)
abs_gap a b = abs_is (gap a b) ∙ ap₂ ◌+◌ (up_gap a b) (dn_gap a b)

-- z is at most n from 0: a record, so that z and n can be read off it
pub record Abs (z : ℤ) (n : ℕ) : Type 0 where
  pub abs : nat_abs z ≤ n

pub Abs-iff : (z : ℤ) (n : ℕ) → Abs z n ↔ nat_abs z ≤ n
Abs-iff z n = (λ h. h.abs, λ h. record { abs = h })

pub ruleset parts = (up_gap, dn_gap, abs_gap, Abs-iff)

-- what a sum and a difference are: a fact for `omega`'s list, beside `zrules`, for each compound term of a hypothesis
pub sum_is : (a b : ℤ) → Is (a +ℤ b) (up a + up b) (dn a + dn b)
sum_is a b = Is-add (Is-self a) (Is-self b)
