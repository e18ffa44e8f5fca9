-- Signed machine words of 32 bits. The code's sums and products are towers of `to_z w32 (of_z w32 ..)`: `Holds t z n` says that the tower t
-- is the number z, and that |z| ≤ n. It is built along the code, `box` takes a tower off, and `tt` checks each bound below 2^31.
-- Assumes nothing.
use Rattle.std.specs.Prelude.{◌≡◌, refl, Bool, true, false, not, ℕ, suc, ◌+◌, ◌*◌, ◌-◌, ◌^◌, ◌≤◌, ◌<◌, T, ltb, eqb, ℤ, pos, negsuc, neg_ℤ}
use Rattle.std.specs.Prelude.{nat_abs, ◌+ℤ◌, ◌-ℤ◌, ◌*ℤ◌, ◌≤ℤ◌, ◌<ℤ◌}
use Rattle.std.proofs.Common.{sym, ◌∙◌, ap, ap₂, subst, true≢false, le_refl, arith, ltb→lt, eq-eqb, ne_eqb, eqb-true, SFits, Fits, to_z}
use Rattle.std.proofs.Common.{of_z, to_z-of_z}
use Rattle.std.proofs.Math.Decide.{ℕ_discrete}
use Rattle.std.proofs.Math.IntN.{+ℤ_idl}
use Rattle.std.specs.Int.Signed.{mag, lt_z, lt_z_no, non_neg, yes_non_neg}
use Rattle.std.specs.Int.{w32}
use Rattle.std.proofs.lemmas.Int.{to_z_pos}
use Rattle.integers.specs.Differences.{Abs, Is-add, Is-neg, Is-self, Is-pos, Is-eq, lt_out, le_out}
use Rattle.integers.specs.Bounds.{abs_neg, Abs-neg, Abs-add, Abs-sub, Abs-mul}

pub record Holds (t z : ℤ) (n : ℕ) : Type 0 where
  pub eq : t ≡ z
  pub le : Abs z n

mag_abs : (z : ℤ) → mag z ≤ nat_abs z
mag_abs (pos n) = omega arith
mag_abs (negsuc n) = omega arith

-- a value in range, as the code holds it; the bound is in `.struct_told .given .1`, in `.fits` and in a call's `.ok`
pub tower : (z : ℤ) → mag z < 2 ^ 31 → to_z w32 (of_z w32 z) ≡ z
tower z h = to_z-of_z {w = w32} (record { sfits = h })

-- ---- building

-- a number of known bound; a literal; a value that the code holds
pub leaf : {z : ℤ} {n : ℕ} → Abs z n → Holds z z n
leaf h = record { eq = refl; le = h }

pub lit : (z : ℤ) → Holds z z (nat_abs z)
lit z = leaf (record { abs = le_refl (nat_abs z) })

-- the operation fits its type
pub fits : {t z : ℤ} {n : ℕ} → T (ltb n (2 ^ 31)) → Holds t z n → SFits w32 t
fits {z} {n} b h =
    record { sfits = subst (λ (x : ℤ). mag x < 2 ^ 31) (sym h.eq) (omega (arith, mag_abs z, h.le.abs, ltb→lt n (2 ^ 31) b)) }

pub box : {t z : ℤ} {n : ℕ} → T (ltb n (2 ^ 31)) → Holds t z n → Holds (to_z w32 (of_z w32 t)) z n
box b h = record { eq = to_z-of_z (fits b h) ∙ h.eq; le = h.le }

pub at : {z : ℤ} {n : ℕ} → T (ltb n (2 ^ 31)) → Abs z n → Holds (to_z w32 (of_z w32 z)) z n
at b h = box b (leaf h)

pub mul : {t z u y : ℤ} {m n : ℕ} → Holds t z m → Holds u y n → Holds (t *ℤ u) (z *ℤ y) (m * n)
mul h k = record { eq = ap₂ ◌*ℤ◌ h.eq k.eq; le = Abs-mul h.le k.le }

pub add : {t z u y : ℤ} {m n : ℕ} → Holds t z m → Holds u y n → Holds (t +ℤ u) (z +ℤ y) (m + n)
add h k = record { eq = ap₂ ◌+ℤ◌ h.eq k.eq; le = Abs-add h.le k.le }

pub sub : {t z u y : ℤ} {m n : ℕ} → Holds t z m → Holds u y n → Holds (t -ℤ u) (z -ℤ y) (m + n)
sub h k = record { eq = ap₂ ◌-ℤ◌ h.eq k.eq; le = Abs-sub h.le k.le }

-- −x, as the code has it
pub minus : {t z : ℤ} {m : ℕ} → Holds t z m → Holds (pos 0 -ℤ t) (neg_ℤ z) m
minus {t} h = record { eq = +ℤ_idl (neg_ℤ t) ∙ ap neg_ℤ h.eq; le = Abs-neg h.le }

-- bits below half, as a signed number
pub bits : {m n : ℕ} → T (ltb n (2 ^ 31)) → m ≤ n → Holds (to_z w32 m) (pos m) n
bits {m} {n} b h = record { eq = to_z_pos w32 m (omega (arith, ltb→lt n (2 ^ 31) b)); le = record { abs = h } }

-- one more than a negative number of any size
pub next : (n : ℕ) → negsuc n +ℤ pos 1 ≡ neg_ℤ (pos n)
next n = Is-eq (Is-add (Is-self (negsuc n)) (Is-pos 1)) (Is-neg (Is-pos n)) (omega arith)

-- and one less than −m
pub neg_one : (m : ℕ) → neg_ℤ (pos m) -ℤ pos 1 ≡ negsuc m
neg_one m = Is-eq (Is-add (Is-neg (Is-pos m)) (Is-neg (Is-pos 1))) (Is-self (negsuc m)) (omega arith)

next_abs : (n : ℕ) → nat_abs (negsuc n +ℤ pos 1) ≡ n
next_abs n = ap nat_abs (next n) ∙ abs_neg (pos n)

pub up_one : {z : ℤ} → mag z < 2 ^ 31 → z <ℤ pos 0 → Holds (to_z w32 (of_z w32 z) +ℤ pos 1) (z +ℤ pos 1) 2147483647
up_one {z} h k = record { eq = ap (λ (x : ℤ). x +ℤ pos 1) (tower z h); le = record { abs = go z h k } }
  where
    go : (z : ℤ) → mag z < 2 ^ 31 → z <ℤ pos 0 → nat_abs (z +ℤ pos 1) ≤ 2147483647
    go (pos n) h k = absurd (omega (arith, lt_out k))
    go (negsuc n) h k = omega (arith, next_abs n)

-- ---- reading

pub held : {z y : ℤ} → mag z < 2 ^ 31 → z ≡ y → to_z w32 (of_z w32 z) ≡ y
held {z} h e = tower z h ∙ e

pub held_abs : {z : ℤ} {n : ℕ} → mag z < 2 ^ 31 → Abs z n → Abs (to_z w32 (of_z w32 z)) n
held_abs {z} {n} h a = subst (λ (x : ℤ). Abs x n) (sym (tower z h)) a

pub bounded : {t z : ℤ} {n : ℕ} → Holds t z n → Abs t n
bounded {n} h = subst (λ (x : ℤ). Abs x n) (sym h.eq) h.le

-- a cast of a number that is not negative
pub cast_of : {t z : ℤ} {n : ℕ} → T (ltb n (2 ^ 32)) → Holds t z n → pos 0 ≤ℤ z → T (non_neg t) × Fits w32 (nat_abs t)
cast_of {n} b h k = (
  subst (λ (x : ℤ). T (non_neg x)) (sym h.eq) (yes_non_neg k),
  record { fits = subst (λ (x : ℤ). nat_abs x < 2 ^ 32) (sym h.eq) (omega (arith, h.le.abs, ltb→lt n (2 ^ 32) b)) },
)

-- ---- what a test said

pub less : {a b : ℤ} → lt_z a b ≡ true → a <ℤ b
less e = record { lt = subst (λ (x : Bool). T x) (sym e) tt }

pub not_less : {a b : ℤ} → lt_z a b ≡ false → b ≤ℤ a
not_less e = lt_z_no (subst (λ (x : Bool). T (not x)) (sym e) tt)

-- of two towers, by what they hold
pub less_of : {t u a b : ℤ} → t ≡ a → u ≡ b → lt_z t u ≡ true → a <ℤ b
less_of p q e = less (sym (ap₂ lt_z p q) ∙ e)

pub not_less_of : {t u a b : ℤ} → t ≡ a → u ≡ b → lt_z t u ≡ false → b ≤ℤ a
not_less_of p q e = not_less (sym (ap₂ lt_z p q) ∙ e)

-- equality as a test, on numbers and on their bits
abbrev pub eq_z : ℤ → ℤ → Bool
eq_z (pos m) (pos n) = eqb m n
eq_z (pos m) (negsuc n) = false
eq_z (negsuc m) (pos n) = false
eq_z (negsuc m) (negsuc n) = eqb m n

pub eq_bits : (a b : ℤ) → mag a < 2 ^ 31 → mag b < 2 ^ 31 → eqb (of_z w32 a) (of_z w32 b) ≡ eq_z a b
eq_bits (pos m) (pos n) h k = refl
eq_bits (pos m) (negsuc n) h k = ne_eqb m (2 ^ 32 - suc n) (omega arith)
eq_bits (negsuc m) (pos n) h k = ne_eqb (2 ^ 32 - suc m) n (omega arith)
eq_bits (negsuc m) (negsuc n) h k = both (ℕ_discrete m n)
  where
    both : Dec (m ≡ n) → eqb (2 ^ 32 - suc m) (2 ^ 32 - suc n) ≡ eqb m n
    both (yes e) = eq-eqb (2 ^ 32 - suc m) (2 ^ 32 - suc n) (omega arith) ∙ sym (eq-eqb m n e)
    both (no f) = ne_eqb (2 ^ 32 - suc m) (2 ^ 32 - suc n) (λ e. f (omega arith)) ∙ sym (ne_eqb m n f)

pub eq_test : {t u a b : ℤ} {m n : ℕ} → T (ltb m (2 ^ 31)) → T (ltb n (2 ^ 31)) → Holds t a m → Holds u b n
    → eqb (of_z w32 t) (of_z w32 u) ≡ eq_z a b
eq_test {t} {u} p q h k = eq_bits t u (fits p h).sfits (fits q k).sfits ∙ ap₂ eq_z h.eq k.eq

pub eq_z→eq : (a b : ℤ) → eq_z a b ≡ true → a ≡ b
eq_z→eq (pos m) (pos n) e = ap pos (eqb-true m n e)
eq_z→eq (pos m) (negsuc n) e = absurd (true≢false (sym e))
eq_z→eq (negsuc m) (pos n) e = absurd (true≢false (sym e))
eq_z→eq (negsuc m) (negsuc n) e = ap negsuc (eqb-true m n e)

-- ---- the bits of a number, as the code makes them

pub size_positive : (z : ℤ) → z <ℤ pos 0 → 1 ≤ nat_abs z
size_positive (pos n) k = absurd (omega (arith, lt_out k))
size_positive (negsuc n) k = omega arith

pub bits_negative : (z : ℤ) → mag z < 2 ^ 31 → z <ℤ pos 0 → 4294967295 - (nat_abs z - 1) ≡ of_z w32 z
bits_negative (pos n) h k = absurd (omega (arith, lt_out k))
bits_negative (negsuc n) h k = omega arith

pub bits_other : (z : ℤ) → pos 0 ≤ℤ z → nat_abs z ≡ of_z w32 z
bits_other (pos n) k = refl
bits_other (negsuc n) k = absurd (omega (arith, le_out k))
