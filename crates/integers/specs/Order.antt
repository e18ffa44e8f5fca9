-- Products and the order on ℤ: monotony, cancelling; parts of equal length one behind the other. Assumes nothing.
use Rattle.std.specs.Prelude.{◌≡◌, ℕ, suc, ◌+◌, ◌*◌, ◌≤◌, ◌<◌, ℤ, pos, negsuc, ◌*ℤ◌, ◌≤ℤ◌, ◌<ℤ◌}
use Rattle.std.proofs.Common.{ap, mul-le-mul_right, arith}
use Rattle.std.proofs.Math.Nat.{mul-lt-mul_of_pos_left, le_of_mul-le-mul_left}
use Rattle.std.proofs.Math.Decide.{dec_le}
use Rattle.integers.specs.Differences.{gaps, lt_out}
use Rattle.integers.specs.Variables.{linear}

-- ---- a product with a factor c > 0 keeps the order

pub mul_less : (c a b : ℤ) → pos 0 <ℤ c → a <ℤ b → (c *ℤ a) <ℤ (c *ℤ b)
mul_less (pos n) a b h k = go a b k
  where
    go : (a b : ℤ) → a <ℤ b → (pos n *ℤ a) <ℤ (pos n *ℤ b)
    go = linear 0 2 _ λ p m. simp gaps (λ k. omega (arith, mul-lt-mul_of_pos_left {k = n} k (omega (arith, lt_out h))))
mul_less (negsuc n) a b h k = absurd (omega (arith, lt_out h))

-- and gives it back
pub mul_reflects : (c a b : ℤ) → pos 0 <ℤ c → (c *ℤ a) ≤ℤ (c *ℤ b) → a ≤ℤ b
mul_reflects (pos n) a b h k = go a b k
  where
    go : (a b : ℤ) → (pos n *ℤ a) ≤ℤ (pos n *ℤ b) → a ≤ℤ b
    go = linear 0 2 _ λ p m. simp gaps (λ k. le_of_mul-le-mul_left {k = n} (omega arith) (omega (arith, lt_out h)))
mul_reflects (negsuc n) a b h k = absurd (omega (arith, lt_out h))

pub mul_positive : (a b : ℤ) → pos 0 <ℤ a → pos 0 <ℤ b → pos 0 <ℤ (a *ℤ b)
mul_positive (pos n) b h k = go b k
  where
    go : (b : ℤ) → pos 0 <ℤ b → pos 0 <ℤ (pos n *ℤ b)
    go = linear 0 1 _ λ p m. simp gaps (λ k. omega (arith, mul-lt-mul_of_pos_left {k = n} k (omega (arith, lt_out h))))
mul_positive (negsuc n) b h k = absurd (omega (arith, lt_out h))

-- ---- parts of equal length

-- part i of m parts of w words ends with the last or before it
pub part : {i m : ℕ} → i < m → (w : ℕ) → i * w + w ≤ m * w
part {i} {m} h w = omega (arith, mul-le-mul_right w h)

-- places in parts of w words are the same only in the same part
pub parts_apart : (w p a r b : ℕ) → a < w → b < w → p * w + a ≡ r * w + b → (p ≡ r) × (a ≡ b)
parts_apart w p a r b h k e = go (dec_le (suc p) r) (dec_le (suc r) p)
  where
    go : Dec (suc p ≤ r) → Dec (suc r ≤ p) → (p ≡ r) × (a ≡ b)
    go (yes l) m = absurd (omega (arith, part l w))
    go (no l) (yes m) = absurd (omega (arith, part m w))
    go (no l) (no m) = let z : p ≡ r = omega arith in (z, omega (arith, ap (λ (p : ℕ). p * w) z))
