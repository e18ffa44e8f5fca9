-- Cancelling a factor on ℤ. Assumes nothing.
use Rattle.std.specs.Prelude.{◌≡◌, refl, ℕ, zero, suc, ◌+◌, ℤ, pos, negsuc, neg_ℤ, ◌*ℤ◌}
use Rattle.std.proofs.Common.{sym, ◌∙◌, arith}
use Rattle.std.proofs.Math.Nat.{eq_of_mul-eq-mul_left}
use Rattle.integers.specs.Differences.{gaps}
use Rattle.integers.specs.Variables.{linear}
use Rattle.integers.specs.Ring.{ring, quotes, given, Ex.below}
use Rattle.integers.proofs.Ring.{solve_by}

-- ---- a factor that is not 0 can be cancelled

positive_cancel : (n : ℕ) (a b : ℤ) → pos (suc n) *ℤ a ≡ pos (suc n) *ℤ b → a ≡ b
positive_cancel n = linear 0 2 _ λ p m. simp gaps (λ e. eq_of_mul-eq-mul_left (suc n) (omega arith) (p 0 + m 1) (p 1 + m 0) (omega arith))

flip : (a b c : ℤ) → c *ℤ a ≡ c *ℤ b → neg_ℤ c *ℤ a ≡ neg_ℤ c *ℤ b
flip = ring 0 3 _ λ ρ. simp quotes (λ e. solve_by _ _ (given (below 0) e) tt)

pub cancel : (c a b : ℤ) → (c ≡ pos 0 → ⊥) → c *ℤ a ≡ c *ℤ b → a ≡ b
cancel (pos zero) a b h e = absurd (h refl)
cancel (pos (suc n)) a b h e = positive_cancel n a b e
cancel (negsuc n) a b h e = positive_cancel n a b (flip a b (negsuc n) e)

pub cancel_zero : (c a : ℤ) → (c ≡ pos 0 → ⊥) → c *ℤ a ≡ pos 0 → a ≡ pos 0
cancel_zero c a h e = cancel c a (pos 0) h (e ∙ sym (times_zero c))
  where
    times_zero : (c : ℤ) → c *ℤ pos 0 ≡ pos 0
    times_zero = linear 0 1 _ λ p m. simp gaps (omega arith)
