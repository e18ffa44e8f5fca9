-- The greatest common divisor by Euclid's rule, that it is the greatest, and Bezout's identity. Assumes nothing.
use Rattle.std.specs.Prelude.{◌≡◌, refl, ℕ, zero, suc, ◌/◌, ◌%◌, ◌<◌, ℤ, pos, negsuc, neg_ℤ, nat_abs, ◌+ℤ◌, ◌-ℤ◌, ◌*ℤ◌}
use Rattle.std.proofs.Common.{◌∙◌, ap, ap₂, div-add-mod', mod-lt, le_refl, arith}
use Rattle.std.specs.Int.{◌∣◌}
use Rattle.std.proofs.Math.Nat.{dvd_refl, dvd-zero, dvd-mod_iff}
use Rattle.integers.specs.Ring.{ring, quotes, literal, given, Ex.var, Ex.minus}
use Rattle.integers.proofs.Ring.{solve, solve_by}

-- Euclid's rule, at most f times
unfoldable pub euclid : ℕ → ℕ → ℕ → ℕ
euclid zero a b = a
euclid (suc f) a zero = a
euclid (suc f) a (suc b) = euclid f (suc b) (a % suc b)

-- document 01: the greatest common divisor; the second argument falls, so it is reached
unfoldable pub gcd_of : ℕ → ℕ → ℕ
gcd_of a b = euclid (suc b) a b

-- ---- the rule

-- more turns than b change nothing
enough : (f g a b : ℕ) → b < f → b < g → euclid f a b ≡ euclid g a b
unfolding euclid
enough zero g a b h k = absurd (omega arith)
enough (suc f) zero a b h k = absurd (omega arith)
enough (suc f) (suc g) a zero h k = refl
enough (suc f) (suc g) a (suc b) h k =
    let l : a % suc b < suc b = mod-lt a (omega arith) in enough f g (suc b) (a % suc b) (omega arith) (omega arith)

pub gcd_zero : (a : ℕ) → gcd_of a 0 ≡ a
unfolding gcd_of euclid
gcd_zero a = refl

gcd_step : (a b : ℕ) → gcd_of a (suc b) ≡ gcd_of (suc b) (a % suc b)
unfolding gcd_of euclid
gcd_step a b =
    let l : a % suc b < suc b = mod-lt a (omega arith) in enough (suc b) (suc (a % suc b)) (suc b) (a % suc b) l (omega arith)

pub gcd_next : (a b : ℕ) → (b ≡ 0 → ⊥) → gcd_of a b ≡ gcd_of b (a % b)
gcd_next a zero h = absurd (h refl)
gcd_next a (suc b) h = gcd_step a b

-- induction along the rule
along {ℓ} : (P : ℕ → ℕ → Type ℓ) → ((a : ℕ) → P a 0) → ((a b : ℕ) → P (suc b) (a % suc b) → P a (suc b)) → (a b : ℕ) → P a b
along P z s a b = go (suc b) a b (le_refl (suc b))
  where
    go : (f a b : ℕ) → b < f → P a b
    go zero a b h = absurd (omega arith)
    go (suc f) a zero h = z a
    go (suc f) a (suc b) h = let l : a % suc b < suc b = mod-lt a (omega arith) in s a b (go f (suc b) (a % suc b) (omega arith))

-- ---- it divides both, and whatever divides both divides it

pub record Greatest (g a b : ℕ) : Type 0 where
  pub left : g ∣ a
  pub right : g ∣ b
  pub most : (d : ℕ) → d ∣ a → d ∣ b → d ∣ g

pub gcd_greatest : (a b : ℕ) → Greatest (gcd_of a b) a b
gcd_greatest = along (λ a b. Greatest (gcd_of a b) a b) base step
  where
    base : (a : ℕ) → Greatest (gcd_of a 0) a 0
    base a = rw gcd_zero (record { left = dvd_refl a; right = dvd-zero a; most = λ d h k. h })

    step : (a b : ℕ) → Greatest (gcd_of (suc b) (a % suc b)) (suc b) (a % suc b) → Greatest (gcd_of a (suc b)) a (suc b)
    step a b h =
        rw gcd_step
        (record {
          left = (dvd-mod_iff _ h.left).0 h.right;
          right = h.left;
          most = λ d i j. h.most d j ((dvd-mod_iff d j).1 i);
        })

-- ---- Bezout: it is a sum of multiples of the two numbers

pub record Bezout (g : ℕ) (a b : ℤ) : Type 0 where
  pub u : ℤ
  pub w : ℤ
  pub eq : u *ℤ a +ℤ w *ℤ b ≡ pos g

natural : (a b : ℕ) → Bezout (gcd_of a b) (pos a) (pos b)
natural = along (λ a b. Bezout (gcd_of a b) (pos a) (pos b)) base step
  where
    alone : (a : ℤ) → pos 1 *ℤ a +ℤ pos 0 *ℤ pos 0 ≡ a
    alone = ring 0 1 _ λ ρ. simp (quotes, literal ρ) (solve ρ _ _ tt)

    base : (a : ℕ) → Bezout (gcd_of a 0) (pos a) (pos 0)
    base a = rw gcd_zero (record { u = pos 1; w = pos 0; eq = alone (pos a) })

    -- w a + (u − w q) b = u b + w r where q b + r = a
    turn : (u w a b q r : ℤ) → q *ℤ b +ℤ r ≡ a → w *ℤ a +ℤ (u -ℤ w *ℤ q) *ℤ b ≡ u *ℤ b +ℤ w *ℤ r
    turn = ring 0 6 _ λ ρ. simp quotes (λ h. solve_by _ _ (given (minus (var 1)) h) tt)

    step : (a b : ℕ) → Bezout (gcd_of (suc b) (a % suc b)) (pos (suc b)) (pos (a % suc b)) → Bezout (gcd_of a (suc b)) (pos a) (pos (suc b))
    step a b h =
        rw gcd_step
        (record {
          u = h.w;
          w = h.u -ℤ h.w *ℤ pos (a / suc b);
          eq = turn h.u h.w (pos a) (pos (suc b)) (pos (a / suc b)) (pos (a % suc b)) (ap pos (div-add-mod' a (suc b))) ∙ h.eq;
        })

-- of any two whole numbers, with the greatest common divisor of their absolute values
pub bezout : (a b : ℤ) → Bezout (gcd_of (nat_abs a) (nat_abs b)) a b
bezout a b =
    let h = natural (nat_abs a) (nat_abs b) in
    record {
      u = signed h.u a;
      w = signed h.w b;
      eq = ap₂ ◌+ℤ◌ (signed_is h.u a) (signed_is h.w b) ∙ h.eq;
    }
  where
    -- a multiple of a for one of |a|
    signed : ℤ → ℤ → ℤ
    signed u (pos n) = u
    signed u (negsuc n) = neg_ℤ u

    neg_neg : (u a : ℤ) → neg_ℤ u *ℤ neg_ℤ a ≡ u *ℤ a
    neg_neg = ring 0 2 _ λ ρ. simp quotes (solve ρ _ _ tt)

    signed_is : (u a : ℤ) → signed u a *ℤ a ≡ u *ℤ pos (nat_abs a)
    signed_is u (pos n) = refl
    signed_is u (negsuc n) = neg_neg u (pos (suc n))
