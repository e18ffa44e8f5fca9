-- What a word in its range is, by its magnitude and by its bits. Assumes nothing.
use Rattle.std.specs.Prelude.{◌≡◌, refl, Bool, true, false, ◌&&◌, ◌||◌, ℕ, suc, ◌-◌, ◌^◌, ◌≤◌, ◌<◌, eqb, leb, ltb, ℤ, pos, negsuc, nat_abs}
use Rattle.std.proofs.Common.{sym, ◌∙◌, ap, arith, ltb-false, leb-true, leb-false, eqb-true, le-leb, eq-eqb, ne_eqb}
use Rattle.std.proofs.lemmas.Bool.{eqb-false, lt-leb}
use Rattle.std.specs.Int.{w32}
use mir.Val.{to_z, sel}
use Rattle.integers.specs.Differences.{Abs}
use Rattle.integers.specs.Words.{eq_z}
use Rattle.meaning.specs.Description.{between}

-- from −n to n
pub magnitude_in : (n : ℕ) (w : ℤ) → between (negsuc n) (pos (suc n)) w ≡ true → Abs w (suc n)
magnitude_in n w e = record { abs = leb-true (nat_abs w) (suc n) (is w ∙ e) }
  where
    is : (w : ℤ) → leb (nat_abs w) (suc n) ≡ between (negsuc n) (pos (suc n)) w
    is (pos a) = refl
    is (negsuc a) = go (leb a n) refl
      where
        go : (b : Bool) → leb a n ≡ b → leb (suc a) (suc n) ≡ b && true
        go true e = le-leb (suc a) (suc n) (omega (arith, leb-true a n e))
        go false e = lt-leb (suc a) (suc n) (omega (arith, leb-false a n e))

-- 1 or −1
pub direction_is : (w : ℤ) → eqb (nat_abs w) 1 ≡ eq_z w (pos 1) || eq_z w (negsuc 0)
direction_is (pos a) = go (eqb a 1)
  where
    go : (b : Bool) → b ≡ b || false
    go true = refl
    go false = refl
direction_is (negsuc a) = go (eqb a 0) refl
  where
    go : (b : Bool) → eqb a 0 ≡ b → eqb (suc a) 1 ≡ b
    go true e = eq-eqb (suc a) 1 (omega (arith, eqb-true a 0 e))
    go false e = ne_eqb (suc a) 1 (λ g. eqb-false a 0 e (omega arith))

-- from 0 to n
pub bits_in : (n u : ℕ) → n < 2 ^ 31 → between (pos 0) (pos n) (to_z w32 u) ≡ true → u ≤ n
bits_in n u h e = leb-true u n (go (ltb u (2 ^ 31)) refl ∙ e)
  where
    go : (b : Bool) → ltb u (2 ^ 31) ≡ b → leb u n ≡ between (pos 0) (pos n) (sel b (pos u) (negsuc (2 ^ 32 - suc u)))
    go true e = ap (λ (b : Bool). b && leb u n) (sym (le-leb 0 u (omega arith)))
    go false e = lt-leb u n (omega (arith, ltb-false u (2 ^ 31) e))
