-- The first number that passes a test. Assumes nothing.
use Rattle.std.specs.Prelude.{◌≡◌, Bool, ltb}
use Rattle.std.proofs.Math.Path.{refl}
use Rattle.std.proofs.Common.{sym, ◌∙◌, true≢false, ltb-true, ltb-false}
use Rattle.std.proofs.Math.Bool.{true, false, cond}
use Prim.Native.Nat.{ℕ, zero, suc, ◌+◌, ◌<◌}
use native.Mathlib.Omega.{arith}
use Rattle.meaning.specs.Lists.{position, numbers, numbers_from}
use Rattle.lists.specs.Rows.{position_le}

-- of the n numbers from i on
module _ (f : ℕ → Bool) where
  pub hit_from : (n i : ℕ) → position f (numbers_from i n) < n → f (i + position f (numbers_from i n)) ≡ true
  unfolding position numbers_from
  hit_from zero i h = absurd (omega arith)
  hit_from (suc n) i h = go (f i) refl h (hit_from n (suc i))
    where
      go : (b : Bool) → f i ≡ b → cond b 0 (suc (position f (numbers_from (suc i) n))) < suc n
          → (position f (numbers_from (suc i) n) < n → f (suc i + position f (numbers_from (suc i) n)) ≡ true)
          → f (i + cond b 0 (suc (position f (numbers_from (suc i) n)))) ≡ true
      go true e h ih = let z : i + 0 ≡ i = omega arith in rw z e
      go false e h ih =
          let p = position f (numbers_from (suc i) n) in
          let z : i + suc p ≡ suc i + p = omega arith in
          rw z (ih (omega arith))

  pub before_from_lem : (n i j : ℕ) → j < position f (numbers_from i n) → f (i + j) ≡ false
  unfolding position numbers_from
  before_from_lem zero i j h = absurd (omega arith)
  before_from_lem (suc n) i j h = go (f i) refl j h (before_from_lem n (suc i))
    where
      go : (b : Bool) → f i ≡ b → (j : ℕ) → j < cond b 0 (suc (position f (numbers_from (suc i) n)))
          → ((j : ℕ) → j < position f (numbers_from (suc i) n) → f (suc i + j) ≡ false) → f (i + j) ≡ false
      go true e j h ih = absurd (omega arith)
      go false e zero h ih = let z : i + 0 ≡ i = omega arith in rw z e
      go false e (suc j) h ih = let z : i + suc j ≡ suc i + j = omega arith in rw z (ih j (omega arith))

  pub position_hit : (n : ℕ) → position f (numbers n) < n → f (position f (numbers n)) ≡ true
  position_hit n h = let p = position f (numbers n) in let z : 0 + p ≡ p = omega arith in rw z at (hit_from n 0 h)

  pub position_before : (n j : ℕ) → j < position f (numbers n) → f j ≡ false
  position_before n j h = let z : 0 + j ≡ j = omega arith in rw z at (before_from_lem n 0 j h)

-- the first of f is p, where f passes at p and nowhere before
pub position_is : (f : ℕ → Bool) (n p : ℕ) → p < n → f p ≡ true → ((j : ℕ) → j < p → f j ≡ false) → position f (numbers n) ≡ p
position_is f n p l t h = go (ltb q p) (ltb p q) refl refl
  where
    q : ℕ
    q = position f (numbers n)

    go : (a b : Bool) → ltb q p ≡ a → ltb p q ≡ b → q ≡ p
    go true b e d = absurd (true≢false (sym (position_hit f n (omega (arith, ltb-true q p e))) ∙ h q (ltb-true q p e)))
    go false true e d = absurd (true≢false (sym t ∙ position_before f n p (ltb-true p q d)))
    go false false e d = omega (arith, ltb-false q p e, ltb-false p q d)

-- there is none
pub position_none : (f : ℕ → Bool) (n : ℕ) → ((j : ℕ) → j < n → f j ≡ false) → position f (numbers n) ≡ n
position_none f n h = go (ltb q n) refl
  where
    q : ℕ
    q = position f (numbers n)

    go : (b : Bool) → ltb q n ≡ b → q ≡ n
    go true e = let l = ltb-true q n e in absurd (true≢false (sym (position_hit f n l) ∙ h q l))
    go false e = omega (arith, ltb-false q n e, position_le f 0 n)
