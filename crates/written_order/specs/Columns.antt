-- A list in rows of six, one column of it set by a function, as a loop that stores leaves it. Assumes nothing.
use Rattle.std.specs.Prelude.{◌≡◌, ◌⊎◌, List, set}
use Rattle.std.proofs.Math.Path.{refl, ap}
use Rattle.std.proofs.Common.{◌∙◌, ap₂, inl, inr, eq-or-lt_of_le, le_of_suc-le-suc, add-one, arith, get_or-set_same}
use Prim.Native.Nat.{ℕ, zero, suc, ◌+◌, ◌*◌, ◌≤◌, ◌<◌}
use Rattle.std.proofs.Math.ListN.{length, get_or, length-set}
use Rattle.std.proofs.Math.Seq.{get_or-set_other}

-- column i of the first rows
module _ (i : ℕ) (f : ℕ → ℕ) where
  unfoldable pub column : ℕ → List ℕ → List ℕ
  column zero xs = xs
  column (suc n) xs = set (column n xs) (6 * n + i) (f n)

  pub column_zero : (xs : List ℕ) → column 0 xs ≡ xs
  unfolding column
  column_zero xs = refl

  -- a turn of the loop
  pub column_step : (n : ℕ) (xs : List ℕ) → column (n + 1) xs ≡ set (column n xs) (6 * n + i) (f n)
  unfolding column
  column_step n xs = ap (λ (k : ℕ). column k xs) (add-one n)

  pub column_length : (n : ℕ) (xs : List ℕ) → length (column n xs) ≡ length xs
  unfolding column
  column_length zero xs = refl
  column_length (suc n) xs = length-set (column n xs) (6 * n + i) (f n) ∙ column_length n xs

  -- another column stays
  pub column_other : (n k j : ℕ) (xs : List ℕ) → i < 6 → j < 6 → (j ≡ i → ⊥) → get_or (column n xs) (6 * k + j) 0 ≡ get_or xs (6 * k + j) 0
  unfolding column
  column_other zero k j xs h l g = refl
  column_other (suc n) k j xs h l g =
      get_or-set_other (column n xs) (6 * n + i) (6 * k + j) (f n) 0 (λ (e : 6 * k + j ≡ 6 * n + i). g (omega arith))
      ∙ column_other n k j xs h l g

  pub column_at : (n k : ℕ) (xs : List ℕ) → k < n → i < 6 → 6 * n ≤ length xs → get_or (column n xs) (6 * k + i) 0 ≡ f k
  unfolding column
  column_at zero k xs h l r = absurd (omega arith)
  column_at (suc n) k xs h l r = go (eq-or-lt_of_le (le_of_suc-le-suc h)) (column_at n k xs)
    where
      go : (k ≡ n) ⊎ (k < n) → (k < n → i < 6 → 6 * n ≤ length xs → get_or (column n xs) (6 * k + i) 0 ≡ f k)
          → get_or (set (column n xs) (6 * n + i) (f n)) (6 * k + i) 0 ≡ f k
      go (inl e) ih = rw e (get_or-set_same (column n xs) (6 * n + i) (f n) 0 (omega (arith, column_length n xs)))
      go (inr m) ih =
          get_or-set_other (column n xs) (6 * n + i) (6 * k + i) (f n) 0 (λ (e : 6 * k + i ≡ 6 * n + i). omega arith) ∙ ih m l (omega arith)

-- functions that agree on the rows set the same column
pub column_same : (i : ℕ) (f g : ℕ → ℕ) (n : ℕ) (xs : List ℕ) → ((k : ℕ) → k < n → f k ≡ g k) → column i f n xs ≡ column i g n xs
unfolding column
column_same i f g zero xs h = refl
column_same i f g (suc n) xs h =
    ap₂ (λ (l : List ℕ) (v : ℕ). set l (6 * n + i) v) (column_same i f g n xs (λ k l. h k (omega arith))) (h n (omega arith))
