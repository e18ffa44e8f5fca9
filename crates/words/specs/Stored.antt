-- A row written into a list word by word: what stands there, and what stays. Assumes nothing.
use Rattle.std.specs.Prelude.{◌≡◌, ◌⊎◌, List, [], ◌∷◌, ◌++◌, set, take, drop}
use Rattle.std.proofs.Math.Path.{refl, ap}
use Rattle.std.proofs.Common.{◌∙◌, ap₂, inl, inr, append-nil, eq-or-lt_of_le, le_of_suc-le-suc, add-one, arith, drop_of_length-le}
use Rattle.std.proofs.Common.{get_or-set_same}
use Prim.Native.Nat.{ℕ, zero, suc, ◌+◌, ◌≤◌, ◌<◌}
use Rattle.std.proofs.Math.ListN.{length, get_or, length-set}
use Rattle.std.proofs.Math.Seq.{get_or-set_other, paste, paste-zero, paste-suc, take-length}

-- the first n words of a row, from place `at` on
unfoldable pub stored : List ℕ → ℕ → ℕ → List ℕ → List ℕ
stored row at zero l = l
stored row at (suc n) l = set (stored row at n l) (at + n) (get_or row n 0)

module _ (row : List ℕ) (at : ℕ) (l : List ℕ) where
  pub stored_zero : stored row at 0 l ≡ l
  unfolding stored
  stored_zero = refl

  pub stored_step : (n : ℕ) → stored row at (n + 1) l ≡ set (stored row at n l) (at + n) (get_or row n 0)
  unfolding stored
  stored_step n = ap (λ (k : ℕ). stored row at k l) (add-one n)

  pub stored_length : (n : ℕ) → length (stored row at n l) ≡ length l
  unfolding stored
  stored_length zero = refl
  stored_length (suc n) = length-set (stored row at n l) (at + n) (get_or row n 0) ∙ stored_length n

  -- what stays
  pub stored_other : (n k : ℕ) → (k < at) ⊎ (at + n ≤ k) → get_or (stored row at n l) k 0 ≡ get_or l k 0
  unfolding stored
  stored_other zero k h = refl
  stored_other (suc n) k (inl h) =
      get_or-set_other (stored row at n l) (at + n) k (get_or row n 0) 0 (λ (e : k ≡ at + n). omega arith) ∙ stored_other n k (inl h)
  stored_other (suc n) k (inr h) =
      get_or-set_other (stored row at n l) (at + n) k (get_or row n 0) 0 (λ (e : k ≡ at + n). omega arith)
      ∙ stored_other n k (inr (omega arith))

  -- what stands there
  pub stored_at : (n w : ℕ) → w < n → at + n ≤ length l → get_or (stored row at n l) (at + w) 0 ≡ get_or row w 0
  unfolding stored
  stored_at zero w h k = absurd (omega arith)
  stored_at (suc n) w h k = go (eq-or-lt_of_le (le_of_suc-le-suc h)) (stored_at n w)
    where
      go : (w ≡ n) ⊎ (w < n) → (w < n → at + n ≤ length l → get_or (stored row at n l) (at + w) 0 ≡ get_or row w 0)
          → get_or (set (stored row at n l) (at + n) (get_or row n 0)) (at + w) 0 ≡ get_or row w 0
      go (inl e) ih = rw e (get_or-set_same (stored row at n l) (at + n) (get_or row n 0) 0 (omega (arith, stored_length n)))
      go (inr m) ih =
          get_or-set_other (stored row at n l) (at + n) (at + w) (get_or row n 0) 0 (λ (e : at + w ≡ at + n). omega arith)
          ∙ ih m (omega arith)

-- ---- in one piece

pub stored_paste : (row : List ℕ) (at : ℕ) (l : List ℕ) (n : ℕ) → at + n ≤ length l → n ≤ length row → stored row at n l ≡ paste l at row n
unfolding stored
stored_paste row at l zero h k = paste-zero l at row
stored_paste row at l (suc n) h k =
    ap (λ (m : List ℕ). set m (at + n) (get_or row n 0)) (stored_paste row at l n (omega arith) (omega arith))
    ∙ paste-suc l at row n 0 (omega arith) (omega arith)

-- a whole list
pub stored_all : (row l : List ℕ) → length l ≡ length row → stored row 0 (length row) l ≡ row
stored_all row l e =
    let h : length l ≤ 0 + length row = omega arith in
    stored_paste row 0 l (length row) (omega arith) (omega arith)
    ∙ ap (λ (a : List ℕ). a ++ take (length row) row ++ drop (0 + length row) l) (none l)
    ∙ ap₂ (λ (a b : List ℕ). a ++ b) (take-length row) (drop_of_length-le l h) ∙ append-nil row
  where
    none : (l : List ℕ) → take 0 l ≡ []
    none [] = refl
    none (x ∷ l) = refl
