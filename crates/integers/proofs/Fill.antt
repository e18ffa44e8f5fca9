-- What stands in a list that a loop has filled. Assumes nothing.
use Rattle.std.specs.Prelude.{◌≡◌, ◌⊎◌, List, set}
use Rattle.std.proofs.Common.{◌∙◌, inl, inr, eq-or-lt_of_le, le_of_suc-le-suc, arith, get_or-set_same}
use Prim.Native.Nat.{ℕ, zero, suc, ◌≤◌, ◌<◌}
use Rattle.std.proofs.Math.ListN.{length, get_or}
use Rattle.std.proofs.Math.Seq.{get_or-set_other}
use Rattle.integers.specs.Fill.{fill_by, fill_length}

pub fill_at_lem : {A : Type 0} (f : ℕ → A) (n k : ℕ) (xs : List A) (d : A) → k < n → n ≤ length xs → get_or (fill_by f n xs) k d ≡ f k
unfolding fill_by
fill_at_lem f zero k xs d h l = absurd (omega arith)
fill_at_lem f (suc n) k xs d h l = go (eq-or-lt_of_le (le_of_suc-le-suc h)) (fill_at_lem f n k xs d)
  where
    go : (k ≡ n) ⊎ (k < n) → (k < n → n ≤ length xs → get_or (fill_by f n xs) k d ≡ f k) → get_or (set (fill_by f n xs) n (f n)) k d ≡ f k
    go (inl e) ih = rw e (get_or-set_same (fill_by f n xs) n (f n) d (omega (arith, fill_length f n xs)))
    go (inr m) ih = get_or-set_other (fill_by f n xs) n k (f n) d (λ (e : k ≡ n). omega arith) ∙ ih m (omega arith)
