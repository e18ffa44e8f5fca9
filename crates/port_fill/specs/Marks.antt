-- Rows of m words written one after the other, row p at place `at p` where a test says so: what stands, and what stays. Assumes nothing.
use Rattle.std.specs.Prelude.{◌≡◌, ◌⊎◌, Bool, true, false, cond, List, length}
use Rattle.std.proofs.Math.Path.{refl, ap, subst}
use Rattle.std.proofs.Common.{sym, ◌∙◌, inl, inr, eq-or-lt_of_le, le_of_suc-le-suc, add-one, arith}
use Prim.Native.Nat.{ℕ, zero, suc, ◌+◌, ◌≤◌, ◌<◌}
use Rattle.std.proofs.Math.ListN.{get_or}
use Rattle.words.specs.Stored.{stored, stored_length, stored_other, stored_at}

module _ (on : ℕ → Bool) (row : ℕ → List ℕ) (at : ℕ → ℕ) (m : ℕ) where
  abbrev pub mark : ℕ → List ℕ → List ℕ
  mark p l = cond (on p) (stored (row p) (at p) m l) l

  -- the first rows
  unfoldable pub marks : ℕ → List ℕ → List ℕ
  marks zero l = l
  marks (suc p) l = cond (on p) (stored (row p) (at p) m (marks p l)) (marks p l)

  pub marks_zero : (l : List ℕ) → marks 0 l ≡ l
  unfolding marks
  marks_zero l = refl

  -- a turn of the loop
  pub marks_step : (p : ℕ) (l : List ℕ) → marks (p + 1) l ≡ mark p (marks p l)
  unfolding marks
  marks_step p l = ap (λ (k : ℕ). marks k l) (add-one p)

  mark_length : (p : ℕ) (l : List ℕ) → length (mark p l) ≡ length l
  mark_length p l = go (on p)
    where
      go : (b : Bool) → length (cond b (stored (row p) (at p) m l) l) ≡ length l
      go true = stored_length (row p) (at p) l m
      go false = refl

  pub marks_length : (k : ℕ) (l : List ℕ) → length (marks k l) ≡ length l
  unfolding marks
  marks_length zero l = refl
  marks_length (suc k) l = mark_length k (marks k l) ∙ marks_length k l

  -- word a lies apart from row p
  abbrev pub Apart : ℕ → ℕ → Type 0
  Apart a p = (a < at p) ⊎ (at p + m ≤ a)

  mark_other : (p a : ℕ) (l : List ℕ) → (on p ≡ true → Apart a p) → get_or (mark p l) a 0 ≡ get_or l a 0
  mark_other p a l h = go (on p) h
    where
      go : (b : Bool) → (b ≡ true → Apart a p) → get_or (cond b (stored (row p) (at p) m l) l) a 0 ≡ get_or l a 0
      go true h = stored_other (row p) (at p) l m a (h refl)
      go false h = refl

  -- what stays
  pub marks_other : (k a : ℕ) (l : List ℕ) → ((p : ℕ) → p < k → on p ≡ true → Apart a p) → get_or (marks k l) a 0 ≡ get_or l a 0
  unfolding marks
  marks_other zero a l h = refl
  marks_other (suc k) a l h = mark_other k a (marks k l) (h k (omega arith)) ∙ marks_other k a l (λ p b. h p (omega arith))

  mark_own : (p v : ℕ) (l : List ℕ) → on p ≡ true → v < m → at p + m ≤ length l → get_or (mark p l) (at p + v) 0 ≡ get_or (row p) v 0
  mark_own p v l o h r = go (on p) o
    where
      go : (b : Bool) → b ≡ true → get_or (cond b (stored (row p) (at p) m l) l) (at p + v) 0 ≡ get_or (row p) v 0
      go b e = ap (λ (b : Bool). get_or (cond b (stored (row p) (at p) m l) l) (at p + v) 0) e ∙ stored_at (row p) (at p) l m v h r

  -- what stands there
  pub marks_at : (k p v : ℕ) (l : List ℕ) → p < k → on p ≡ true → v < m → at p + m ≤ length l
      → ((r : ℕ) → p < r → r < k → on r ≡ true → Apart (at p + v) r) → get_or (marks k l) (at p + v) 0 ≡ get_or (row p) v 0
  unfolding marks
  marks_at zero p v l h o b r s = absurd (omega arith)
  marks_at (suc k) p v l h o b r s = go (eq-or-lt_of_le (le_of_suc-le-suc h)) (λ i. marks_at k p v l i o b r (λ j x y. s j x (omega arith)))
    where
      go : (p ≡ k) ⊎ (p < k) → (p < k → get_or (marks k l) (at p + v) 0 ≡ get_or (row p) v 0)
          → get_or (mark k (marks k l)) (at p + v) 0 ≡ get_or (row p) v 0
      go (inl e) ih =
          subst (λ (i : ℕ). get_or (mark i (marks k l)) (at p + v) 0 ≡ get_or (row p) v 0) e
          (mark_own p v (marks k l) o b (subst (λ (c : ℕ). at p + m ≤ c) (sym (marks_length k l)) r))
      go (inr i) ih = mark_other k (at p + v) (marks k l) (s k i (omega arith)) ∙ ih i
