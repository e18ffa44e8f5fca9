-- The range of a description's word, part by part in file order, for mathematics and for code. Assumes nothing.
use Rattle.std.specs.Prelude.{◌≡◌, refl, ◌⊎◌, true, false, ◌||◌, ℕ, ◌-◌, ◌%◌, ◌≤◌, ◌<◌, ℤ, pos, negsuc}
use Rattle.std.proofs.Common.{ap, inl, inr, arith, lt-ltb, le-ltb}
use Rattle.integers.specs.Words.{eq_z}
use Rattle.meaning.specs.declared.Range.{Range}
use Rattle.meaning.specs.declared.Sizes.{Sizes}
use Rattle.meaning.specs.Description.{direction_at, step_at, place_at, loading_at, line_words, line_at, ◌to◌, within, line_range, range_at}
use Rattle.meaning.specs.Description.{is_direction, in_range}

module _ (z : Sizes) (k : ℕ) where
  pub at_bounds : k < direction_at z → range_at z k ≡ (negsuc 63 to pos 64)
  at_bounds a = rw (lt-ltb _ _ a) refl

  pub at_steps : direction_at z ≤ k → k < place_at z → range_at z k ≡ (negsuc 7 to pos 8)
  at_steps a b = rw (le-ltb _ _ a, lt-ltb _ _ b) refl

  pub at_matrices : place_at z ≤ k → k < loading_at z 0 → range_at z k ≡ (negsuc 3 to pos 4)
  at_matrices b c = let a : direction_at z ≤ k = omega arith in rw (le-ltb _ _ a, le-ltb _ _ b, lt-ltb _ _ c) refl

  pub at_loading : loading_at z 0 ≤ k → k < line_at z 0 → range_at z k ≡ (negsuc 0 to pos 1)
  at_loading c d =
      let a : direction_at z ≤ k = omega arith in
      let b : place_at z ≤ k = omega arith in rw (le-ltb _ _ a, le-ltb _ _ b, le-ltb _ _ c, lt-ltb _ _ d) refl

  pub at_lines : line_at z 0 ≤ k → range_at z k ≡ line_range z ((k - line_at z 0) % line_words)
  at_lines d =
      let a : direction_at z ≤ k = omega arith in
      let b : place_at z ≤ k = omega arith in
      let c : loading_at z 0 ≤ k = omega arith in rw (le-ltb _ _ a, le-ltb _ _ b, le-ltb _ _ c, le-ltb _ _ d) refl

  -- directions stand between bounds and steps
  pub direction : direction_at z ≤ k → k < step_at z → is_direction z k ≡ true
  direction a b = rw (le-ltb _ _ a, lt-ltb _ _ b) refl

  pub no_direction : (k < direction_at z) ⊎ (step_at z ≤ k) → is_direction z k ≡ false
  no_direction (inl a) = rw (lt-ltb _ _ a) refl
  no_direction (inr b) = let a : direction_at z ≤ k = omega arith in rw (le-ltb _ _ a, le-ltb _ _ b) refl

  -- what a word in its range is
  pub in_directions : direction_at z ≤ k → k < step_at z → (w : ℤ) → in_range z k w ≡ (eq_z w (pos 1) || eq_z w (negsuc 0))
  in_directions a b w = rw (direction a b) refl

  pub in_others : (k < direction_at z) ⊎ (step_at z ≤ k) → {r : Range} → range_at z k ≡ r → (w : ℤ) → in_range z k w ≡ within r w
  in_others o e w = rw (no_direction o) (ap (λ (r : Range). within r w) e)
