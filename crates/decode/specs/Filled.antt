-- A list of k members, the first n made by a function and the others all one value: as document 01's definitions have it, and as a loop
-- that stores leaves it. Assumes nothing.
use Rattle.std.specs.Prelude.{◌≡◌, refl, Bool, true, false, List, map, ◌++◌, ℕ, zero, suc, ◌-◌, ◌≤◌, ◌<◌, ltb, get_or, drop, replicate}
use Rattle.std.proofs.Common.{sym, ◌∙◌, ap, subst, arith, ltb-true, ltb-false}
use Rattle.std.proofs.lemmas.List.{length-replicate, get_or-replicate}
use Rattle.std.proofs.Math.ListN.{get_or-eq_default}
use Rattle.integers.specs.Fill.{fill_by, fill_past}
use Rattle.integers.proofs.Fill.{fill_at_lem}
use Rattle.meaning.specs.Lists.{numbers}
use Rattle.lists.specs.Fills.{fill_front}

module _ {A : Type 0} (f : ℕ → A) where
  abbrev pub filled : ℕ → ℕ → A → List A
  filled n k d = map f (numbers n) ++ replicate (k - n) d

  -- the loop that stores leaves it
  pub fill_is : (n k : ℕ) (d : A) → n ≤ k → fill_by f n (replicate k d) ≡ filled n k d
  fill_is n k d h =
      fill_front f n (replicate k d) (omega (arith, length-replicate k d)) ∙ ap (λ (l : List A). map f (numbers n) ++ l) (rest n k d)
    where
      rest : (n k : ℕ) (d : A) → drop n (replicate k d) ≡ replicate (k - n) d
      rest zero k d = let e : k ≡ k - 0 = omega arith in ap (λ (j : ℕ). replicate j d) e
      rest (suc n) zero d = let e : 0 ≡ 0 - suc n = omega arith in ap (λ (j : ℕ). replicate j d) e
      rest (suc n) (suc k) d = let e : k - n ≡ suc k - suc n = omega arith in rest n k d ∙ ap (λ (j : ℕ). replicate j d) e

  -- what holds of the one value and of all that are made holds of every member
  pub filled_each : (P : A → Type 0) (n k : ℕ) (d : A) → n ≤ k → P d → ((i : ℕ) → i < n → P (f i)) → (i : ℕ) → P (get_or (filled n k d) i d)
  filled_each P n k d h base step i =
      subst (λ (l : List A). P (get_or l i d)) (fill_is n k d h) (go (ltb i n) refl)
    where
      others : (b : Bool) → ltb i k ≡ b → get_or (replicate k d) i d ≡ d
      others true e = get_or-replicate k i d d (ltb-true i k e)
      others false e = get_or-eq_default (replicate k d) d (omega (arith, length-replicate k d, ltb-false i k e))

      go : (b : Bool) → ltb i n ≡ b → P (get_or (fill_by f n (replicate k d)) i d)
      go true e =
          subst P (sym (fill_at_lem f n i (replicate k d) d (ltb-true i n e) (omega (arith, length-replicate k d))))
          (step i (ltb-true i n e))
      go false e = subst P (sym (fill_past f n i (replicate k d) d (ltb-false i n e) ∙ others (ltb i k) refl)) base
