-- The first number that passes a test with a bound besides. Assumes nothing.
use Rattle.std.specs.Prelude.{◌≡◌, refl, Bool, true, false, ◌&&◌, ℕ, ◌≤◌, ◌<◌, ltb}
use Rattle.std.proofs.Common.{sym, ◌∙◌, true≢false, arith, lt-ltb, ltb-true, ltb-false}
use Rattle.meaning.specs.Lists.{position, numbers}
use Rattle.ready_set.specs.Firsts.{position_hit, position_before, position_is}

-- a test with the bound m besides, over n numbers; where both tests agree below m, the first is the same, or there is none
module _ (f g : ℕ → Bool) (m n : ℕ) (l : m ≤ n) (same : (j : ℕ) → j < m → f j ≡ g j) where
  pub bounded_some : position (λ j. ltb j m && f j) (numbers n) < n
      → (position (λ j. ltb j m && f j) (numbers n) < m) × (position g (numbers m) ≡ position (λ j. ltb j m && f j) (numbers n))
  bounded_some h = (b, position_is g m p b (sym (same p b) ∙ t.1) (λ j k. sym (same j (omega (arith, b))) ∙ miss j k))
    where
      p : ℕ
      p = position (λ j. ltb j m && f j) (numbers n)

      two : (a c : Bool) → (a && c) ≡ true → (a ≡ true) × (c ≡ true)
      two true c e = (refl, e)
      two false c e = absurd (true≢false (sym e))

      t : (ltb p m ≡ true) × (f p ≡ true)
      t = two (ltb p m) (f p) (position_hit (λ j. ltb j m && f j) n h)

      b : p < m
      b = ltb-true p m t.0

      miss : (j : ℕ) → j < p → f j ≡ false
      miss j k = let e : ltb j m ≡ true = lt-ltb j m (omega (arith, b)) in rw e at (position_before (λ j. ltb j m && f j) n j k)

  pub bounded_none : n ≤ position (λ j. ltb j m && f j) (numbers n) → m ≤ position g (numbers m)
  bounded_none h = go (ltb (position g (numbers m)) m) refl
    where
      q : ℕ
      q = position g (numbers m)

      go : (b : Bool) → ltb q m ≡ b → m ≤ q
      go false e = ltb-false q m e
      go true e =
          let k = ltb-true q m e in
          let x : (ltb q m && f q) ≡ false = position_before (λ j. ltb j m && f j) n q (omega arith) in
          let y : f q ≡ false = rw e at x in
          absurd (true≢false (sym (position_hit g m k) ∙ sym (same q k) ∙ y))
