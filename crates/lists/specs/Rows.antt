-- Numbers in a row: what a function makes of them, and whether all, some, or which first of them passes a test. Assumes nothing.
use Rattle.std.specs.Prelude.{◌≡◌, Bool, ◌⊎◌, length, get_or}
use Rattle.std.proofs.Math.Path.{refl, ap, ap₂}
use Rattle.std.proofs.Common.{sym, ◌∙◌, true≢false, inl, inr, le_refl, eq-or-lt_of_le, zero-add, suc-add, add-zero, arith}
use Rattle.std.proofs.Math.Bool.{true, false, cond}
use mathlib.Core.List.{List, ◌∷◌, ◌++◌, map}
use Prim.Native.Nat.{ℕ, zero, suc, ◌+◌, ◌≤◌, ◌<◌}
use Rattle.meaning.specs.Lists.{any, every, position, numbers, numbers_from}
use Rattle.lists.specs.Members.{numbers_length}
use Rattle.lists.specs.Tests.{position_most}

-- ---- a function of the numbers from i on, n of them

module _ {X : Type 0} where
  pub length_numbers : (f : ℕ → X) (i n : ℕ) → length (map f (numbers_from i n)) ≡ n
  unfolding numbers_from
  length_numbers f i zero = refl
  length_numbers f i (suc n) = ap suc (length_numbers f (suc i) n)

  pub get_d_numbers : (f : ℕ → X) (d : X) (i n j : ℕ) → j < n → get_or (map f (numbers_from i n)) j d ≡ f (i + j)
  unfolding numbers_from
  get_d_numbers f d i zero j h = absurd (omega arith)
  get_d_numbers f d i (suc n) zero h = ap f (sym (add-zero i))
  get_d_numbers f d i (suc n) (suc j) h = get_d_numbers f d (suc i) n j (omega arith) ∙ ap f (omega arith)

  pub get_d_first : (f : ℕ → X) (d : X) (n j : ℕ) → j < n → get_or (map f (numbers n)) j d ≡ f j
  get_d_first f d n j h = get_d_numbers f d 0 n j h ∙ ap f (zero-add j)

  pub numbers_add : (f : ℕ → X) (i m n : ℕ) → map f (numbers_from i (m + n)) ≡ map f (numbers_from i m) ++ map f (numbers_from (i + m) n)
  unfolding numbers_from
  numbers_add f i zero n = simp (zero-add, add-zero)
  numbers_add f i (suc m) n =
      ap (λ (k : ℕ). map f (numbers_from i k)) (suc-add m n)
      ∙ ap (λ (l : List X). f i ∷ l)
      (numbers_add f (suc i) m n ∙ ap (λ (k : ℕ). map f (numbers_from (suc i) m) ++ map f (numbers_from k n)) (omega arith))

  -- functions that agree on the numbers
  pub same_numbers : (f g : ℕ → X) (i n : ℕ) → ((j : ℕ) → i ≤ j → j < i + n → f j ≡ g j)
      → map f (numbers_from i n) ≡ map g (numbers_from i n)
  unfolding numbers_from
  same_numbers f g i zero h = refl
  same_numbers f g i (suc n) h =
      ap₂ ◌∷◌ (h i (le_refl i) (omega arith)) (same_numbers f g (suc i) n (λ j l m. h j (omega arith) (omega arith)))

-- ---- all numbers pass

module _ (f : ℕ → Bool) where
  pub every_numbers : (i n : ℕ) → every f (numbers_from i n) ≡ true → (j : ℕ) → i ≤ j → j < i + n → f j ≡ true
  unfolding every numbers_from
  every_numbers i zero h j l m = absurd (omega arith)
  every_numbers i (suc n) h j l m = go (f i) refl h (eq-or-lt_of_le l) (λ e. every_numbers (suc i) n e j)
    where
      go : (b : Bool) → f i ≡ b → cond b (every f (numbers_from (suc i) n)) false ≡ true → (i ≡ j) ⊎ (i < j)
          → (every f (numbers_from (suc i) n) ≡ true → suc i ≤ j → j < suc i + n → f j ≡ true) → f j ≡ true
      go true e h (inr o) ih = ih h o (omega arith)
      go true e h (inl z) ih = ap f (sym z) ∙ e
      go false e h o ih = absurd (true≢false (sym h))

  pub numbers_every : (i n : ℕ) → ((j : ℕ) → i ≤ j → j < i + n → f j ≡ true) → every f (numbers_from i n) ≡ true
  unfolding every numbers_from
  numbers_every i zero h = refl
  numbers_every i (suc n) h =
      rw (h i (le_refl i) (omega arith)) (numbers_every (suc i) n (λ j l m. h j (omega arith) (omega arith)))

  -- those below n
  pub every_number : (n : ℕ) → every f (numbers n) ≡ true → (j : ℕ) → j < n → f j ≡ true
  every_number n h j l = every_numbers 0 n h j (omega arith) (omega arith)

  pub all_numbers : (n : ℕ) → ((j : ℕ) → j < n → f j ≡ true) → every f (numbers n) ≡ true
  all_numbers n h = numbers_every 0 n (λ j l m. h j (omega arith))

-- ---- tests that agree on the numbers

module _ (f g : ℕ → Bool) where
  pub same_every : (i n : ℕ) → ((j : ℕ) → i ≤ j → j < i + n → f j ≡ g j) → every f (numbers_from i n) ≡ every g (numbers_from i n)
  unfolding every numbers_from
  same_every i zero h = refl
  same_every i (suc n) h =
      ap₂ (λ (a b : Bool). cond a b false) (h i (le_refl i) (omega arith)) (same_every (suc i) n (λ j l m. h j (omega arith) (omega arith)))

  pub same_any : (i n : ℕ) → ((j : ℕ) → i ≤ j → j < i + n → f j ≡ g j) → any f (numbers_from i n) ≡ any g (numbers_from i n)
  unfolding any numbers_from
  same_any i zero h = refl
  same_any i (suc n) h =
      ap₂ (λ (a b : Bool). cond a true b) (h i (le_refl i) (omega arith)) (same_any (suc i) n (λ j l m. h j (omega arith) (omega arith)))

-- ---- the first number that passes

pub position_le : (f : ℕ → Bool) (i n : ℕ) → position f (numbers_from i n) ≤ n
position_le f i n = omega (arith, position_most f (numbers_from i n), numbers_length i n)
