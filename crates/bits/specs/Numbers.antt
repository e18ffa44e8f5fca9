-- Tests of consecutive numbers, as the list of their outcomes: how many pass, which is the first, and what one changed outcome does.
-- Assumes nothing.
use Rattle.std.specs.Prelude.{◌≡◌, Bool, ◌&&◌, ltb, replicate}
use Rattle.std.proofs.Math.Path.{refl, sym, ap}
use Rattle.std.proofs.Common.{◌∙◌, zero-add, suc-add, add-zero, lt-ltb, le-ltb}
use Rattle.std.proofs.Math.Bool.{true, false, cond}
use mathlib.Core.List.{List, [], ◌∷◌, ◌++◌, map}
use Prim.Native.Nat.{ℕ, zero, suc, ◌+◌, ◌≤◌, ◌<◌}
use native.Mathlib.Omega.{arith}
use Rattle.std.proofs.Math.ListN.{length, set}
use Rattle.meaning.specs.Lists.{filter, position, numbers_from, numbers}
use Rattle.lists.specs.Rows.{numbers_add, same_numbers}

-- an outcome passes if it is true
abbrev pub passes : Bool → Bool
passes b = b

-- how many outcomes are true, and the place of the first, the length if there is none
abbrev pub how_many : List Bool → ℕ
how_many l = length (filter passes l)

abbrev pub first_true : List Bool → ℕ
first_true l = position passes l

-- members that pass a test are counted and found by the outcomes
module _ {A : Type 0} (f : A → Bool) where
  pub count_map : (l : List A) → length (filter f l) ≡ how_many (map f l)
  unfolding filter
  count_map [] = refl
  count_map (x ∷ l) = go (f x) (count_map l)
    where
      go : (b : Bool) → length (filter f l) ≡ how_many (map f l)
          → length (cond b (x ∷ filter f l) (filter f l)) ≡ length (cond b (b ∷ filter passes (map f l)) (filter passes (map f l)))
      go true e = ap suc e
      go false e = e

  pub position_map : (l : List A) → position f l ≡ first_true (map f l)
  unfolding position
  position_map [] = refl
  position_map (x ∷ l) = ap (λ (n : ℕ). cond (f x) 0 (suc n)) (position_map l)

-- ---- consecutive numbers

module _ {B : Type 0} where
  -- functions that differ at the number i + j alone
  pub numbers_set : (f g : ℕ → B) (i n j : ℕ) → j < n → ((x : ℕ) → (x ≡ i + j → ⊥) → g x ≡ f x)
      → set (map f (numbers_from i n)) j (g (i + j)) ≡ map g (numbers_from i n)
  unfolding numbers_from
  numbers_set f g i zero j h e = absurd (omega arith)
  numbers_set f g i (suc n) zero h e =
      ap (λ (k : ℕ). g k ∷ map f (numbers_from (suc i) n)) (add-zero i)
      ∙ ap (λ (l : List B). g i ∷ l) (same_numbers f g (suc i) n (λ j l m. sym (e j (λ (d : j ≡ i + 0). omega arith))))
  numbers_set f g i (suc n) (suc j) h e =
      ap (λ (y : B). y ∷ set (map f (numbers_from (suc i) n)) j (g (i + suc j))) (sym (e i (λ (d : i ≡ i + suc j). omega arith)))
      ∙ ap (λ (l : List B). g i ∷ l) (ap (λ (k : ℕ). set (map f (numbers_from (suc i) n)) j (g k)) s
      ∙ numbers_set f g (suc i) n j (omega arith) (λ x d. e x (λ (q : x ≡ i + suc j). d (q ∙ s))))
    where
      s : i + suc j ≡ suc i + j
      s = omega arith

-- ---- tests that fail from a number on

-- f on the numbers below n
abbrev pub below : ℕ → (ℕ → Bool) → ℕ → Bool
below n f p = ltb p n && f p

pub below_true : (n : ℕ) (f : ℕ → Bool) (p : ℕ) → p < n → below n f p ≡ f p
below_true n f p h = ap (λ (b : Bool). b && f p) (lt-ltb p n h)

pub below_false : (n : ℕ) (f : ℕ → Bool) (p : ℕ) → n ≤ p → below n f p ≡ false
below_false n f p h = ap (λ (b : Bool). b && f p) (le-ltb p n h)

none_pass : (i n : ℕ) → map (λ (p : ℕ). false) (numbers_from i n) ≡ replicate n false
unfolding numbers_from
none_pass i zero = refl
none_pass i (suc n) = ap (λ (l : List Bool). false ∷ l) (none_pass (suc i) n)

pub below_outcomes : (f : ℕ → Bool) (n m : ℕ) → map (below n f) (numbers (n + m)) ≡ map f (numbers n) ++ replicate m false
below_outcomes f n m =
    numbers_add (below n f) 0 n m
    ∙ ap (λ (l : List Bool). l ++ map (below n f) (numbers_from (0 + n) m))
    (same_numbers (below n f) f 0 n (λ j l h. below_true n f j (omega arith)))
    ∙ ap (λ (l : List Bool). map f (numbers n) ++ l)
    (same_numbers (below n f) (λ p. false) (0 + n) m (λ j l h. below_false n f j (omega arith)) ∙ none_pass (0 + n) m)

-- ---- outcomes in two parts

pub many_append : (l r : List Bool) → how_many (l ++ r) ≡ how_many l + how_many r
unfolding filter
many_append [] r = sym (zero-add (how_many r))
many_append (true ∷ l) r = ap suc (many_append l r) ∙ sym (suc-add (how_many l) (how_many r))
many_append (false ∷ l) r = many_append l r

pub many_false : (n : ℕ) → how_many (replicate n false) ≡ 0
unfolding filter
many_false zero = refl
many_false (suc n) = many_false n

pub first_le : (l : List Bool) → first_true l ≤ length l
unfolding position
first_le [] = omega arith
first_le (true ∷ l) = omega arith
first_le (false ∷ l) = omega (arith, first_le l)

pub first_in : (l r : List Bool) → first_true l < length l → first_true (l ++ r) ≡ first_true l
unfolding position
first_in [] r h = absurd (omega arith)
first_in (true ∷ l) r h = refl
first_in (false ∷ l) r h = ap suc (first_in l r (omega arith))

pub first_past : (l r : List Bool) → first_true l ≡ length l → first_true (l ++ r) ≡ length l + first_true r
unfolding position
first_past [] r h = sym (zero-add (first_true r))
first_past (true ∷ l) r h = absurd (omega arith)
first_past (false ∷ l) r h = ap suc (first_past l r (omega arith)) ∙ sym (suc-add (length l) (first_true r))

pub first_false : (n : ℕ) → first_true (replicate n false) ≡ n
unfolding position
first_false zero = refl
first_false (suc n) = ap suc (first_false n)
