-- Sums over lists: of their first members, joined, mapped, and over numbers in a row. Assumes nothing.
use Rattle.std.specs.Prelude.{◌≡◌, ◌⊎◌, length, get_or, take}
use Rattle.std.proofs.Math.Path.{refl, sym, ap, ap₂}
use Rattle.std.proofs.Common.{◌∙◌, inl, inr, eq-or-lt_of_le}
use mathlib.Core.List.Memᴰ.{head as here}
use mathlib.Core.List.Memᴰ.{tail as there}
use mathlib.Core.List.{List, [], ◌∷◌, ◌++◌, map, Memᴰ as In}
use Prim.Native.Nat.{ℕ, zero, suc, ◌+◌, ◌*◌, ◌≤◌, ◌<◌}
use Rattle.std.proofs.Math.Nat.{le_refl}
use native.Mathlib.Omega.{arith}
use Rattle.std.proofs.lemmas.List.{take-append-le}
use Rattle.std.proofs.Math.Seq.{take-append-add}
use Rattle.meaning.specs.Lists.{total, numbers, numbers_from}
use Rattle.lists.specs.Members.{numbers_length}

module _ {X : Type 0} (f : X → ℕ) where
  -- no member summed, and one more
  pub total_none : (l : List X) → total f (take 0 l) ≡ 0
  unfolding total
  total_none [] = refl
  total_none (x ∷ l) = refl

  pub total_next : (l : List X) (i : ℕ) (d : X) → i < length l → total f (take (suc i) l) ≡ total f (take i l) + f (get_or l i d)
  unfolding total
  total_next [] i d h = absurd (omega arith)
  total_next (x ∷ l) zero d h = omega arith
  total_next (x ∷ l) (suc i) d h = omega (arith, total_next l i d (omega arith))

  -- all members have one number
  pub total_same : (w : ℕ) → ((x : X) → f x ≡ w) → (l : List X) → total f l ≡ length l * w
  unfolding total
  total_same w g [] = omega arith
  total_same w g (x ∷ l) = ap₂ ◌+◌ (g x) (total_same w g l) ∙ one (length l)
    where
      one : (c : ℕ) → w + c * w ≡ suc c * w
      one c = omega arith

  -- a member's part is no more than the sum, and stands in it after the parts before
  pub total_member : {x : X} {l : List X} → In x l → f x ≤ total f l
  unfolding total
  total_member {x} (here {x = y} {xs = l} e) = omega (arith, ap f e)
  total_member {x} (there {x = y} {xs = l} i) = omega (arith, total_member i)

  pub part_ends : (d : X) (l : List X) (i : ℕ) → i < length l → total f (take i l) + f (get_or l i d) ≤ total f l
  unfolding total
  part_ends d [] i h = absurd (omega arith)
  part_ends d (x ∷ l) zero h = omega arith
  part_ends d (x ∷ l) (suc i) h = omega (arith, part_ends d l i (omega arith))

  -- a place in member k's part is a place in the whole
  pub total_below : (l : List X) (k j : ℕ) (d : X) → k < length l → j < f (get_or l k d) → total f (take k l) + j < total f l
  total_below l k j d h m = omega (arith, part_ends d l k h)

  -- two lists joined, and a first part of them
  pub total_append : (l l' : List X) → total f (l ++ l') ≡ total f l + total f l'
  unfolding total
  total_append [] l' = omega arith
  total_append (x ∷ l) l' = omega (arith, total_append l l')

  pub total_first : (l l' : List X) (j : ℕ) → j ≤ length l → total f (take j (l ++ l')) ≡ total f (take j l)
  total_first l l' j h = ap (total f) (take-append-le j l l' h)

  pub total_second : (l l' : List X) (j : ℕ) → total f (take (length l + j) (l ++ l')) ≡ total f l + total f (take j l')
  total_second l l' j = ap (total f) (take-append-add l l' j) ∙ total_append l (take j l')

module _ {X : Type 0} (f g : X → ℕ) where
  -- equal everywhere, and on the first members
  pub total_ext : ((x : X) → f x ≡ g x) → (l : List X) → total f l ≡ total g l
  unfolding total
  total_ext same [] = refl
  total_ext same (x ∷ l) = ap₂ ◌+◌ (same x) (total_ext same l)

  pub total_like : (l : List X) (k : ℕ) (d : X) → k ≤ length l → ((i : ℕ) → i < k → f (get_or l i d) ≡ g (get_or l i d))
      → total f (take k l) ≡ total g (take k l)
  unfolding total
  total_like l zero d h e = total_none f l ∙ sym (total_none g l)
  total_like [] (suc k) d h e = refl
  total_like (x ∷ l) (suc k) d h e = ap₂ ◌+◌ (e 0 (omega arith)) (total_like l k d (omega arith) (λ i m. e (suc i) (omega arith)))

module _ {X Y : Type 0} (f : Y → ℕ) (g : X → Y) where
  pub total_map : (l : List X) → total f (map g l) ≡ total (λ x. f (g x)) l
  unfolding total
  total_map [] = refl
  total_map (x ∷ l) = ap (λ (c : ℕ). f (g x) + c) (total_map l)

  pub total_map_first : (l : List X) (j : ℕ) → total f (take j (map g l)) ≡ total (λ x. f (g x)) (take j l)
  unfolding total
  total_map_first l zero = total_none f (map g l) ∙ sym (total_none (λ x. f (g x)) l)
  total_map_first [] (suc j) = refl
  total_map_first (x ∷ l) (suc j) = ap (λ (c : ℕ). f (g x) + c) (total_map_first l j)

-- so many times one number
pub total_times : {X : Type 0} (a : ℕ) (l : List X) (j : ℕ) → j ≤ length l → total (λ x. a) (take j l) ≡ j * a
unfolding total
total_times a l zero h = total_none (λ x. a) l ∙ zero_times a
  where
    zero_times : (a : ℕ) → 0 ≡ 0 * a
    zero_times a = omega arith
total_times a [] (suc j) h = absurd (omega arith)
total_times a (x ∷ l) (suc j) h = omega (arith, total_times a l j (omega arith))

-- ---- over the numbers from i on, n of them

module _ (f g : ℕ → ℕ) where
  pub sum_same : (i n : ℕ) → ((j : ℕ) → i ≤ j → j < i + n → f j ≡ g j) → total f (numbers_from i n) ≡ total g (numbers_from i n)
  unfolding total numbers_from
  sum_same i zero h = refl
  sum_same i (suc n) h = ap₂ ◌+◌ (h i (le_refl i) (omega arith)) (sum_same (suc i) n (λ j a b. h j (omega arith) (omega arith)))

  pub sum_le : (i n : ℕ) → ((j : ℕ) → i ≤ j → j < i + n → f j ≤ g j) → total f (numbers_from i n) ≤ total g (numbers_from i n)
  unfolding total numbers_from
  sum_le i zero h = le_refl 0
  sum_le i (suc n) h = omega (arith, h i (le_refl i) (omega arith), sum_le (suc i) n (λ j a b. h j (omega arith) (omega arith)))

  -- one of them one more
  pub sum_one : (i n j : ℕ) → i ≤ j → j < i + n → g j ≡ suc (f j) → ((k : ℕ) → (j ≡ k → ⊥) → g k ≡ f k)
      → total g (numbers_from i n) ≡ suc (total f (numbers_from i n))
  unfolding total numbers_from
  sum_one i zero j a b e r = absurd (omega arith)
  sum_one i (suc n) j a b e r = go (eq-or-lt_of_le a) (λ l. sum_one (suc i) n j l (omega arith) e r)
    where
      go : (i ≡ j) ⊎ (i < j) → (suc i ≤ j → total g (numbers_from (suc i) n) ≡ suc (total f (numbers_from (suc i) n)))
          → g i + total g (numbers_from (suc i) n) ≡ suc (f i + total f (numbers_from (suc i) n))
      go (inr l) ih = omega (arith, ih l, r i (λ e. omega arith))
      go (inl z) ih = omega (arith, e, ap f z, ap g z, sum_rest (suc i) n (λ k u. r k (λ d. omega arith)))
        where
          sum_rest : (i n : ℕ) → ((k : ℕ) → i ≤ k → g k ≡ f k) → total g (numbers_from i n) ≡ total f (numbers_from i n)
          sum_rest i zero h = refl
          sum_rest i (suc n) h = ap₂ ◌+◌ (h i (le_refl i)) (sum_rest (suc i) n (λ k u. h k (omega arith)))

  -- equal sums of numbers one below the other: all are equal
  pub sum_tight : (i n : ℕ) → ((j : ℕ) → i ≤ j → j < i + n → f j ≤ g j) → total f (numbers_from i n) ≡ total g (numbers_from i n)
      → (j : ℕ) → i ≤ j → j < i + n → f j ≡ g j
  unfolding total numbers_from
  sum_tight i zero h e j a b = absurd (omega arith)
  sum_tight i (suc n) h e j a b =
      let le = sum_le (suc i) n (λ j a b. h j (omega arith) (omega arith)) in
      let here = h i (le_refl i) (omega arith) in
      go (eq-or-lt_of_le a) (omega arith)
      (λ l. sum_tight (suc i) n (λ j a b. h j (omega arith) (omega arith)) (omega arith) j l (omega arith))
    where
      go : (i ≡ j) ⊎ (i < j) → f i ≡ g i → (suc i ≤ j → f j ≡ g j) → f j ≡ g j
      go (inr l) d ih = ih l
      go (inl z) d ih = ap f (sym z) ∙ d ∙ ap g z

pub sum_const : (a i n : ℕ) → total (λ j. a) (numbers_from i n) ≡ n * a
sum_const a i n = total_same (λ j. a) a (λ j. refl) (numbers_from i n) ∙ ap (λ (c : ℕ). c * a) (numbers_length i n)

sum_shift : (f : ℕ → ℕ) (i n : ℕ) → total f (numbers_from (suc i) n) ≡ total (λ j. f (suc j)) (numbers_from i n)
unfolding total numbers_from
sum_shift f i zero = refl
sum_shift f i (suc n) = ap (λ (m : ℕ). f (suc i) + m) (sum_shift f (suc i) n)

-- by numbers or by members
pub total_numbers : {X : Type 0} (f : X → ℕ) (d : X) (l : List X) → total (λ i. f (get_or l i d)) (numbers (length l)) ≡ total f l
unfolding total numbers_from
total_numbers f d [] = refl
total_numbers f d (x ∷ l) = ap (λ (t : ℕ). f x + t) (sum_shift (λ i. f (get_or (x ∷ l) i d)) 0 (length l) ∙ total_numbers f d l)
