-- A list whose first places are stored by a loop: those values in a row, then what stood behind them; what is known of each place.
-- Assumes nothing.
use Rattle.std.specs.Prelude.{◌≡◌, length, get_or, replicate}
use Rattle.std.proofs.Math.Path.{refl, sym, ap}
use Rattle.std.proofs.Common.{◌∙◌, subst, drop-cons, ext_get_or, get_or-set_same, get_or-set_other}
use mathlib.Core.List.{List, [], ◌∷◌, ◌++◌, map}
use Prim.Native.Nat.{ℕ, zero, suc, ◌+◌, ◌≤◌, ◌<◌}
use Rattle.std.proofs.Math.Decide.{ℕ_discrete}
use native.Mathlib.Omega.{arith}
use Rattle.std.proofs.Math.ListN.{set, drop}
use Rattle.std.proofs.lemmas.List.{length-map}
use Rattle.std.proofs.Math.Seq.{set_at, append_snoc}
use Rattle.integers.specs.Fill.{fill_by}
use Rattle.meaning.specs.Lists.{numbers, numbers_from}
use Rattle.lists.specs.Members.{map_at}
use Rattle.lists.specs.Rows.{length_numbers, get_d_first}

module _ {X : Type 0} (f : ℕ → X) where
  -- one number more
  numbers_more : (i n : ℕ) → map f (numbers_from i (suc n)) ≡ map f (numbers_from i n) ++ (f (i + n) ∷ [])
  unfolding numbers_from
  numbers_more i zero = let e : i ≡ i + 0 = omega arith in ap (λ (j : ℕ). f j ∷ []) e
  numbers_more i (suc n) =
      let e : suc i + n ≡ i + suc n = omega arith in
      ap (λ (l : List X). f i ∷ l) (numbers_more (suc i) n ∙ ap (λ (j : ℕ). map f (numbers_from (suc i) n) ++ (f j ∷ [])) e)

  pub fill_front : (n : ℕ) (xs : List X) → n ≤ length xs → fill_by f n xs ≡ map f (numbers n) ++ drop n xs
  unfolding fill_by numbers_from
  fill_front zero xs h = refl
  fill_front (suc n) xs h =
      let e : 0 + n ≡ n = omega arith in
      let rest = drop (suc n) xs in
      ap (λ (l : List X). set l n (f n))
      (fill_front n xs (omega arith) ∙ ap (λ (l : List X). map f (numbers n) ++ l) (drop-cons xs n (f n) (omega arith)))
      ∙ set_at (map f (numbers n)) _ rest (f n) n (length_numbers f 0 n)
      ∙ sym (append_snoc (map f (numbers n)) (f n) rest)
      ∙ ap (λ (l : List X). l ++ rest) (sym (numbers_more 0 n ∙ ap (λ (j : ℕ). map f (numbers n) ++ (f j ∷ [])) e))

-- ---- by the members of a list, and by one value

-- the members of a list by their numbers
by_number : {A B : Type 0} (f : A → B) (xs : List A) (d : A) (e : B) → map (λ k. f (get_or xs k d)) (numbers (length xs)) ≡ map f xs
by_number f xs d e =
    let g : ℕ → _ = λ k. f (get_or xs k d) in
    ext_get_or e _ _ (length_numbers g 0 (length xs) ∙ sym (length-map xs f))
    λ i h. let l : i < length xs = omega (arith, length_numbers g 0 (length xs)) in
    get_d_first g e (length xs) i l ∙ sym (map_at f xs i d e l)

pub fill_list : {A B : Type 0} (f : A → B) (xs : List A) (d : A) (e : B) (out : List B) → length xs ≤ length out
    → fill_by (λ k. f (get_or xs k d)) (length xs) out ≡ map f xs ++ drop (length xs) out
fill_list {B} f xs d e out h =
    fill_front (λ k. f (get_or xs k d)) (length xs) out h ∙ ap (λ (l : List B). l ++ drop (length xs) out) (by_number f xs d e)

one_value : {A : Type 0} (d : A) (i n : ℕ) → map (λ k. d) (numbers_from i n) ≡ replicate n d
unfolding numbers_from
one_value d i zero = refl
one_value {A} d i (suc n) = ap (λ (l : List A). d ∷ l) (one_value d (suc i) n)

pub fill_one : {A : Type 0} (d : A) (n : ℕ) (xs : List A) → n ≤ length xs → fill_by (λ k. d) n xs ≡ replicate n d ++ drop n xs
fill_one {A} d n xs h = fill_front (λ k. d) n xs h ∙ ap (λ (l : List A). l ++ drop n xs) (one_value d 0 n)

-- ---- by what is known of each place

-- what is known of the first i places, with a member stored behind them
pub known_next : {A : Type 0} (P : ℕ → A → Type 0) (d : A) {i : ℕ} (xs : List A) {x : A} → i < length xs
    → ((k : ℕ) → k < i → P k (get_or xs k d)) → P i x → (k : ℕ) → k < i + 1 → P k (get_or (set xs i x) k d)
known_next P d {i} xs {x} l h e k m = go (ℕ_discrete k i)
  where
    go : Dec (k ≡ i) → P k (get_or (set xs i x) k d)
    go (yes z) = subst (λ (j : ℕ). P j (get_or (set xs i x) j d)) (sym z) (subst (P i) (sym (get_or-set_same xs i x d l)) e)
    go (no z) = subst (P k) (sym (get_or-set_other xs i k x d z)) (h k (omega arith))
