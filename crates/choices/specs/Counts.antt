-- How many answers are a: as vectors that get it, one answer more, and all together. Assumes nothing.
use Rattle.std.specs.Prelude.{◌≡◌, refl, Bool, true, false, cond, ℕ, suc, ◌+◌, ◌*◌, ◌<◌, eqb, length}
use Rattle.std.proofs.Common.{◌∙◌, ap, zero-add, arith, eq-eqb, ne_eqb}
use mathlib.Core.List.Memᴰ.{head as here}
use mathlib.Core.List.Memᴰ.{tail as there}
use mathlib.Core.List.{List, [], ◌∷◌, ◌++◌, map, Memᴰ as In}
use Rattle.meaning.specs.Lists.{filter, total, numbers}
use Rattle.meaning.specs.StepVectors.{how_many}
use Rattle.lists.specs.Sums.{sum_one, sum_const}

abbrev is_one : ℕ → ℕ → ℕ
is_one x a = cond (eqb x a) 1 0

many_cons : (a x : ℕ) (l : List ℕ) → how_many a (x ∷ l) ≡ is_one x a + how_many a l
unfolding filter
many_cons a x l = go (eqb x a)
  where
    go : (b : Bool) → length (cond b (x ∷ filter (λ y. eqb y a) l) (filter (λ y. eqb y a) l)) ≡ cond b 1 0 + how_many a l
    go true = omega arith
    go false = omega arith

many_other : (a x : ℕ) (l : List ℕ) → (x ≡ a → ⊥) → how_many a (x ∷ l) ≡ how_many a l
many_other a x l n = many_cons a x l ∙ ap (λ (b : Bool). cond b 1 0 + how_many a l) (ne_eqb x a n) ∙ zero-add (how_many a l)

-- one answer more, behind the others
pub many_next : (a x : ℕ) (l : List ℕ) → how_many a (l ++ (x ∷ [])) ≡ how_many a l + is_one x a
unfolding filter
many_next a x [] = many_cons a x [] ∙ omega arith
many_next a x (y ∷ l) =
    let h = many_cons a y (l ++ (x ∷ [])) in
    let k = many_next a x l in let m = many_cons a y l in h ∙ omega arith

-- none, if none of them is a
pub many_none : (a : ℕ) (l : List ℕ) → ((x : ℕ) → In x l → x ≡ a → ⊥) → how_many a l ≡ 0
unfolding filter
many_none a [] h = refl
many_none a (x ∷ l) h =
    many_other a x l (h x (here refl)) ∙ many_none a l (λ y i. h y (there i))

-- as vectors that get it
pub many_mapped : {A : Type 0} (a : ℕ) (f : A → ℕ) (l : List A) → how_many a (map f l) ≡ length (filter (λ v. eqb (f v) a) l)
unfolding filter
many_mapped a f [] = refl
many_mapped {A} a f (v ∷ l) = go (eqb (f v) a) (many_mapped a f l)
  where
    go : (b : Bool) → how_many a (map f l) ≡ length (filter (λ v. eqb (f v) a) l)
        → length (cond b (f v ∷ filter (λ y. eqb y a) (map f l)) (filter (λ y. eqb y a) (map f l)))
        ≡ length (cond b (v ∷ filter (λ v. eqb (f v) a) l) (filter (λ v. eqb (f v) a) l))
    go true e = ap suc e
    go false e = e

-- all together, if none is m or more
pub together : (m : ℕ) (l : List ℕ) → ((x : ℕ) → In x l → x < m) → total (λ a. how_many a l) (numbers m) ≡ length l
unfolding filter
together m [] h = sum_const 0 0 m ∙ none m
  where
    none : (m : ℕ) → m * 0 ≡ 0
    none m = omega arith
together m (x ∷ l) h =
    sum_one (λ a. how_many a l) (λ a. how_many a (x ∷ l)) 0 m x (omega arith) (omega (arith, h x (here refl)))
    (many_cons x x l ∙ ap (λ (b : Bool). cond b 1 0 + how_many x l) (eq-eqb x x refl) ∙ one (how_many x l))
    (λ a n. many_other a x l n)
    ∙ ap suc (together m l (λ y i. h y (there i)))
  where
    one : (n : ℕ) → 1 + n ≡ suc n
    one n = omega arith
