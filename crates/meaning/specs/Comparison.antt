-- Cases as a table: what the definitions give beside what is wanted, compared by one test that the checker computes.
use Rattle.std.specs.Prelude.{◌≡◌, refl, Bool, true, false, cond, List, [], ◌∷◌, ◌++◌, map, ℕ, suc, ◌+◌, T, length, ℤ, pos}
use Rattle.std.proofs.Common.{ap₂, arith}
use Rattle.integers.specs.Words.{eq_z, eq_z→eq}
use Rattle.integers.specs.declared.V3.{V3}
use Rattle.meaning.specs.declared.Row.{Row}

-- what the definitions give, and what document 01 says
pub record Case : Type 0 where
  pub got : List ℤ
  pub wanted : List ℤ

infix 20 ◌is◌
abbrev pub ◌is◌ : List ℤ → List ℤ → Case
g is w = record { got = g; wanted = w }

-- numbers, vectors and rows as lists
abbrev pub naturals : List ℕ → List ℤ
naturals l = map pos l

abbrev pub number : ℕ → List ℤ
number n = pos n ∷ []

abbrev pub planar : V3 → List ℤ
planar v = v.x ∷ v.y ∷ []

abbrev pub spatial : V3 → List ℤ
spatial v = v.x ∷ v.y ∷ v.z ∷ []

-- point, count, first, last, soak, drain
abbrev pub row_words : Row → List ℤ
row_words r =
    r.point.a ∷ r.point.b ∷ pos r.count ∷ (spatial r.first ++ (spatial r.last ++ (naturals r.soak ++ naturals r.drain)))

-- ---- the test, and what it says

unfoldable pub eq_list : List ℤ → List ℤ → Bool
eq_list [] [] = true
eq_list [] (y ∷ m) = false
eq_list (x ∷ l) [] = false
eq_list (x ∷ l) (y ∷ m) = cond (eq_z x y) (eq_list l m) false

same_list : (l m : List ℤ) → T (eq_list l m) → l ≡ m
unfolding eq_list
same_list [] [] t = refl
same_list [] (y ∷ m) t = absurd t
same_list (x ∷ l) [] t = absurd t
same_list (x ∷ l) (y ∷ m) t = go (eq_z x y) refl t (same_list l m)
  where
    go : (b : Bool) → eq_z x y ≡ b → T (cond b (eq_list l m) false) → (T (eq_list l m) → l ≡ m) → x ∷ l ≡ y ∷ m
    go true e t f = ap₂ ◌∷◌ (eq_z→eq x y e) (f t)
    go false e t f = absurd t

-- the index of the first wrong case from i on, past the last if none is wrong; those behind it are not computed
unfoldable pub first_wrong : ℕ → List Case → ℕ
first_wrong i [] = i
first_wrong i (c ∷ cs) = elim (eq_list c.got c.wanted) [ true ↦ first_wrong (suc i) cs | false ↦ i ]

agree_from : (i : ℕ) (cs : List Case) → first_wrong i cs ≡ i + length cs → map (λ c. c.got) cs ≡ map (λ c. c.wanted) cs
unfolding first_wrong
agree_from i [] e = refl
agree_from i (c ∷ cs) e = go (eq_list c.got c.wanted) (same_list c.got c.wanted) e (agree_from (suc i) cs)
  where
    go : (b : Bool) → (T b → c.got ≡ c.wanted) → elim b [ true ↦ first_wrong (suc i) cs | false ↦ i ] ≡ i + suc (length cs)
        → (first_wrong (suc i) cs ≡ suc i + length cs → map (λ c. c.got) cs ≡ map (λ c. c.wanted) cs)
        → c.got ∷ map (λ c. c.got) cs ≡ c.wanted ∷ map (λ c. c.wanted) cs
    go true f e g = ap₂ ◌∷◌ (f tt) (g (omega arith))
    go false f e g = absurd (omega arith)

-- no case is wrong: `suc` has both numbers computed, so that a refusal shows the number of the first wrong case
pub agree : (cs : List Case) → suc (first_wrong 0 cs) ≡ suc (length cs) → map (λ c. c.got) cs ≡ map (λ c. c.wanted) cs
agree cs e = agree_from 0 cs (omega arith)
