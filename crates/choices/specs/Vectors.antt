-- The vectors with entries from −k to k: which they are, each once, how many, and which stands at which place. Assumes nothing.
use Rattle.std.specs.Prelude.{◌≡◌, pos, neg_ℤ, ◌+ℤ◌, ◌-ℤ◌, ◌*ℤ◌}
use Rattle.std.proofs.Math.Path.{refl, ap, subst}
use Rattle.std.proofs.Common.{sym, ◌∙◌, mul_comm, arith}
use mathlib.Core.List.Memᴰ.{head as here}
use mathlib.Core.List.Memᴰ.{map as in_map}
use mathlib.Core.List.Memᴰ.{tail as there}
use mathlib.Core.List.{List, [], ◌∷◌, map, Memᴰ as In}
use Prim.Native.Nat.{ℕ, zero, suc, ◌+◌, ◌*◌, ◌^◌, ◌<◌}
use Rattle.std.proofs.Math.Numerals.{unary_clauses}
use Rattle.std.proofs.Math.ListN.{length, get_or, length-map}
use Rattle.std.proofs.Math.IntN.{ℤ}
use Rattle.integers.specs.Differences.{gaps, parts, up}
use Rattle.integers.specs.Variables.{linear}
use Rattle.meaning.specs.Loops.{progression, loop}
use Rattle.meaning.specs.Sorted.{Sorted.none, Sorted.more, Distinct}
use Rattle.meaning.specs.Points.{Direction.onward, Between, Precedes}
use Rattle.meaning.specs.StepVectors.{entries, vectors}
use Rattle.meaning.specs.HowManyWork.{Vectors}
use Rattle.lists.specs.Members.{map_in, map_at, in_each, each_in, each_at, each_length}
use Rattle.lists.specs.Sums.{total_same}
use Rattle.geometry.specs.Sorting.{sorted_each, distinct_map}
use Rattle.geometry.specs.Instances.{progression_length, progression_at, progression_sorted, loop_in, in_loop}

-- an entry is not itself again further on
apart : (a b : ℤ) → Precedes (pos 1) a b → a ≡ b → ⊥
apart = linear 0 2 _ λ p m. simp gaps (λ h e. omega arith)

head_same : {a b : ℤ} {v w : List ℤ} → a ∷ v ≡ b ∷ w → a ≡ b
head_same e = ap (λ (l : List ℤ). get_or l 0 (pos 0)) e

module _ (k : ℕ) where
  -- how many entries there are
  abbrev pub width : ℕ
  width = 2 * k + 1

  -- ---- the entries

  entries_length : length (entries k) ≡ width
  entries_length = progression_length (neg_ℤ (pos k)) (pos 1) width

  pub entry_at : (i : ℕ) → i < width → get_or (entries k) i (pos 0) ≡ pos i -ℤ pos k
  entry_at i h = progression_at (neg_ℤ (pos k)) (pos 1) width i (pos 0) h ∙ from (pos i) (pos k)
    where
      from : (i k : ℤ) → neg_ℤ k +ℤ i *ℤ pos 1 ≡ i -ℤ k
      from = linear 0 2 _ λ p m. simp gaps (omega arith)

  -- they are the values of a loop from −k to k
  as_loop : entries k ≡ loop (neg_ℤ (pos k)) (pos k) (pos 1)
  as_loop = ap (progression (neg_ℤ (pos k)) (pos 1)) (wide (pos k) refl)
    where
      wide : (a : ℤ) → a ≡ pos k → width ≡ up (a +ℤ pos 1 -ℤ neg_ℤ a)
      wide = linear 0 1 _ λ p m. simp (gaps, parts) (λ e. omega arith)

  -- ---- the vectors

  -- as many with one entry more as entries times those without it
  pub vectors_next : (r : ℕ) → length (vectors k (suc r)) ≡ width * length (vectors k r)
  unfolding vectors
  vectors_next r =
      each_length (λ e. map (λ v. e ∷ v) (vectors k r)) (entries k)
      ∙ total_same (λ e. length (map (λ v. e ∷ v) (vectors k r))) (length (vectors k r))
      (λ e. length-map (vectors k r) (λ v. e ∷ v)) (entries k)
      ∙ ap (λ (n : ℕ). n * length (vectors k r)) entries_length

  pub vectors_none : length (vectors k 0) ≡ 1
  unfolding vectors
  vectors_none = refl

  vectors_length : (r : ℕ) → length (vectors k r) ≡ width ^ r
  vectors_length zero = simp unary_clauses vectors_none
  vectors_length (suc r) = vectors_next r ∙ ap (λ (n : ℕ). width * n) (vectors_length r) ∙ power width r
    where
      power : (b r : ℕ) → b * b ^ r ≡ b ^ suc r
      power b r = simp unary_clauses (mul_comm b (b ^ r))

  -- the one at a place, by entry and rest
  pub vector_at_lem : (r i j : ℕ) → i < width → j < length (vectors k r)
      → get_or (vectors k (suc r)) (i * length (vectors k r) + j) [] ≡ (pos i -ℤ pos k) ∷ get_or (vectors k r) j []
  unfolding vectors
  vector_at_lem r i j h l =
      each_at (λ e. map (λ v. e ∷ v) (vectors k r)) (length (vectors k r)) (λ e. length-map (vectors k r) (λ v. e ∷ v)) (entries k)
      i j (pos 0) [] (subst (λ (n : ℕ). i < n) (sym entries_length) h) l
      ∙ map_at (λ v. get_or (entries k) i (pos 0) ∷ v) (vectors k r) j [] [] l
      ∙ ap (λ (e : ℤ). e ∷ get_or (vectors k r) j []) (entry_at i h)

  abbrev Small : List ℤ → Type 0
  Small v = (e : ℤ) → In e v → Between (neg_ℤ (pos k)) (pos k) e

  small_from : (r : ℕ) (v : List ℤ) → In v (vectors k r) → (length v ≡ r) × Small v
  unfolding vectors
  small_from zero v (here e) = (ap length e, λ x i. elim (subst (λ (w : List ℤ). In x w) e i) [ ])
  small_from zero v (there i) = elim i [ ]
  small_from (suc r) v i =
      let x = each_in (λ e. map (λ v. e ∷ v) (vectors k r)) (entries k) i in
      let y = map_in (λ v. x.from ∷ v) (vectors k r) x.is in
      let z = small_from r y.from y.mem in (
        ap length y.is ∙ ap suc z.0,
        λ e j.
            member (loop_in (neg_ℤ (pos k)) (pos k) onward (subst (In x.from) as_loop x.mem)) z.1 e
            (subst (λ (w : List ℤ). In e w) y.is j),
      )
    where
      member : {a : ℤ} {w : List ℤ} → Between (neg_ℤ (pos k)) (pos k) a → Small w → (e : ℤ) → In e (a ∷ w)
          → Between (neg_ℤ (pos k)) (pos k) e
      member b s e (here p) = subst (Between (neg_ℤ (pos k)) (pos k)) (sym p) b
      member b s e (there j) = s e j

  from_small : (r : ℕ) (v : List ℤ) → length v ≡ r → Small v → In v (vectors k r)
  unfolding vectors
  from_small zero [] l s = here refl
  from_small zero (e ∷ v) l s = absurd (omega arith)
  from_small (suc r) [] l s = absurd (omega arith)
  from_small (suc r) (e ∷ v) l s =
      in_each (λ e. map (λ v. e ∷ v) (vectors k r))
      (subst (In e) (sym as_loop) (in_loop (neg_ℤ (pos k)) (pos k) onward (s e (here refl))))
      (in_map (λ v. e ∷ v) (from_small r v (omega arith) (λ x i. s x (there i))))

  once : (r : ℕ) → Distinct (vectors k r)
  unfolding vectors
  once zero = more {x = []} {l = []} (λ y i. elim i [ ]) none
  once (suc r) =
      sorted_each (λ e. map (λ v. e ∷ v) (vectors k r)) (λ e. distinct_map (λ v. e ∷ v) (once r) (λ v w _ _ p. ap tail p))
      (λ a b u v p i j q.
      let x = map_in (λ v. a ∷ v) (vectors k r) i in
      let y = map_in (λ v. b ∷ v) (vectors k r) j in apart a b p (head_same (sym x.is ∙ q ∙ y.is)))
      (progression_sorted onward (neg_ℤ (pos k)) width)
    where
      tail : List ℤ → List ℤ
      tail [] = []
      tail (e ∷ v) = v

  pub vectors_are : (r : ℕ) → Vectors k r
  vectors_are r =
      record { exactly = λ v. (small_from r v, λ p. from_small r v p.0 p.1); once = once r; many = vectors_length r }
