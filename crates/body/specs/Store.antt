-- Gather and scatter between a store and the registers, place by place. Assumes nothing.
use Rattle.std.specs.Prelude.{◌≡◌, refl, List, [], ◌∷◌, ◌++◌, ℕ, zero, suc, ◌+◌, ◌≤◌, ◌<◌, length, get_or, set, take, drop, replicate}
use Rattle.std.proofs.Common.{sym, ap, add-one, arith, drop_of_length-le, drop-cons}
use Rattle.std.proofs.lemmas.List.{length-map}
use Rattle.std.proofs.Math.Seq.{take-length}
use Rattle.meaning.specs.Body.{gather, scatter}

-- the eight registers as an instance starts: the streams' values, then zeros
abbrev pub cleared : List ℕ
cleared = replicate 8 0

abbrev pub registers : List ℕ → List ℕ
registers vs = vs ++ drop (length vs) cleared

-- ---- gather

module _ (store : List ℕ) where
  put : (ps rs : List ℕ) (i : ℕ) → i < length ps → length ps ≤ length rs
      → set (gather store (take i ps) ++ drop i rs) i (get_or store (get_or ps i 0) 0) ≡ gather store (take (suc i) ps) ++ drop (suc i) rs
  put [] rs i h k = absurd (omega arith)
  put (p ∷ ps) [] i h k = absurd (omega arith)
  put (p ∷ ps) (r ∷ rs) zero h k = refl
  put (p ∷ ps) (r ∷ rs) (suc i) h k = ap (λ (l : List ℕ). get_or store p 0 ∷ l) (put ps rs i (omega arith) (omega arith))

  -- after i turns of the loop
  abbrev pub gathered : List ℕ → ℕ → List ℕ
  gathered ps i = gather store (take i ps) ++ drop i cleared

  pub gather_next : (ps : List ℕ) (i : ℕ) → i < length ps → length ps ≤ 6
      → set (gathered ps i) i (get_or store (get_or ps i 0) 0) ≡ gathered ps (i + 1)
  gather_next ps i h k = rw add-one (put ps cleared i h (omega arith))

  pub gather_length : (ps : List ℕ) → length (gather store ps) ≡ length ps
  gather_length ps = length-map ps _

  pub gather_end : (ps : List ℕ) (i : ℕ) → i ≡ length ps → gathered ps i ≡ registers (gather store ps)
  gather_end ps i e = rw (e, take-length) (ap (λ (m : ℕ). gather store ps ++ drop m cleared) (sym (gather_length ps)))

-- ---- scatter

-- a turn of the loop, when the values from i on are left
pub scatter_next : (store ps vs : List ℕ) (i : ℕ) → i < length ps → i < length vs
    → scatter store (drop i ps) (drop i vs) ≡ scatter (set store (get_or ps i 0) (get_or vs i 0)) (drop (i + 1) ps) (drop (i + 1) vs)
unfolding scatter
scatter_next store ps vs i h k = rw (drop-cons ps i 0, drop-cons vs i 0, add-one)

pub scatter_end : (store ps vs : List ℕ) (i : ℕ) → length ps ≤ i → scatter store (drop i ps) vs ≡ store
unfolding scatter
scatter_end store ps vs i h = rw (drop_of_length-le ps h)
