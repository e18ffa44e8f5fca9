-- One pass over the instances by number: each changes the words of its point. What the pass leaves, for each point by itself.
-- Assumes nothing.
use Rattle.std.specs.Prelude.{◌≡◌, Bool, true, false, cond, eqb, length, take, drop}
use Rattle.std.proofs.Math.Path.{refl}
use Rattle.std.proofs.Common.{sym, ◌∙◌, ap, subst, drop_of_length-le, get_or-take, length-take-le}
use mathlib.Core.List.{List, [], ◌∷◌}
use Prim.Native.Nat.{ℕ, suc, ◌+◌, ◌≤◌, ◌<◌}
use native.Mathlib.Omega.{arith}
use Rattle.std.proofs.Math.ListN.{get_or}
use Rattle.std.proofs.Math.Seq.{drop-cons}

-- the pass from instance k on, whose points are given; f k p out is what instance k makes of the words when it is met at p
unfoldable pub sweep : (ℕ → ℕ → List ℕ → List ℕ) → ℕ → List ℕ → List ℕ → List ℕ
sweep f k [] out = out
sweep f k (p ∷ l) out = sweep f (suc k) l (f k p out)

-- of the instances from k on, the numbers of those at point p
unfoldable pub visits : ℕ → ℕ → List ℕ → List ℕ
visits p k [] = []
visits p k (q ∷ l) = cond (eqb q p) (k ∷ visits p (suc k) l) (visits p (suc k) l)

-- what those instances make of an entry
unfoldable pub run : (ℕ → ℕ → ℕ) → ℕ → List ℕ → ℕ
run g x [] = x
run g x (k ∷ l) = run g (g k x) l

-- ---- what the pass is lent

-- a table of points, each below the number of points
pub record Listed (numbers : List ℕ) (instances points : ℕ) : Type 0 where
  pub listed : instances ≤ length numbers
  pub below : (k : ℕ) → k < instances → get_or numbers k 0 < points

module _ {numbers : List ℕ} {instances points : ℕ} (h : Listed numbers instances points) where
  pub taken_length : length (take instances numbers) ≡ instances
  taken_length = length-take-le instances numbers h.listed

  pub taken_below : (k : ℕ) → k < length (take instances numbers) → get_or (take instances numbers) k 0 < points
  taken_below k l =
      let b : k < instances = omega (arith, taken_length) in
      subst (λ (p : ℕ). p < points) (sym (get_or-take instances numbers k 0 b)) (h.below k b)

-- ---- the pass, turn by turn

module _ (f : ℕ → ℕ → List ℕ → List ℕ) where
  pub sweep_done : (k : ℕ) (ps out : List ℕ) → length ps ≤ k → sweep f k (drop k ps) out ≡ out
  unfolding sweep
  sweep_done k ps out h = rw (drop_of_length-le ps h)

  pub sweep_step : (k : ℕ) (ps out : List ℕ) → k < length ps
      → sweep f (k + 1) (drop (k + 1) ps) (f k (get_or ps k 0) out) ≡ sweep f k (drop k ps) out
  unfolding sweep
  sweep_step k ps out h = let e : k + 1 ≡ suc k = omega arith in rw (e, drop-cons ps k 0 h)

  -- ---- what it leaves of one word of each point, which a turn at that point changes by g, and no other turn

  pub sweep_at : (g : ℕ → ℕ → ℕ) (points words : ℕ) (at : ℕ → ℕ)
      → ((k p : ℕ) (out : List ℕ) → length (f k p out) ≡ length out)
      → ((k p q : ℕ) (out : List ℕ) → p < points → q < points → length out ≡ words
      → get_or (f k p out) (at q) 0 ≡ cond (eqb p q) (g k (get_or out (at q) 0)) (get_or out (at q) 0))
      → (k : ℕ) (ps out : List ℕ) (q : ℕ) → q < points → length out ≡ words → ((i : ℕ) → i < length ps → get_or ps i 0 < points)
      → get_or (sweep f k ps out) (at q) 0 ≡ run g (get_or out (at q) 0) (visits q k ps)
  unfolding sweep visits run
  sweep_at g points words at keeps acts k [] out q h l below = refl
  sweep_at g points words at keeps acts k (p ∷ ps) out q h l below =
      sweep_at g points words at keeps acts (suc k) ps (f k p out) q h (keeps k p out ∙ l) (λ i b. below (suc i) (omega arith))
      ∙ go (eqb p q) (acts k p q out (below 0 (omega arith)) h l)
    where
      x : ℕ
      x = get_or out (at q) 0

      go : (b : Bool) → get_or (f k p out) (at q) 0 ≡ cond b (g k x) x
          → run g (get_or (f k p out) (at q) 0) (visits q (suc k) ps) ≡ run g x (cond b (k ∷ visits q (suc k) ps) (visits q (suc k) ps))
      go true e = ap (λ (y : ℕ). run g y (visits q (suc k) ps)) e
      go false e = ap (λ (y : ℕ). run g y (visits q (suc k) ps)) e
