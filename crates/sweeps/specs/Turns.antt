-- The words of the points, 1,024 each for the counts, the first and the last instances: one turn of the pass, and what the pass leaves.
-- Assumes nothing.
use Rattle.std.specs.Prelude.{◌≡◌, Bool, true, false, not, cond, List, ℕ, ◌+◌, ◌^◌, ◌≤◌, ◌<◌, eqb, length, get_or, set, take}
use Rattle.std.proofs.Common.{sym, ◌∙◌, ap, subst, arith, length-set, get_or-set_same, get_or-set_other, eq-eqb, ne_eqb}
use Rattle.std.proofs.Math.Decide.{ℕ_discrete}
use Rattle.integers.specs.Fill.{fill_by, fill_length}
use Rattle.integers.proofs.Fill.{fill_at_lem}
use Rattle.sweeps.specs.Sweep.{Listed, visits, run, sweep, sweep_at, taken_below}
use Rattle.sweeps.specs.Met.{count_in, end_in, more, met, run_more, run_met}

-- word i changed by g
abbrev pub put : (ℕ → ℕ → ℕ) → ℕ → ℕ → List ℕ → List ℕ
put g k i out = set out i (g k (get_or out i 0))

-- instance k met at point p: one more there, and met first and last, or last and first
abbrev pub turn : Bool → ℕ → ℕ → List ℕ → List ℕ
turn back k p out = put (met (not back)) k (2048 + p) (put (met back) k (1024 + p) (put more k p out))

-- what a turn is lent
pub record Turning (k p : ℕ) (spans : List ℕ) : Type 0 where
  pub point : p < 1024
  pub words : length spans ≡ 3072
  pub number : k + 1 < 2 ^ 32
  pub before : get_or spans p 0 ≤ k

-- what the pass is lent
pub record Sweepable (numbers : List ℕ) (instances points : ℕ) (spans : List ℕ) : Type 0 where
  pub table : Listed numbers instances points
  pub few : points ≤ 1024
  pub words : length spans ≡ 3072

-- and what it leaves
pub record Swept (numbers : List ℕ) (instances : ℕ) (back : Bool) (points : ℕ) (spans : List ℕ) : Type 0 where
  pub counts : (p : ℕ) → p < points → get_or spans p 0 ≡ count_in (take instances numbers) p
  pub firsts : (p : ℕ) → p < points → get_or spans (1024 + p) 0 ≡ end_in back (take instances numbers) p
  pub lasts : (p : ℕ) → p < points → get_or spans (2048 + p) 0 ≡ end_in (not back) (take instances numbers) p

-- ---- one turn

module _ (g : ℕ → ℕ → ℕ) (k i : ℕ) (out : List ℕ) where
  put_length : length (put g k i out) ≡ length out
  put_length = length-set out i (g k (get_or out i 0))

  put_other : (j : ℕ) → (j ≡ i → ⊥) → get_or (put g k i out) j 0 ≡ get_or out j 0
  put_other j f = get_or-set_other out i j (g k (get_or out i 0)) 0 f

  -- where i and j are the words of p and q
  put_at : (j p q : ℕ) → (p ≡ q → i ≡ j) → (i ≡ j → p ≡ q) → i < length out
      → get_or (put g k i out) j 0 ≡ cond (eqb p q) (g k (get_or out j 0)) (get_or out j 0)
  put_at j p q f h l = go (ℕ_discrete p q)
    where
      go : Dec (p ≡ q) → get_or (put g k i out) j 0 ≡ cond (eqb p q) (g k (get_or out j 0)) (get_or out j 0)
      go (yes e) =
          rw (eq-eqb p q e)
          (subst (λ (w : ℕ). get_or (put g k i out) w 0 ≡ g k (get_or out w 0)) (f e) (get_or-set_same out i (g k (get_or out i 0)) 0 l))
      go (no n) = rw (ne_eqb p q n) (put_other j (λ e. n (h (sym e))))

pub turn_length : (back : Bool) (k p : ℕ) (out : List ℕ) → length (turn back k p out) ≡ length out
turn_length back k p out =
    put_length (met (not back)) k (2048 + p) (put (met back) k (1024 + p) (put more k p out))
    ∙ put_length (met back) k (1024 + p) (put more k p out) ∙ put_length more k p out

-- it changes the three words of its point
module _ (back : Bool) (k p q : ℕ) (out : List ℕ) (a : p < 1024) (b : q < 1024) (l : length out ≡ 3072) where
  abbrev one : List ℕ
  one = put more k p out

  abbrev two : List ℕ
  two = put (met back) k (1024 + p) one

  turn_count : get_or (turn back k p out) q 0 ≡ cond (eqb p q) (more k (get_or out q 0)) (get_or out q 0)
  turn_count =
      put_other (met (not back)) k (2048 + p) two q (λ e. omega arith) ∙ put_other (met back) k (1024 + p) one q (λ e. omega arith)
      ∙ put_at more k p out q p q (λ e. e) (λ e. e) (omega arith)

  turn_first : get_or (turn back k p out) (1024 + q) 0 ≡ cond (eqb p q) (met back k (get_or out (1024 + q) 0)) (get_or out (1024 + q) 0)
  turn_first =
      put_other (met (not back)) k (2048 + p) two (1024 + q) (λ e. omega arith)
      ∙ put_at (met back) k (1024 + p) one (1024 + q) p q (λ e. omega arith) (λ e. omega arith) (omega (arith, put_length more k p out))
      ∙ ap (λ (x : ℕ). cond (eqb p q) (met back k x) x) (put_other more k p out (1024 + q) (λ e. omega arith))

  turn_last : get_or (turn back k p out) (2048 + q) 0
      ≡ cond (eqb p q) (met (not back) k (get_or out (2048 + q) 0)) (get_or out (2048 + q) 0)
  turn_last =
      put_at (met (not back)) k (2048 + p) two (2048 + q) p q (λ e. omega arith) (λ e. omega arith)
      (omega (arith, put_length (met back) k (1024 + p) one, put_length more k p out))
      ∙ ap (λ (x : ℕ). cond (eqb p q) (met (not back) k x) x)
      (put_other (met back) k (1024 + p) one (2048 + q) (λ e. omega arith) ∙ put_other more k p out (2048 + q) (λ e. omega arith))

-- ---- the counts stay small

pub record Most (n points : ℕ) (out : List ℕ) : Type 0 where
  pub at : (p : ℕ) → p < points → get_or out p 0 ≤ n

pub most_zero : (points : ℕ) (out : List ℕ) → points ≤ 1024 → length out ≡ 3072 → Most 0 points (fill_by (λ p. 0) 3072 out)
most_zero points out few h = record { at = λ p k. omega (arith, fill_at_lem (λ p. 0) 3072 p out 0 (omega arith) (omega arith)) }

pub most_turn : (back : Bool) {k points : ℕ} (p : ℕ) {out : List ℕ} → points ≤ 1024 → p < points → length out ≡ 3072 → Most k points out
    → Most (k + 1) points (turn back k p out)
most_turn back {k} {points} p {out} few h l m =
    record { at = λ q b. go (eqb p q) _ _ (turn_count back k p q out (omega arith) (omega arith) l) (m.at q b) }
  where
    go : (t : Bool) (x y : ℕ) → y ≡ cond t (x + 1) x → x ≤ k → y ≤ k + 1
    go true x y e h = omega arith
    go false x y e h = omega arith

-- ---- the whole pass

pub swept : {numbers : List ℕ} {instances points : ℕ} (back : Bool) {xs out : List ℕ} → Sweepable numbers instances points xs
    → out ≡ sweep (turn back) 0 (take instances numbers) (fill_by (λ p. 0) 3072 xs) → Swept numbers instances back points out
swept {numbers} {instances} {points} back {xs} {out} s e =
    record {
      counts = λ p h.
          leaves more (λ p. p) (λ k p q out a b l. turn_count back k p q out (omega (arith, s.few)) (omega (arith, s.few)) l) p h
          (omega (arith, s.few)) ∙ run_more (visits p 0 ps);
      firsts = λ p h.
          leaves (met back) (λ p. 1024 + p)
          (λ k p q out a b l. turn_first back k p q out (omega (arith, s.few)) (omega (arith, s.few)) l) p h (omega (arith, s.few))
          ∙ run_met back (visits p 0 ps);
      lasts = λ p h.
          leaves (met (not back)) (λ p. 2048 + p)
          (λ k p q out a b l. turn_last back k p q out (omega (arith, s.few)) (omega (arith, s.few)) l) p h (omega (arith, s.few))
          ∙ run_met (not back) (visits p 0 ps);
    }
  where
    ps : List ℕ
    ps = take instances numbers

    zeros : List ℕ
    zeros = fill_by (λ p. 0) 3072 xs

    -- a word that is 0 before the first turn
    leaves : (g : ℕ → ℕ → ℕ) (at : ℕ → ℕ)
        → ((k p q : ℕ) (out : List ℕ) → p < points → q < points → length out ≡ 3072
        → get_or (turn back k p out) (at q) 0 ≡ cond (eqb p q) (g k (get_or out (at q) 0)) (get_or out (at q) 0))
        → (p : ℕ) → p < points → at p < 3072 → get_or out (at p) 0 ≡ run g 0 (visits p 0 ps)
    leaves g at acts p h b =
        ap (λ (l : List ℕ). get_or l (at p) 0) e
        ∙ sweep_at (turn back) g points 3072 at (turn_length back) acts 0 ps zeros p h (fill_length (λ p. 0) 3072 xs ∙ s.words)
        (taken_below s.table)
        ∙ ap (λ (x : ℕ). run g x (visits p 0 ps)) (fill_at_lem (λ p. 0) 3072 (at p) xs 0 b (omega (arith, s.words)))
