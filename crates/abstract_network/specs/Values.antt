-- The values of the elements: firing the instances in any order that keeps, for each written element, the plain order, gives the plain
-- run's values. Assumes nothing.
use Rattle.std.specs.Prelude.{◌≡◌, refl, Bool, true, false, cond, ◌⊎◌, eqb}
use Rattle.std.proofs.Math.Path.{sym, ap}
use Rattle.std.proofs.Common.{◌∙◌, inl, inr, le_refl, eq-eqb, ne_eqb}
use Prim.Native.Nat.{ℕ, zero, suc, ◌≤◌, ◌<◌}
use native.Mathlib.Omega.{arith}
use Rattle.abstract_network.specs.Cases.{Order, less, at_least, order, Equal, same, other, equal}

-- a value for each element of each stream
abbrev pub Store : Type 0
Store = ℕ → ℕ → ℕ

known : (b : Bool) → Dec (b ≡ true)
known true = yes refl
known false = no (λ e. let z : ◌≡◌ {A = ℕ} 0 1 = cc in omega arith)

-- a program: its instances in written order and its streams by number; instance i touches the element `touched i s` of stream s, and its
-- body makes of the values that it finds there new ones; some streams are written; the values at the start
pub record Program : Type 0 where
  pub streams : ℕ
  pub instances : ℕ
  pub touched : ℕ → ℕ → ℕ
  pub body : ℕ → (ℕ → ℕ) → ℕ → ℕ
  pub written : ℕ → Bool
  pub values : Store

module _ (P : Program) where
  open P use {streams, instances, touched, body, written, values}

  -- what instance i finds
  abbrev pub inputs : ℕ → Store → ℕ → ℕ
  inputs i S s = S s (touched i s)

  -- instance i on a store
  unfoldable pub exec : ℕ → Store → Store
  exec i S s e = cond (eqb (touched i s) e) (body i (inputs i S) s) (S s e)

  -- the plain run's store after the first j instances
  unfoldable pub plain : ℕ → Store
  plain zero = values
  plain (suc j) = exec j (plain j)

  pub exec_hit : (i : ℕ) (S : Store) (s e : ℕ) → touched i s ≡ e → exec i S s e ≡ body i (inputs i S) s
  unfolding exec
  exec_hit i S s e h = rw (eq-eqb (touched i s) e h)

  pub exec_miss : (i : ℕ) (S : Store) (s e : ℕ) → (touched i s ≡ e → ⊥) → exec i S s e ≡ S s e
  unfolding exec
  exec_miss i S s e h = rw (ne_eqb (touched i s) e h)

  -- what the body may look at, and what it may change
  pub record Body : Type 0 where
    pub local : (i : ℕ) (x y : ℕ → ℕ) → ((s : ℕ) → s < streams → x s ≡ y s) → (s : ℕ) → s < streams → body i x s ≡ body i y s
    pub keeps : (i : ℕ) (x : ℕ → ℕ) (s : ℕ) → s < streams → (written s ≡ true → ⊥) → body i x s ≡ x s

-- the instances that have fired and touch e are those with number below j
unfoldable pub Upto : (ℕ → ℕ → ℕ) → ℕ → (ℕ → Type 0) → ℕ → ℕ → ℕ → Type 0
Upto touched N Fired s e j = (i : ℕ) → i < N → touched i s ≡ e → (Fired i → i < j) × (i < j → Fired i)

module _ (P : Program) where
  open P use {streams, instances, touched, body, written, values}

  -- the value invariant; a stream that is not written has nothing to show, and its elements have the value of every store of the plain run
  unfoldable pub Valued : (ℕ → Type 0) → Store → Type 0
  Valued Fired A = (s e j : ℕ) → s < streams → j ≤ instances → (written s ≡ true → Upto touched instances Fired s e j)
      → A s e ≡ plain P j s e

  -- only which have fired counts
  pub valued_same : (F G : ℕ → Type 0) (A : Store) → ((i : ℕ) → i < instances → (F i → G i) × (G i → F i)) → Valued F A → Valued G A
  unfolding Valued Upto
  valued_same F G A h I s e j hs hj u = I s e j hs hj (λ w i l q. (λ f. (u w i l q).0 ((h i l).0 f), λ o. (h i l).1 ((u w i l q).1 o)))

  module _ (B : Body P) where
    -- an element that no instance from a up to b touches, or that is not written, keeps its value
    still : (s e a b : ℕ) → s < streams → a ≤ b → (written s ≡ true → (k : ℕ) → a ≤ k → k < b → touched k s ≡ e → ⊥)
        → plain P b s e ≡ plain P a s e
    unfolding plain
    still s e a zero hs h f = let z : a ≡ 0 = omega arith in rw z
    still s e a (suc b) hs h f = go (order b a) (λ l. still s e a b hs l (λ w k l' l''. f w k l' (omega arith)))
      where
        step : Dec (written s ≡ true) → Equal (touched b s) e → a ≤ b → exec P b (plain P b) s e ≡ plain P b s e
        step d (other n) l = exec_miss P b (plain P b) s e n
        step (yes w) (same q) l = absurd (f w b l (le_refl _) q)
        step (no n) (same q) l =
            exec_hit P b (plain P b) s e q
            ∙ B.keeps b (inputs P b (plain P b)) s hs n
            ∙ ap (plain P b s) q

        go : Order b a → (a ≤ b → plain P b s e ≡ plain P a s e) → exec P b (plain P b) s e ≡ plain P a s e
        go (less l) ih = let z : a ≡ suc b = omega arith in rw z
        go (at_least l) ih = step (known (written s)) (equal (touched b s) e) l ∙ ih l

    pub valued_start : Valued (λ i. ⊥) values
    unfolding Valued Upto plain
    valued_start s e j hs hj u = sym (still s e 0 j hs (omega arith) (λ w k l l' q. (u w k (omega arith) q).1 l'))

    -- a firing
    module _ (Fired : ℕ → Type 0) (A : Store) (i : ℕ) (hi : i < instances)
        (turn : (s : ℕ) → s < streams → written s ≡ true → Upto touched instances Fired s (touched i s) i) where
      unfoldable pub Fired' : ℕ → Type 0
      Fired' k = Fired k ⊎ (k ≡ i)

      pub valued_fire : Valued Fired A → Valued Fired' (exec P i A)
      unfolding Valued Upto Fired' plain
      valued_fire I s e j hs hj u = go (equal (touched i s) e)
        where
          -- the body finds what it found in the plain run
          found : (s : ℕ) → s < streams → inputs P i A s ≡ inputs P i (plain P i) s
          found s hs = I s (touched i s) i hs (omega arith) (turn s hs)

          none : written s ≡ true → touched i s ≡ e → (k : ℕ) → suc i ≤ k → k < instances → touched k s ≡ e → Fired k ⊎ (k ≡ i) → ⊥
          none w q k l h q' (inl f) = omega (arith, (turn s hs w k h (q' ∙ sym q)).0 f)
          none w q k l h q' (inr z) = omega arith

          on : Dec (written s ≡ true) → touched i s ≡ e → plain P (suc i) s e ≡ plain P j s e
          on (yes w) q =
              sym
              (still s e (suc i) j hs ((u w i hi q).0 (inr refl))
              (λ w k l l' q'. none w q k l (omega arith) q' ((u w k (omega arith) q').1 l')))
          on (no n) q = still s e 0 (suc i) hs (omega arith) (λ w. absurd (n w)) ∙ sym (still s e 0 j hs (omega arith) (λ w. absurd (n w)))

          before : (touched i s ≡ e → ⊥) → written s ≡ true → Upto touched instances Fired s e j
          before n w k h q = (λ f. (u w k h q).0 (inl f), λ l. was ((u w k h q).1 l))
            where
              was : Fired k ⊎ (k ≡ i) → Fired k
              was (inl f) = f
              was (inr z) = absurd (n (ap (λ (k : ℕ). touched k s) (sym z) ∙ q))

          go : Equal (touched i s) e → exec P i A s e ≡ plain P j s e
          go (same q) =
              exec_hit P i A s e q
              ∙ B.local i (inputs P i A) (inputs P i (plain P i)) found s hs
              ∙ sym (exec_hit P i (plain P i) s e q)
              ∙ on (known (written s)) q
          go (other n) = exec_miss P i A s e n ∙ I s e j hs hj (before n)

    -- an element that no fired instance touches has its first value; one all of whose instances have fired has its last
    pub value_first : (Fired : ℕ → Type 0) (A : Store) → Valued Fired A → (s e : ℕ) → s < streams
        → ((i : ℕ) → i < instances → touched i s ≡ e → Fired i → ⊥) → A s e ≡ values s e
    unfolding Valued Upto plain
    value_first Fired A I s e hs f = I s e 0 hs (omega arith) (λ w i h q. (λ g. absurd (f i h q g), λ l. absurd (omega arith)))

    pub value_last : (Fired : ℕ → Type 0) (A : Store) → Valued Fired A → (s e : ℕ) → s < streams
        → ((i : ℕ) → i < instances → touched i s ≡ e → Fired i) → A s e ≡ plain P instances s e
    unfolding Valued Upto
    value_last Fired A I s e hs f = I s e instances hs (le_refl instances) (λ w i h q. (λ g. h, λ l. f i h q))
