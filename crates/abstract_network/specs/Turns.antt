-- The order of firings: when an instance fires, of those that touch one of its written elements exactly the earlier ones have fired.
-- Assumes nothing.
use Rattle.std.specs.Prelude.{◌≡◌, ℕ, suc, ◌+◌, ◌-◌, ◌≤◌, ◌<◌, min}
use Rattle.std.proofs.Common.{sym}
use Rattle.std.proofs.Math.Path.{ap}
use native.Mathlib.Omega.{arith}
use Rattle.abstract_network.specs.Cases.{Order, less, at_least, order}
use Rattle.abstract_network.specs.Counters.{Kind, through, AtStop, passing, fresh, holding, gone, Use, hand, held, fire, Counts, Net}
use Rattle.abstract_network.specs.Counters.{Guard}
use Rattle.abstract_network.specs.Counters.{Inv, along}
use Rattle.abstract_network.specs.Values.{Upto}

-- what passes through
record Passing (s t x y f : ℕ) : Type 0 where
  low : min (y - s) t ≤ f
  high : f ≤ x - s

passing_of : {n s t x y f : ℕ} {K : Kind} → K ≡ through → AtStop n s t x y f K → Passing s t x y f
passing_of e (passing a b u v) = record { low = u; high = v }
passing_of e (fresh a b u) = absurd (let z : ◌≡◌ {A = ℕ} 0 1 = cc in omega arith)
passing_of e (holding a b u) = absurd (let z : ◌≡◌ {A = ℕ} 0 1 = cc in omega arith)
passing_of e (gone a b u) = absurd (let z : ◌≡◌ {A = ℕ} 0 1 = cc in omega arith)

hand_of : {n s t x y f : ℕ} {K : Kind} → K ≡ through → Use n s t x y f K → (x ≡ suc (s + f)) × (y ≡ s + f)
hand_of e (hand a b) = (a, b)
hand_of e (held a) = absurd (let z : ◌≡◌ {A = ℕ} 0 1 = cc in omega arith)

-- instance i is the nth i-th of process owner i
module _ (N : Net) (owner firing : ℕ → ℕ) where
  open N use {stops, elements, hop, process, kind, soak, count}

  -- i comes to the element that they share before i' does
  pub data Before (i i' : ℕ) : Type 0 where
    upstream : (q k k' : ℕ) → k < k' → k' < stops q → process q k ≡ owner i → process q k' ≡ owner i' → kind q k ≡ through
        → kind q k' ≡ through → soak q k + firing i ≡ soak q k' + firing i' → Before i i'
    sooner : owner i ≡ owner i' → firing i < firing i' → Before i i'

  abbrev pub Fired : Counts → ℕ → Type 0
  Fired c i = firing i < c (fire (owner i))

  module _ {c : Counts} (I : Inv N c) (i : ℕ) (g : Guard N c (fire (owner i))) (now : firing i ≡ c (fire (owner i))) where
    -- earlier ones have fired
    has_fired : (i' : ℕ) → firing i' < count (owner i') → Before i' i → Fired c i'
    has_fired i' h (sooner e l) = omega (arith, ap (λ (p : ℕ). c (fire p)) e)
    has_fired i' h (upstream q k k' l l' e e' u u' j) =
        let a = along N I q k k' l (omega arith) in
        let b = passing_of u (I.stop q k (omega arith)) in
        let d = hand_of u' (g.1 q k' l' e') in
        omega (arith, ap (λ (p : ℕ). c (fire p)) e, ap (λ (p : ℕ). c (fire p)) e', ap (λ (p : ℕ). count p) e, b.low)

    -- later ones have not
    not_fired : (i' : ℕ) → firing i' < count (owner i') → Before i i' → Fired c i' → ⊥
    not_fired i' h (sooner e l) f = omega (arith, ap (λ (p : ℕ). c (fire p)) e)
    not_fired i' h (upstream q k k' l l' e e' u u' j) f =
        let a = along N I q k k' l (omega arith) in
        let b = passing_of u' (I.stop q k' l') in
        let d = hand_of u (g.1 q k (omega arith) e) in
        omega (arith, ap (λ (p : ℕ). c (fire p)) e, ap (λ (p : ℕ). c (fire p)) e', b.high)

    module _ (instances : ℕ) (touched : ℕ → ℕ → ℕ) (s : ℕ) (hi : i < instances) (own : (i : ℕ) → i < instances → firing i < count (owner i))
        (meets : (i i' : ℕ) → i < i' → i' < instances → touched i s ≡ touched i' s → Before i i') where
      -- the instances that touch the element of i and have fired are those before i
      pub in_turn : Upto touched instances (Fired c) s (touched i s) i
      unfolding Upto
      in_turn i' h e = go (order i' i) (order i i')
        where
          go : Order i' i → Order i i' → (Fired c i' → i' < i) × (i' < i → Fired c i')
          go (less l) o = (λ f. l, λ l. has_fired i' (own i' h) (meets i' i l hi e))
          go (at_least l) (less o) = (λ f. absurd (not_fired i' (own i' h) (meets i i' o h (sym e)) f), λ l'. absurd (omega arith))
          go (at_least l) (at_least o) =
              let z : i' ≡ i = omega arith in
              (λ f. absurd (omega (arith, ap (λ (k : ℕ). c (fire (owner k))) z, ap firing z)), λ l'. absurd (omega arith))
