-- Progress by descent: what blocks a step is due earlier, so going from blocker to blocker ends at a step that is ready. Assumes nothing.
use Rattle.std.specs.Prelude.{◌⊎◌, ℕ, zero, suc, ◌≤◌, ◌<◌}
use Rattle.std.proofs.Common.{inl, inr, le_refl, arith}

-- `Occurs a i`: step a has an i-th occurrence
module _ {A : Type 0} (Occurs : A → ℕ → Type 0) (due : A → ℕ → ℕ) (c : A → ℕ) where
  -- an occurrence not done yet that is due before d
  pub record Blocked (d : ℕ) : Type 0 where
    pub by : A
    pub at : ℕ
    pub occurs : Occurs by at
    pub undone : c by ≤ at
    pub earlier : due by at < d

  module _ (down : (a : A) (i j : ℕ) → i ≤ j → Occurs a j → Occurs a i) (rises : (a : A) (i j : ℕ) → i ≤ j → Occurs a j → due a i ≤ due a j)
      (Ready : A → Type 0) (judge : (a : A) → Occurs a (c a) → Ready a ⊎ Blocked (due a (c a))) where
    -- from any step that has an occurrence left one comes to a ready one
    pub descend : (a : A) → Occurs a (c a) → (b : A) × Ready b
    descend a h = go (suc (due a (c a))) a (le_refl _) h
      where
        go : (fuel : ℕ) (a : A) → due a (c a) < fuel → Occurs a (c a) → (b : A) × Ready b
        go zero a f h = absurd (omega arith)
        go (suc fuel) a f h = step (judge a h) (go fuel)
          where
            step : Ready a ⊎ Blocked (due a (c a)) → ((b : A) → due b (c b) < fuel → Occurs b (c b) → (b : A) × Ready b) → (b : A) × Ready b
            step (inl r) k = (a, r)
            step (inr w) k =
                let u = rises w.by (c w.by) w.at w.undone w.occurs in
                k w.by (omega (arith, w.earlier)) (down w.by (c w.by) w.at w.undone w.occurs)
