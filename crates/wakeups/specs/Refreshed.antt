-- The flags after a step: its own steps are tested anew, and the one that looks at the word that it counts up. Assumes nothing.
use Rattle.std.specs.Prelude.{◌≡◌, ◌⊎◌, List, ℕ, suc, ◌-◌, get_or}
use Rattle.std.proofs.Common.{◌∙◌, ap, inl, inr, arith}
use Rattle.port_table.specs.declared.Size.{Size}
use Rattle.ready_set.specs.Flags.{Kept}
use Rattle.wakeups.specs.Wakeups.{counter_by, flag_at, flag_same, Local}
use Rattle.wakeups.specs.Renewed.{OneRank, OwnRank, Renewed, renewed_then, renewed_less, renewed_all}

-- i is the word that the step of rank r counts up
module _ (b st w : List ℕ) (z : Size) (r i : ℕ) (at : i ≡ counter_by b z r) where
  -- the ranks that are tested anew
  abbrev NearRank : ℕ → Type 0
  NearRank x = OwnRank z r x ⊎ (get_or w i 0 ≡ suc x)

  refreshed : {l l' : List ℕ} → Renewed (flag_at b st z) NearRank l l' → (old : List ℕ) → Local b z w old st r → Kept (flag_at b old z) l
      → Kept (flag_at b st z) l'
  refreshed R old near k =
      renewed_all R (flag_at b old z) k
      (λ x n. flag_same b st old z x (λ h. near x h (λ o. n (inl (h, o))) (λ e. n (inr (ap (λ (i : ℕ). get_or w i 0) at ∙ e)))))

  -- a step looks at it
  pub refreshed_some : {l l' l'' : List ℕ} → Renewed (flag_at b st z) (OwnRank z r) l l'
      → Renewed (flag_at b st z) (OneRank (get_or w i 0 - 1)) l' l'' → (old : List ℕ) → Local b z w old st r → Kept (flag_at b old z) l
      → Kept (flag_at b st z) l''
  refreshed_some R Q = refreshed (renewed_then split R Q)
    where
      split : (x : ℕ) → NearRank x → OwnRank z r x ⊎ OneRank (get_or w i 0 - 1) x
      split x (inl o) = inl o
      split x (inr e) = inr (omega arith)

  -- none does
  pub refreshed_none : {l l' : List ℕ} → get_or w i 0 ≡ 0 → Renewed (flag_at b st z) (OwnRank z r) l l'
      → (old : List ℕ) → Local b z w old st r → Kept (flag_at b old z) l
      → Kept (flag_at b st z) l'
  refreshed_none e R = refreshed (renewed_less split R)
    where
      split : (x : ℕ) → NearRank x → OwnRank z r x
      split x (inl o) = o
      split x (inr d) = absurd (omega arith)
