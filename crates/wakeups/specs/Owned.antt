-- The ranks of a step's own steps. Assumes nothing.
use Rattle.std.specs.Prelude.{◌≡◌, refl, ◌⊎◌, ℕ, ◌<◌}
use Rattle.std.proofs.Common.{sym, ◌∙◌, ap, subst, inl, inr}
use Rattle.meaning.specs.declared.Step.{Step}
use Rattle.meaning.specs.declared.Step.TheVariants.{Send, Take, Fire, Give, Receive}
use Rattle.port_table.specs.declared.Size.{Size}
use Rattle.step_rules.specs.Fits.{Inside}
use Rattle.nearby.specs.Nearby.{Own, itself, take_give, take_fire, give_take, give_fire, fire_give}
use Rattle.step_order.specs.Ranks.{rank_count, step_at, take_rank, fire_rank, give_rank}
use Rattle.step_order.specs.Steps.{send_step, take_step, fire_step, give_step, receive_step, take_in, fire_in, give_in}
use Rattle.step_order.specs.Steps.{Ranked, send, take, fire, give, receive}
use Rattle.step_order.proofs.Steps.{ranked, rank_apart, step_inside}
use Rattle.wakeups.specs.Renewed.{OneRank, GiveRank, PortRank, OwnRank}

-- the own steps of a step
abbrev Owned : Step → Step → Type 0
Owned (Send q) b = b ≡ Send q
Owned (Take p i) b = (b ≡ Take p i) ⊎ ((b ≡ Fire p) ⊎ (b ≡ Give p i))
Owned (Fire p) b = (b ≡ Fire p) ⊎ ((i : ℕ) × (b ≡ Give p i))
Owned (Give p i) b = (b ≡ Take p i) ⊎ ((b ≡ Fire p) ⊎ (b ≡ Give p i))
Owned (Receive q) b = b ≡ Receive q

owned : {a b : Step} → Own a b → Owned a b
owned (itself {a}) = go a
  where
    go : (a : Step) → Owned a a
    go (Send q) = refl
    go (Take p i) = inl refl
    go (Fire p) = inl refl
    go (Give p i) = inr (inr refl)
    go (Receive q) = refl
owned take_give = inr (inr refl)
owned take_fire = inr (inl refl)
owned give_take = inl refl
owned give_fire = inr (inl refl)
owned (fire_give {p} {s}) = inr (s, refl)

-- ranks of the same step
same : (z : Size) (x y : ℕ) {a : Step} → x < rank_count z → y < rank_count z → step_at z x ≡ a → step_at z y ≡ a → x ≡ y
same z x y l m e d = rank_apart z x y l m (e ∙ sym d)

module _ (z : Size) where
  -- the rank of a give of process p
  a_give : (x p i : ℕ) → x < rank_count z → step_at z x ≡ Give p i → GiveRank z p z.streams x
  a_give x p i h d = go (ranked z x h)
    where
      never : (a : Step) → step_at z x ≡ a → (a ≡ Give p i → ⊥) → GiveRank z p z.streams x
      never a e n = absurd (n (sym e ∙ d))

      go : Ranked z x → GiveRank z p z.streams x
      go (send q l e) = never (Send q) (rw (e, send_step z q l) refl) (λ t. cc)
      go (take p i l m e) = never (Take p i) (rw e (take_step z p i l m)) (λ t. cc)
      go (fire p l e) = never (Fire p) (rw e (fire_step z p l)) (λ t. cc)
      go (receive q l e) = never (Receive q) (rw (e, receive_step z q) refl) (λ t. cc)
      go (give p' i' l m e) =
          let t : Give p' i' ≡ Give p i = sym (give_step z p' i' l m) ∙ rw e at d in
          let u : p' ≡ p = cc in (i', m, e ∙ ap (λ (p : ℕ). give_rank z p i') u)

-- of step a, which has rank r
module _ (z : Size) (r : ℕ) (h : r < rank_count z) {a : Step} (is : a ≡ step_at z r) where
  inside_as : {b : Step} → a ≡ b → Inside z b
  inside_as e = subst (Inside z) (sym is ∙ e) (step_inside z r h)

  owned_as : {b : Step} → a ≡ b → (x : ℕ) → OwnRank z r x → Owned b (step_at z x)
  owned_as e x o = subst (λ (b : Step). Owned b (step_at z x)) (sym is ∙ e) (owned o.1)

  -- a send and a receive own themselves
  pub own_alone : ((q : ℕ) × (a ≡ Send q)) ⊎ ((q : ℕ) × (a ≡ Receive q)) → (x : ℕ) → OwnRank z r x → OneRank r x
  own_alone (inl (q, e)) x o = same z x r o.0 h (owned_as e x o) (sym is ∙ e)
  own_alone (inr (q, e)) x o = same z x r o.0 h (owned_as e x o) (sym is ∙ e)

  -- a fire itself and the gives of its process
  pub own_fire : {p : ℕ} → a ≡ Fire p → (p < z.processes) × ((x : ℕ) → OwnRank z r x → OneRank r x ⊎ GiveRank z p z.streams x)
  own_fire {p} e = (inside_as e, λ x o. of x o (owned_as e x o))
    where
      of : (x : ℕ) → OwnRank z r x → Owned (Fire p) (step_at z x) → OneRank r x ⊎ GiveRank z p z.streams x
      of x o (inl d) = inl (same z x r o.0 h d (sym is ∙ e))
      of x o (inr d) = inr (a_give z x p d.0 o.0 d.1)

  -- a take and a give those at their port and the fire of its process
  pub own_port : {p i : ℕ} → (a ≡ Take p i) ⊎ (a ≡ Give p i)
      → (p < z.processes) × (i < z.streams) × ((x : ℕ) → OwnRank z r x → PortRank z p i x)
  own_port {p} {i} = go
    where
      at : p < z.processes → i < z.streams → (x : ℕ) → x < rank_count z → Owned (Take p i) (step_at z x) → PortRank z p i x
      at l m x o (inl d) = inl (same z x (take_rank z p i) o (take_in z p i l m) d (take_step z p i l m))
      at l m x o (inr (inl d)) = inr (inl (same z x (fire_rank z p) o (fire_in z p l) d (fire_step z p l)))
      at l m x o (inr (inr d)) = inr (inr (same z x (give_rank z p i) o (give_in z p i l m) d (give_step z p i l m)))

      go : (a ≡ Take p i) ⊎ (a ≡ Give p i) → (p < z.processes) × (i < z.streams) × ((x : ℕ) → OwnRank z r x → PortRank z p i x)
      go (inl e) = let k = inside_as e in (k.0, k.1, λ x o. at k.0 k.1 x o.0 (owned_as e x o))
      go (inr e) = let k = inside_as e in (k.0, k.1, λ x o. at k.0 k.1 x o.0 (owned_as e x o))
