-- `ReadySet::turn` meets its contract: a level above is turned over where the word below it was 0 or has become 0. Assumes nothing.
use mathlib.Core.Path.{◌≡◌, sym, ◌∙◌}
use mathlib.Core.Bool.{Bool, true, false, not}
use mathlib.Core.List.{List}
use Prim.Native.Nat.{ℕ, ◌/◌, ◌<◌}
use Rattle.ready_set.specs.Flags.{members, Kept, put, flipped, turns}
use Rattle.ready_set.specs.Keeping.{kept_low, kept_middle, kept_high}
use Rattle.ready_set.proofs.ReadySet.turn.Goals as goal

-- the list l₁ after the level of r, l₂ after the middle one, l₃ after the top one
module _ (l : List ℕ) (r : ℕ) (h : r < members) {l₁ : List ℕ} (e₁ : l₁ ≡ flipped l 0 r) where
  abbrev After : List ℕ → Type 0
  After l' = (f : ℕ → Bool) → Kept f l → Kept (put f r (not (f r))) l'

  turned_low : turns l 0 r ≡ false → After l₁
  turned_low t = rw e₁ (λ f kept. kept_low f l r kept h t)

  module _ (t : turns l 0 r ≡ true) {l₂ : List ℕ} (e₂ : l₂ ≡ flipped l₁ 512 (r / 64)) where
    turned_middle : turns l₁ 512 (r / 64) ≡ false → After l₂
    turned_middle s = rw e₂ (rw e₁ (λ f kept. kept_middle f l r kept h t (rw e₁ at s)))

    turned_high : turns l₁ 512 (r / 64) ≡ true → {l₃ : List ℕ} → l₃ ≡ flipped l₂ 520 (r / 64 / 64) → After l₃
    turned_high s e₃ = rw e₃ (rw e₂ (rw e₁ (λ f kept. kept_high f l r kept h t (rw e₁ at s))))

pub returns-then-flip-2 : goal.returns-then-flip-2
returns-then-flip-2 c =
    let z = c.flip-then-flip-2.ensures in
    turned_high c.args.self.now.words c.args.r c.requires c.flip.ensures.0
    (sym c.flip.ensures.1 ∙ c.if-flip.true)
    c.flip-then-flip.ensures.0 (sym c.flip-then-flip.ensures.1 ∙ c.if-flip-2.true) z.0

pub returns-else-flip-2 : goal.returns-else-flip-2
returns-else-flip-2 c =
    turned_middle c.args.self.now.words c.args.r c.requires c.flip.ensures.0
    (sym c.flip.ensures.1 ∙ c.if-flip.true)
    c.flip-then-flip.ensures.0 (sym c.flip-then-flip.ensures.1 ∙ c.if-flip-2.false)

pub returns-else-flip : goal.returns-else-flip
returns-else-flip c =
    turned_low c.args.self.now.words c.args.r c.requires c.flip.ensures.0 (sym c.flip.ensures.1 ∙ c.if-flip.false)
