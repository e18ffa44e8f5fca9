-- `outlook::answer_at` meets its contract: so small a step is the number of the word that is tested. Assumes nothing.
use mathlib.Core.Path.{◌≡◌, refl, sym, ◌∙◌, ap, subst}
use mathlib.Core.Bool.{Bool, false, ◌&&◌}
use Prim.Native.Nat.{ℕ}
use lib.Dec.{ltb}
use lib.IntN.{ℤ, pos, nat_abs}
use lib.Signed.{lt_z}
use borrow.Author.Tests.{eq-eqb, ne_eqb}
use Rattle.integers.specs.Differences.{Abs}
use Rattle.integers.specs.Words.{eq_z, at}
use Rattle.vectors.specs.Within.{zero_bits}
use Rattle.std.proofs.Common.{to_z, of_z}
use Rattle.std.specs.Int.{w32}
use Rattle.outlook.specs.declared.Outlook.{Outlook}
use Rattle.outlook.proofs.answer_at.Goals as goal

pub leaps-requires : goal.leaps-requires
leaps-requires c = subst (λ (z : ℤ). Abs z 4800) (sym (at tt c.requires).eq) c.requires

-- after each of the three tests
moves : {z : ℤ} → Abs z 4800 → (of_z w32 z ≡ 0 → ⊥) → eq_z z (pos 0) ≡ false
moves {z} h n = sym (zero_bits tt h) ∙ ne_eqb (of_z w32 z) 0 n

leaping : (o : Outlook) (hop : ℕ) {z : ℤ} {a b : Bool} → Abs z 4800
    → a ≡ (o.moving && ltb hop (nat_abs (to_z w32 (of_z w32 z)))) → a ≡ b → (o.moving && ltb hop (nat_abs z)) ≡ b
leaping o hop h l e = sym (l ∙ ap (λ (z : ℤ). o.moving && ltb hop (nat_abs z)) (at tt h).eq) ∙ e

signed : {z : ℤ} {b : Bool} → Abs z 4800 → lt_z (to_z w32 (of_z w32 z)) (pos 0) ≡ b → lt_z z (pos 0) ≡ b
signed h e = sym (ap (λ (z : ℤ). lt_z z (pos 0)) (at tt h).eq) ∙ e

pub returns-then-step-eq0 : goal.returns-then-step-eq0
returns-then-step-eq0 c = rw (sym (zero_bits tt c.requires) ∙ eq-eqb _ _ c.if-step-eq0.true) refl

pub returns-then-leaps : goal.returns-then-leaps
returns-then-leaps c =
    let p = c.requires in
    rw (moves p c.if-step-eq0.false, leaping c.args.o c.args.hop p c.leaps.ensures c.if-leaps.true) refl

pub returns-then-step-lt0 : goal.returns-then-step-lt0
returns-then-step-lt0 c =
    let p = c.requires in
    let l = leaping c.args.o c.args.hop p c.leaps.ensures c.if-leaps.false in
    rw (moves p c.if-step-eq0.false, l, signed p c.if-step-lt0.true) refl

pub returns-else-step-lt0 : goal.returns-else-step-lt0
returns-else-step-lt0 c =
    let p = c.requires in
    let l = leaping c.args.o c.args.hop p c.leaps.ensures c.if-leaps.false in
    rw (moves p c.if-step-eq0.false, l, signed p c.if-step-lt0.false) refl
