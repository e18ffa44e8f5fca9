-- `lattice::negative` meets its contract: the bits of −q are 2^32 − q. Assumes nothing.
use mathlib.Core.Path.{◌≡◌, refl, sym, ◌∙◌, ap}
use Prim.Native.Nat.{ℕ, zero, suc, ◌-◌, ◌^◌, ◌≤◌}
use native.Mathlib.Omega.{arith}
use lib.IntN.{pos, neg_ℤ}
use mir.Syntax.{w32}
use mir.Val.{to_z}
use mir.ValLaws.{to_z-neg}
use Rattle.integers.specs.Words.{held}
use Rattle.lattice.proofs.negative.Goals as goal

bits : (q : ℕ) → q ≤ 2 ^ 31 → (q ≡ 0 → ⊥) → to_z w32 (4294967295 - (q - 1)) ≡ neg_ℤ (pos q)
bits zero h n = absurd (n refl)
bits (suc m) h n =
    let e : 4294967295 - (suc m - 1) ≡ 2 ^ 32 - suc m = omega arith in ap (to_z w32) e ∙ to_z-neg w32 m (omega arith)

pub returns-then-q-eq0 : goal.returns-then-q-eq0
returns-then-q-eq0 c = ap (λ (q : ℕ). neg_ℤ (pos q)) (sym c.if-q-eq0.true)

pub returns-else-q-eq0 : goal.returns-else-q-eq0
returns-else-q-eq0 c =
    held c.signed.type_inv (c.signed.ensures ∙ bits c.args.q c.requires c.if-q-eq0.false)
