-- `lattice::quotient` meets its contract: a quotient towards zero is that of the absolute values, with the sign. Assumes nothing.
use mathlib.Core.Path.{◌≡◌, refl, sym, ◌∙◌, ap, subst}
use Prim.Native.Nat.{ℕ, suc, ◌/◌, ◌^◌, ◌<◌}
use native.Mathlib.Nat.{div-le_self, div-zero}
use native.Mathlib.Omega.{arith}
use lib.IntN.{ℤ, pos, negsuc, neg_ℤ, nat_abs}
use lib.Signed.{mag, nat_abs-le, quot_z, ◌≤ℤ◌, ◌<ℤ◌}
use mir.Syntax.{w32}
use mir.Val.{to_z}
use mir.ValLaws.{to_z_pos}
use Rattle.integers.specs.Differences.{lt_out, le_out}
use Rattle.integers.specs.Words.{tower, held, less_of, not_less_of}
use Rattle.lattice.proofs.quotient.Goals as goal

-- by cases of the sign
by_zero : (x : ℤ) → pos 0 ≡ quot_z x (pos 0)
by_zero (pos a) = ap pos (sym (div-zero a))
by_zero (negsuc a) = ap (λ (n : ℕ). neg_ℤ (pos n)) (sym (div-zero (suc a)))

below : (x : ℤ) (d : ℕ) → x <ℤ pos 0 → neg_ℤ (pos (nat_abs x / d)) ≡ quot_z x (pos d)
below (pos a) d h = absurd (omega (arith, lt_out h))
below (negsuc a) d h = refl

above : (x : ℤ) (d : ℕ) → pos 0 ≤ℤ x → pos (nat_abs x / d) ≡ quot_z x (pos d)
above (pos a) d h = refl
above (negsuc a) d h = absurd (omega (arith, le_out h))

-- no quotient is greater than the number
small : (x : ℤ) (d : ℕ) → mag x < 2 ^ 31 → pos 0 ≤ℤ x → nat_abs x / d < 2 ^ 31
small (pos a) d h k = omega (arith, div-le_self a d)
small (negsuc a) d h k = absurd (omega (arith, le_out k))

pub returns-then-d-eq0 : goal.returns-then-d-eq0
returns-then-d-eq0 c = by_zero c.args.x ∙ ap (λ (d : ℕ). quot_z c.args.x (pos d)) (sym c.if-d-eq0.true)

pub negative-requires : goal.negative-requires
negative-requires c =
    let h = c.ranges.x.sfits in
    let e = c.magnitude.ensures ∙ ap nat_abs (tower c.args.x h) in
    omega (arith, div-le_self c.magnitude.result c.args.d, nat_abs-le c.args.x h, e)

pub overflow_cast-result : goal.overflow_cast-result
overflow_cast-result c =
    let h = c.ranges.x.sfits in
    let e = c.magnitude.ensures ∙ ap nat_abs (tower c.args.x h) in
    record {
      sfits = subst (λ (n : ℕ). n / c.args.d < 2 ^ 31) (sym e)
          (small c.args.x c.args.d h (not_less_of (tower c.args.x h) refl c.if-x-lt0.false));
    }

pub returns-then-x-lt0 : goal.returns-then-x-lt0
returns-then-x-lt0 c =
    let h = c.ranges.x.sfits in
    let e = c.magnitude.ensures ∙ ap nat_abs (tower c.args.x h) in
    held c.negative.type_inv (c.negative.ensures ∙ ap (λ (n : ℕ). neg_ℤ (pos (n / c.args.d))) e
    ∙ below c.args.x c.args.d (less_of (tower c.args.x h) refl c.if-x-lt0.true))

pub returns-else-x-lt0 : goal.returns-else-x-lt0
returns-else-x-lt0 c =
    let h = c.ranges.x.sfits in
    let e = c.magnitude.ensures ∙ ap nat_abs (tower c.args.x h) in
    let k = not_less_of (tower c.args.x h) refl c.if-x-lt0.false in
    ap (λ (n : ℕ). to_z w32 (n / c.args.d)) e ∙ to_z_pos w32 _ (small c.args.x c.args.d h k) ∙ above c.args.x c.args.d k
