-- `prospect::step_along` meets its contract. Assumes nothing.
use mathlib.Core.Path.{◌≡◌, sym, ◌∙◌, ap}
use native.Mathlib.Omega.{arith}
use lib.IntN.{ℤ, pos}
use mir.Syntax.{w32}
use mir.Val.{of_z}
use borrow.Author.Tests.{eq-eqb}
use Rattle.integers.specs.Differences.{Abs}
use Rattle.integers.specs.Words.{eq_z→eq}
use Rattle.integers.specs.declared.V3.{V3}
use Rattle.vectors.specs.Within.{Within, zero_bits}
use Rattle.prospect.specs.Own.{along_first, along_second, along_third}
use Rattle.prospect.proofs.step_along.Goals as goal

-- a word that is not 0, and one that is
some : {z : ℤ} → Abs z 200 → (of_z w32 z ≡ 0 → ⊥) → z ≡ pos 0 → ⊥
some h n e = n (ap (of_z w32) e)

none : {z : ℤ} → Abs z 200 → of_z w32 z ≡ 0 → z ≡ pos 0
none {z} h e = eq_z→eq z (pos 0) (sym (zero_bits tt h) ∙ eq-eqb (of_z w32 z) 0 e)

unit : {v : V3} → Abs v.x 1 → Abs v.y 1 → Abs v.z 1 → Within 1 v
unit a b c = record { xs = a; ys = b; zs = c }

pub returns-then-u-ne0 : goal.returns-then-u-ne0
returns-then-u-ne0 c = (
  unit (record { abs = omega arith }) (record { abs = omega arith }) (record { abs = omega arith }),
  along_first c.args.u (some c.requires.xs c.if-u-ne0.true),
)

pub returns-then-u-ne0-2 : goal.returns-then-u-ne0-2
returns-then-u-ne0-2 c = (
  unit (record { abs = omega arith }) (record { abs = omega arith }) (record { abs = omega arith }),
  along_second c.args.u (some c.requires.ys c.if-u-ne0-2.true),
)

pub returns-else-u-ne0-2 : goal.returns-else-u-ne0-2
returns-else-u-ne0-2 c = (
  unit (record { abs = omega arith }) (record { abs = omega arith }) (record { abs = omega arith }),
  along_third c.args.u (none c.requires.xs c.if-u-ne0.false) (none c.requires.ys c.if-u-ne0-2.false),
)
