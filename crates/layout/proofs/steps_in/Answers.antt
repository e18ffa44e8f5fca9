-- `layout::steps_in` meets its contract. Assumes nothing.
use mathlib.Core.Path.{refl, sym, ◌∙◌, ap}
use Prim.Native.Nat.{ℕ, ◌/◌}
use native.Mathlib.Nat.{div-one}
use native.Mathlib.Omega.{arith}
use Rattle.layout.proofs.steps_in.Goals as goal

pub nonzero_div-result : goal.nonzero_div-result
nonzero_div-result c = omega arith

pub returns-then-size-eq1 : goal.returns-then-size-eq1
returns-then-size-eq1 c = let a = c.args in sym (ap (λ (s : ℕ). a.way / s) c.if-size-eq1.true ∙ div-one a.way)

pub returns-else-size-eq1 : goal.returns-else-size-eq1
returns-else-size-eq1 c = refl
