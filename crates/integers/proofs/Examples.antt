-- One example of each line of the guide in src/lib.rt. Assumes nothing.
use Rattle.std.specs.Prelude.{◌≡◌, suc, ℤ, pos, ◌+ℤ◌, ◌-ℤ◌, ◌*ℤ◌, ◌≤ℤ◌, ◌<ℤ◌}
use Rattle.std.proofs.Common.{arith, SFits, to_z, of_z}
use Rattle.std.specs.Int.{w32}
use Rattle.integers.specs.declared.V3.{V3}
use Rattle.integers.specs.Differences.{gaps, parts, zrules, sum_is, up, Abs}
use Rattle.integers.specs.Variables.{linear}
use Rattle.integers.specs.Ring.{ring, quotes, literal, solve3, given, ◌also◌, Ex.var, Ex.plain}
use Rattle.integers.proofs.Ring.{solve, solve_by}
use Rattle.integers.specs.Vectors.{dot, cross, scale3, sub3}
use Rattle.integers.specs.Words.{fits, at, mul, add, box}

identity : (a b : ℤ) → (a +ℤ b) *ℤ (a -ℤ b) ≡ a *ℤ a -ℤ b *ℤ b
identity = ring 0 2 _ λ ρ. simp quotes (solve ρ _ _ tt)

literals : (a : ℤ) → (a +ℤ pos 2) *ℤ (a +ℤ pos 2) ≡ a *ℤ a +ℤ pos 4 *ℤ a +ℤ pos 4
literals = ring 0 1 _ λ ρ. simp (quotes, literal ρ) (solve ρ _ _ tt)

-- |p × q|² + (p · q)² = |p|² |q|²
lagrange : (p q : V3) → dot (cross p q) (cross p q) +ℤ dot p q *ℤ dot p q ≡ dot p p *ℤ dot q q
lagrange = ring 2 0 _ λ ρ. simp quotes (solve ρ _ _ tt)

vectors : (u w : V3) (t : ℤ) → scale3 t (sub3 u w) ≡ sub3 (scale3 t u) (scale3 t w)
vectors = ring 2 1 _ λ ρ. simp quotes (solve3 (solve ρ _ _ tt) (solve ρ _ _ tt) (solve ρ _ _ tt))

-- from a x = b and b y = c: a (x y) = c
from_equations : (a x b y c : ℤ) → a *ℤ x ≡ b → b *ℤ y ≡ c → a *ℤ (x *ℤ y) ≡ c
from_equations = ring 0 5 _ λ ρ. simp quotes (λ h k. solve_by _ _ (given (var 3) h also given (plain 1) k) tt)

fact : (a b c : ℤ) → a ≤ℤ b → b <ℤ c → (a +ℤ pos 1) ≤ℤ c
fact = linear 0 3 _ λ p m. simp gaps (omega arith)

size : (lo hi : ℤ) → lo <ℤ hi → up (hi -ℤ lo) ≡ suc (up (hi -ℤ (lo +ℤ pos 1)))
size = linear 0 2 _ λ p m. simp (gaps, parts) (omega arith)

between : (lo x hi : ℤ) → Abs lo 1000 → Abs hi 1000 → lo ≤ℤ x → x ≤ℤ hi → Abs x 1000
between = linear 0 3 _ λ p m. simp (gaps, parts) (omega arith)

in_the_middle : (a b c : ℤ) → a ≤ℤ b → b <ℤ c → (a +ℤ pos 1) ≤ℤ c
in_the_middle a b c h k = omega (arith, zrules, sum_is a (pos 1))

-- a product and a sum of i32 fit, and are the product and the sum
code_fits : (x y : ℤ) → Abs x 64 → Abs y 8 → SFits w32 (to_z w32 (of_z w32 x) *ℤ to_z w32 (of_z w32 y))
code_fits x y h k = fits tt (mul (at tt h) (at tt k))

code_is : (x y : ℤ) → Abs x 64 → Abs y 8
    → to_z w32 (of_z w32 (to_z w32 (of_z w32 x) *ℤ to_z w32 (of_z w32 y))) +ℤ to_z w32 (of_z w32 x) ≡ x *ℤ y +ℤ x
code_is x y h k = (add (box tt (mul (at tt h) (at tt k))) (at tt h)).eq
