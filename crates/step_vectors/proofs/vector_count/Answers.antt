-- `step_vectors::vector_count` meets its contract. Assumes nothing.
use mathlib.Core.Path.{◌≡◌, sym, ◌∙◌, ap}
use Prim.Native.Nat.{ℕ, ◌+◌, ◌*◌, ◌≤◌}
use native.Mathlib.Nat.{mul_comm, mul-le-mul}
use native.Mathlib.Omega.{arith}
use lib.ListN.{length}
use Rattle.meaning.specs.StepVectors.{vectors}
use Rattle.step_vectors.specs.Places.{two_long, three_long}
use Rattle.step_vectors.proofs.vector_count.Goals as goal

-- at most seven entries
squared : (w : ℕ) → w ≤ 7 → w * w ≤ 49
squared w h = mul-le-mul h h

cubed : (w : ℕ) → w ≤ 7 → w * w * w ≤ 343
cubed w h = mul-le-mul (squared w h) h

pub overflow_mul-result : goal.overflow_mul-result
overflow_mul-result c = let p = c.requires in record { fits = omega (arith, squared (2 * c.args.k + 1) (omega (arith, p.0))) }

pub overflow_mul-result-else-loops-eq2 : goal.overflow_mul-result-else-loops-eq2
overflow_mul-result-else-loops-eq2 c =
    let p = c.requires in record { fits = omega (arith, squared (2 * c.args.k + 1) (omega (arith, p.0))) }

pub overflow_mul-result-else-loops-eq2-2 : goal.overflow_mul-result-else-loops-eq2-2
overflow_mul-result-else-loops-eq2-2 c =
    let p = c.requires in record { fits = omega (arith, cubed (2 * c.args.k + 1) (omega (arith, p.0))) }

pub returns-then-loops-eq2 : goal.returns-then-loops-eq2
returns-then-loops-eq2 c =
    let k = c.args.k in
    let w : ℕ = 2 * k + 1 in (
      sym (ap (λ (r : ℕ). length (vectors k r)) c.if-loops-eq2.true ∙ two_long k),
      omega (arith, squared w (omega (arith, c.requires.0))),
    )

pub returns-else-loops-eq2 : goal.returns-else-loops-eq2
returns-else-loops-eq2 c =
    let k = c.args.k in
    let w : ℕ = 2 * k + 1 in
    let e : c.args.loops ≡ 3 = omega (arith, c.requires.1, c.requires.2, c.if-loops-eq2.false) in (
      sym (ap (λ (r : ℕ). length (vectors k r)) e ∙ three_long k ∙ mul_comm w (w * w)),
      cubed w (omega (arith, c.requires.0)),
    )
