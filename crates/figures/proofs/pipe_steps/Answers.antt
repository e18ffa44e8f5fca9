-- `figures::pipe_steps` meets its contract: from its entry a pipe goes on as far as the box does, so that it has one process more than the
-- reach there. Assumes nothing.
use mathlib.Core.Path.{ap₂}
use Prim.Native.Nat.{ℕ, ◌*◌, ◌+◌, ◌≤◌}
use native.Mathlib.Nat.{mul-le-mul}
use native.Mathlib.Omega.{arith}
use Rattle.lanes.specs.Flow.{spanning, point_lt, going_on, reach_on}
use Rattle.pipe_parts.specs.Entries.{entry_length}
use Rattle.figures.proofs.pipe_steps.Goals as goal

most : {a r : ℕ} → a ≤ 4096 → r ≤ 1536 → a * (r + 2) ≤ 6299648
most h k = mul-le-mul {n₂ = 4096} {m₂ = 1538} h (omega arith)

pub point_at-y-requires : goal.point_at-y-requires
point_at-y-requires c = let p = c.requires.0 in (spanning p.seen.flows, point_lt p.seen.flows p.lt)

pub reach_of-requires : goal.reach_of-requires
reach_of-requires c = let p = c.requires.0 in
    going_on p.seen.flows p.lt c.point_at-y.ensures

pub overflow_mul-result : goal.overflow_mul-result
overflow_mul-result c = omega (arith, most c.total_at-elements.ensures.1 c.reach_of.ensures.1)

pub overflow_mul-result-2 : goal.overflow_mul-result-2
overflow_mul-result-2 c = omega (arith, most c.total_at-elements.ensures.1 c.reach_of.ensures.1)

pub returns : goal.returns
returns c =
    let p = c.requires in
    ap₂ (λ (a b : ℕ). 2 * (a * b)) c.total_at-elements.ensures.0
    (entry_length p.0 p.1 (reach_on p.0.seen.flows p.0.lt c.point_at-y.ensures c.reach_of.ensures.0))
