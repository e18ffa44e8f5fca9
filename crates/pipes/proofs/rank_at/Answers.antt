-- `pipes::rank_at` meets its contract: the running count is of those on its line with lower numbers, fewer than all; where the move leads
-- back, those with higher ones come before it. Assumes nothing.
use mathlib.Core.Path.{sym, ◌∙◌}
use mathlib.Core.Bool.{true, false}
use native.Mathlib.Omega.{arith}
use Rattle.pipes.specs.Elements.{running_lt, still_soak}
use Rattle.pipes.proofs.rank_at.Goals as goal

pub overflow_sub-result : goal.overflow_sub-result
overflow_sub-result c = let p = c.requires in omega (arith, c.held_at.ensures, running_lt p.0 p.1 p.2)

pub overflow_sub-result-then-f : goal.overflow_sub-result-then-f
overflow_sub-result-then-f c =
    let p = c.requires in
    omega (arith, c.held_at.ensures, running_lt p.0 p.1 p.2)

pub returns-then-f : goal.returns-then-f
returns-then-f c =
    let p = c.requires in
    omega (arith, c.held_at.ensures, still_soak p.0 p.1 p.2 true (sym c.if-f.true))

pub returns-else-f : goal.returns-else-f
returns-else-f c = let p = c.requires in
    c.from-running.ensures ∙ sym (still_soak p.0 p.1 p.2 false (sym c.if-f.false))
