-- `figures::added` meets its contract: an entry adds its pipe and any other process nothing; sums over a part of the entries are no more
-- than those over all. Assumes nothing.
use mathlib.Core.Path.{sym, ◌∙◌, ap}
use Prim.Native.Nat.{◌+◌}
use native.Mathlib.Omega.{arith}
use Rattle.figures.specs.declared.Sums.{Sums}
use Rattle.layout.specs.Spans.{process_of}
use Rattle.pipe_parts.specs.Starts.{entering_entry}
use Rattle.figures.specs.Sums.{sums_yes, sums_no, steps_fit, pipes_fit}
use Rattle.figures.proofs.added.Goals as goal

pub overflow_add-result : goal.overflow_add-result
overflow_add-result c = omega (arith, ap (λ (r : Sums). r.pipes) c.requires.1, pipes_fit _ _ c.args.p c.requires.0.lt c.requires.2)

pub pipe_steps-requires : goal.pipe_steps-requires
pipe_steps-requires c =
    let n = c.args.f.nest in (
      c.requires.0,
      entering_entry n c.args.f.stream (process_of n c.args.p) (sym c.is_entry.ensures ∙ c.if-is_entry.true),
    )

pub overflow_add-result-then-is_entry : goal.overflow_add-result-then-is_entry
overflow_add-result-then-is_entry c =
    let e = sym c.is_entry.ensures ∙ c.if-is_entry.true in
    omega (
      arith,
      ap (λ (r : Sums). r.steps) c.requires.1,
      c.pipe_steps.ensures,
      steps_fit _ _ c.args.p c.requires.0.lt c.requires.2 e,
    )

pub returns-then-is_entry : goal.returns-then-is_entry
returns-then-is_entry c =
    let e = sym c.is_entry.ensures ∙ c.if-is_entry.true in
    sums_yes _ _ c.args.p c.requires.0.lt e (ap (λ (r : Sums). r.pipes + 1) c.requires.1)
    (omega (arith, ap (λ (r : Sums). r.steps) c.requires.1, c.pipe_steps.ensures))

pub returns-else-is_entry : goal.returns-else-is_entry
returns-else-is_entry c = c.requires.1 ∙ sums_no _ _ c.args.p c.requires.0.lt (sym c.is_entry.ensures ∙ c.if-is_entry.false)
