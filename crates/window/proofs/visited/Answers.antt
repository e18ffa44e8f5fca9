-- `window::visited` meets its contract: an entry counts its pipe and any other process nothing, and a pipe has at most 4096 elements, so
-- the start grows by no more. Assumes nothing.
use mathlib.Core.Path.{sym, ◌∙◌}
use native.Mathlib.Omega.{arith}
use Rattle.layout.specs.Spans.{process_of}
use Rattle.window.specs.Search.{visit_yes, visit_no}
use Rattle.window.proofs.visited.Goals as goal

pub returns-then-is_entry : goal.returns-then-is_entry
returns-then-is_entry c =
    let a = c.args in
    let t = c.total_at.ensures in (
      visit_yes a.f.nest a.f.stream a.w (process_of a.f.nest a.p)
          (sym c.is_entry.ensures ∙ c.if-is_entry.true)
          c.counted.ensures.0 t.0,
      omega (arith, c.counted.ensures.1, t.1),
    )

pub returns-else-is_entry : goal.returns-else-is_entry
returns-else-is_entry c =
    let a = c.args in (
      visit_no a.f.nest a.f.stream a.w (process_of a.f.nest a.p) (sym c.is_entry.ensures ∙ c.if-is_entry.false),
      omega arith,
    )
