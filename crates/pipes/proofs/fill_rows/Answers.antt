-- `pipes::fill_rows` meets its contract: the words of the first p processes stand. Assumes nothing.
use mathlib.Core.Path.{sym, ◌∙◌, ap₂}
use mathlib.Core.List.{List}
use Prim.Native.Nat.{ℕ}
use lib.ListN.{set}
use Rattle.integers.specs.Fill.{fill_zero, fill_step}
use Rattle.pipes.proofs.fill_rows.Goals as goal

pub loop-p-init : goal.loop-p-init
loop-p-init g c = λ w h. sym (fill_zero w _)

pub loop-p-preserved : goal.loop-p-preserved
loop-p-preserved g c = λ w h.
    let l = c.loop-p in
    ap₂ (λ (xs : List ℕ) (r : ℕ). set xs l.p r) (l.invariant w h) (h l.p c.row.result c.loop-p-test.true c.row.ensures)
    ∙ sym (fill_step w l.p _)
