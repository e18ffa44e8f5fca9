-- `written_order::fill_column` meets its contract: the first k entries of the column are set. Assumes nothing.
use mathlib.Core.Path.{◌≡◌}
use Prim.Native.Nat.{◌+◌}
use Rattle.integers.specs.Differences.{up}
use Rattle.counting.specs.Course.{after}
use Rattle.counting.specs.Forms.{form_at}
use Rattle.written_order.specs.Columns.{column}
use Rattle.written_order.proofs.fill_column.Given as goal

abbrev pub invariant-loop-k : goal.invariant-loop-k
invariant-loop-k l =
    (l.table ≡ column l.i (λ k. l.start + up (form_at l.form (after l.course k))) l.k l.initial.table) × (l.x ≡ after l.course l.k)
