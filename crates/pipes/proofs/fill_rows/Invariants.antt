-- `pipes::fill_rows` meets its contract: the words of the first p processes stand. Assumes nothing.
use mathlib.Core.Path.{◌≡◌}
use Prim.Native.Nat.{ℕ, ◌<◌}
use Rattle.integers.specs.Fill.{fill_by}
use Rattle.pipes.proofs.fill_rows.Given as goal

abbrev pub invariant-loop-p : goal.invariant-loop-p
invariant-loop-p g l =
    (word : ℕ → ℕ) → ((p r : ℕ) → p < l.processes → goal.F-post g l.row p r → r ≡ word p)
    → l.out ≡ fill_by word l.p l.initial.out
