-- `counting::put_row` meets its contract: after k turns the number is k strides on. Assumes nothing.
use mathlib.Core.Path.{◌≡◌}
use mathlib.Core.List.{List}
use Prim.Native.Nat.{ℕ, ◌+◌}
use Rattle.integers.specs.Fill.{fill_by}
use Rattle.counting.specs.Strides.{along, Agrees}
use Rattle.counting.proofs.put_row.Given as goal

abbrev pub invariant-loop-k : goal.invariant-loop-k
invariant-loop-k l =
    (l.number ≡ along l.first l.stride l.k)
    × ((f : ℕ → ℕ) (xs : List ℕ) → Agrees f l.from l.count l.first l.stride → l.initial.out ≡ fill_by f l.from xs
    → l.out ≡ fill_by f (l.from + l.k) xs)
