-- `counting::put_plane` meets its contract, row by row. Assumes nothing.
use mathlib.Core.Path.{◌≡◌}
use mathlib.Core.List.{List}
use Prim.Native.Nat.{ℕ, ◌+◌, ◌*◌}
use Rattle.integers.specs.Fill.{fill_by}
use Rattle.counting.specs.Strides.{along, AgreesAll}
use Rattle.counting.proofs.put_plane.Given as goal

abbrev pub invariant-loop-j : goal.invariant-loop-j
invariant-loop-j l =
    (l.number ≡ along l.first l.strides.y l.j) × (l.at ≡ l.from + l.j * l.count)
    × ((f : ℕ → ℕ) (xs : List ℕ) → AgreesAll f l.from l.rows l.count l.first l.strides → l.initial.out ≡ fill_by f l.from xs
    → l.out ≡ fill_by f (l.from + l.j * l.count) xs)
