-- `counting::fill_numbers` meets its contract: plane by plane, each begins a stride of the outermost loop on. Assumes nothing.
use mathlib.Core.Path.{◌≡◌}
use Prim.Native.Nat.{ℕ, ◌*◌, ◌<◌}
use Rattle.integers.specs.Fill.{fill_by}
use Rattle.counting.specs.Strides.{along, AgreesAll}
use Rattle.counting.proofs.fill_numbers.Given as goal

abbrev pub invariant-loop-i : goal.invariant-loop-i
invariant-loop-i l = let i = l.i in
    (l.number ≡ along l.initial.number l.strides.x i)
    × (l.at ≡ i * (l.rows * l.count))
    × ((f : ℕ → ℕ)
    → ((i : ℕ) → i < l.i-end
    → AgreesAll f (i * (l.rows * l.count)) l.rows l.count (along l.initial.number l.strides.x i) l.strides)
    → l.out ≡ fill_by f l.at l.initial.out)
