-- The values of a matrix at all whole vectors, and how far apart they lie: the divisor of the cross product of its rows tells.
-- Assumes nothing.
use Rattle.std.specs.Prelude.{◌≡◌, ◌↔◌, ℕ, ◌*◌, ℤ, nat_abs, ◌-ℤ◌}
use Rattle.std.specs.Int.{◌∣◌}
use Rattle.integers.specs.declared.V3.{V3}
use Rattle.integers.specs.declared.V2.{V2}
use Rattle.integers.specs.declared.Matrix.{Matrix}
use Rattle.integers.specs.Vectors.{sub3, scale3, image}

-- y is a value of m: m sends some whole vector to it
abbrev pub Value : Matrix → V2 → Type 0
Value m y = (x : V3) × (image m x ≡ y)

-- the minors of m with y as a further column: of each column of m, its first word times y's second less its second times y's first
abbrev pub minors_with : Matrix → V2 → V3
minors_with m y = sub3 (scale3 y.b m.top) (scale3 y.a m.low)

-- how far apart the values of m lie: `rows` times `columns` is g
pub record Apart (m : Matrix) (g : ℕ) : Type 0 where
  pub rows : ℕ
  pub columns : ℕ
  pub product : rows * columns ≡ g
  -- the rows that hold a value are every `rows`-th
  pub holds : (a : ℤ) → ((b : ℤ) × Value m (record { a = a; b = b })) ↔ (rows ∣ nat_abs a)
  -- in a row that holds one, every `columns`-th point from it on is one, either way, and no other
  pub within : (y : V2) → Value m y → (b : ℤ) → Value m (record { a = y.a; b = b }) ↔ (columns ∣ nat_abs (b -ℤ y.b))
