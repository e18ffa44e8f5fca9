-- Vectors whose components lie between −n and n. Assumes nothing.
use Rattle.std.specs.Prelude.{◌≡◌, ℕ, ◌^◌, T, eqb, leb, ltb, ℤ, pos}
use Rattle.std.proofs.Common.{arith, of_z}
use Rattle.std.specs.Int.{w32}
use Rattle.integers.specs.Differences.{Abs}
use Rattle.integers.specs.Bounds.{Abs-wider, Abs-quot}
use Rattle.integers.specs.Words.{eq_z, eq_test, leaf, lit}
use Rattle.integers.specs.declared.V3.{V3}
use Rattle.integers.specs.declared.V2.{V2}
use Rattle.integers.specs.declared.Matrix.{Matrix}
use Rattle.lattice.specs.Shorten.{over}
use Rattle.meaning.specs.declared.Nest.{Nest}
use Rattle.meaning.specs.Points.{Direction, Direction.onward, Direction.back, Directed}

pub record Within (n : ℕ) (v : V3) : Type 0 where
  pub xs : Abs v.x n
  pub ys : Abs v.y n
  pub zs : Abs v.z n

pub record Within2 (n : ℕ) (p : V2) : Type 0 where
  pub first : Abs p.a n
  pub second : Abs p.b n

pub record Rows (n : ℕ) (m : Matrix) : Type 0 where
  pub top : Within n m.top
  pub low : Within n m.low

-- a wider bound; at literals `wider tt`
pub wider : {v : V3} {m n : ℕ} → T (leb m n) → Within m v → Within n v
wider t h = record { xs = Abs-wider t h.xs; ys = Abs-wider t h.ys; zs = Abs-wider t h.zs }

pub rows_wider : {w : Matrix} {m n : ℕ} → T (leb m n) → Rows m w → Rows n w
rows_wider t h = record { top = wider t h.top; low = wider t h.low }

-- a divided vector is no longer
pub over_within : {v : V3} {n : ℕ} (d : ℕ) → Within n v → Within n (over v d)
over_within d h = record { xs = Abs-quot d h.xs; ys = Abs-quot d h.ys; zs = Abs-quot d h.zs }

-- so small a number is 0 exactly if its bits are
pub zero_bits : {z : ℤ} {n : ℕ} → T (ltb n (2 ^ 31)) → Abs z n → eqb (of_z w32 z) 0 ≡ eq_z z (pos 0)
zero_bits t h = eq_test t tt (leaf h) (lit (pos 0))

-- directions are 1 or −1
one : {d : ℤ} → Direction d → Abs d 1
one onward = record { abs = omega arith }
one back = record { abs = omega arith }

pub directions_small : {n : Nest} → Directed n → Within 1 n.direction
directions_small h = record { xs = one h.outer; ys = one h.middle; zs = one h.inner }
