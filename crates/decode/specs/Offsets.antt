-- Sizes in range, and where the parts of a description begin, for two loops and for three. Assumes nothing.
use Rattle.std.specs.Prelude.{◌≡◌, ◌⊎◌, ℕ, ◌+◌, ◌*◌, ◌≤◌}
use Rattle.std.proofs.Common.{inl, inr, arith}
use Rattle.std.proofs.Math.Decide.{ℕ_discrete}
use Rattle.meaning.specs.declared.Sizes.{Sizes}
use Rattle.meaning.specs.Description.{map_at, loading_at, line_at}

-- "loops r (2 or 3), streams m (1 to 6), body lines b (1 to 8)"
pub record Sized (z : Sizes) : Type 0 where
  pub least_loops : 2 ≤ z.loops
  pub most_loops : z.loops ≤ 3
  pub least_streams : 1 ≤ z.streams
  pub most_streams : z.streams ≤ 6
  pub least_lines : 1 ≤ z.lines
  pub most_lines : z.lines ≤ 8

pub two_or_three : {z : Sizes} → Sized z → (z.loops ≡ 2) ⊎ (z.loops ≡ 3)
two_or_three {z} h = go (ℕ_discrete z.loops 2)
  where
    go : Dec (z.loops ≡ 2) → (z.loops ≡ 2) ⊎ (z.loops ≡ 3)
    go (yes e) = inl e
    go (no f) = inr (omega (arith, h.least_loops, h.most_loops))

module _ (z : Sizes) (i : ℕ) where
  pub map_two : z.loops ≡ 2 → map_at z i ≡ 13 + 2 * i
  map_two e = rw e (omega arith)

  pub map_three : z.loops ≡ 3 → map_at z i ≡ 21 + 6 * i
  map_three e = rw e (omega arith)

  pub loading_two : z.loops ≡ 2 → loading_at z i ≡ 13 + 2 * z.streams + i
  loading_two e = rw e (omega arith)

  pub loading_three : z.loops ≡ 3 → loading_at z i ≡ 21 + 6 * z.streams + 2 * i
  loading_three e = rw e (omega arith)

  pub line_two : z.loops ≡ 2 → line_at z i ≡ 13 + 3 * z.streams + 7 * i
  line_two e = rw e (omega arith)

  pub line_three : z.loops ≡ 3 → line_at z i ≡ 21 + 8 * z.streams + 7 * i
  line_three e = rw e (omega arith)
