-- The ranges that a word can be drawn from in 32 bits: those of all words, of sizes in range. Assumes nothing.
use Rattle.std.specs.Prelude.{ℕ, ℤ, pos, ◌-ℤ◌, ◌≤ℤ◌}
use Rattle.std.proofs.Common.{arith}
use Rattle.integers.specs.Differences.{Abs, gaps}
use Rattle.integers.specs.Variables.{linear}
use Rattle.meaning.specs.declared.Range.{Range}
use Rattle.meaning.specs.declared.Sizes.{Sizes}
use Rattle.meaning.specs.Description.{range_at}
use Rattle.meaning.specs.Conditions.{SizesFit}
use Rattle.generated.specs.Drawn.{ordered, near}
use Rattle.decode.specs.Offsets.{Sized}

pub record Drawable (r : Range) : Type 0 where
  pub least : Abs r.least 64
  pub greatest : Abs r.greatest 64
  pub ordered : r.least ≤ℤ r.greatest

sizes_fit : {z : Sizes} → Sized z → SizesFit z
sizes_fit h =
    record {
      loops = (h.least_loops, h.most_loops);
      streams = (h.least_streams, h.most_streams);
      lines = (h.least_lines, h.most_lines);
    }

pub drawable : (z : Sizes) → Sized z → (k : ℕ) → Drawable (range_at z k)
drawable z h k = let n = near z (sizes_fit h) k in record { least = n.0; greatest = n.1; ordered = ordered z k }

-- how far the greatest is from the least
pub apart : (l g : ℤ) → l ≤ℤ g → pos 0 ≤ℤ (g -ℤ l)
apart = linear 0 2 _ λ p m. simp gaps (omega arith)
