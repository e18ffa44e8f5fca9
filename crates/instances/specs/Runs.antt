-- What the instances of a process are computed from. Assumes nothing.
use Rattle.std.specs.Prelude.{◌≡◌, List, ℕ, ◌≤◌, ◌<◌, length}
use Rattle.integers.specs.declared.V3.{V3}
use Rattle.meaning.specs.declared.Nest.{Nest}
use Rattle.meaning.specs.Loops.{increment}
use Rattle.meaning.specs.Space.{processes, count}
use Rattle.numbering.specs.Ranges.{Bounded}
use Rattle.vectors.specs.Within.{Within}
use Rattle.layout.specs.Spans.{process_of, Spans}

-- process p has an instance
pub record Computes (n : Nest) (spans : List ℕ) (p : ℕ) : Type 0 where
  pub nest : Bounded n
  pub held : Spans n spans
  pub words : length spans ≡ 3072
  pub few : length (processes n) ≤ 1024
  pub process : p < length (processes n)
  pub some : 0 < count n (process_of n p)

-- and it has one of number f
pub record Runs (n : Nest) (i : V3) (spans : List ℕ) (p f : ℕ) : Type 0 where
  pub computes : Computes n spans p
  pub increment : i ≡ increment n
  pub within : Within 200 i
  pub firing : f ≤ 4096
