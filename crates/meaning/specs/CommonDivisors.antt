-- Request 2.7, "common divisors shown": what the divisors in Accept's answer are, and how far apart they say that the values of place and
-- of an index map lie, and so the working processes (`common-divisors` of requests).
use Rattle.std.specs.Prelude.{◌≡◌, ◌↔◌, List, ℕ, ◌+◌, ◌≤◌, ◌<◌, length, get_or, ℤ, pos, neg_ℤ, nat_abs, ◌+ℤ◌, ◌*ℤ◌}
use Rattle.std.specs.Int.{◌∣◌}
use Rattle.integers.specs.Vectors.{zero2, cross}
use Rattle.integers.specs.declared.V3.{V3}
use Rattle.integers.specs.declared.V2.{V2}
use Rattle.integers.specs.declared.Matrix.{Matrix}
use Rattle.lattice.specs.Shorten.{Divides, Shortens}
use Rattle.lattice.specs.Values.{Value, minors_with, Apart}
use Rattle.meaning.specs.declared.Limits.{Limits}
use Rattle.meaning.specs.declared.Row.{Row}
use Rattle.meaning.specs.declared.Description.{Description}
use Rattle.meaning.specs.Loops.{turn}
use Rattle.meaning.specs.Space.{processes}
use Rattle.meaning.specs.Points.{IsLine}
use Rattle.meaning.specs.Description.{sizes_of, description_of}
use Rattle.meaning.specs.Accept.{accept, Accepts}
use Rattle.meaning.specs.Answers.{accept_values}
use Rattle.meaning.specs.Calls.{table}
use Rattle.meaning.specs.Conditions.{stream_of}
use Rattle.meaning.specs.Demand2.{row_at}

-- "the vector before shortening is, for two loops, the row's second word and its first negated, and for three the cross product of the two
-- rows"
pub data Before (d : Description) (m : Matrix) (v : V3) : Type 0 where
  of_two : d.sizes.loops ≡ 2 → v ≡ record { x = m.top.y; y = neg_ℤ m.top.x; z = pos 0 } → Before d m v
  of_three : d.sizes.loops ≡ 3 → v ≡ cross m.top m.low → Before d m v

-- what the divisor k of a matrix in use says
pub record Shown (d : Description) (m : Matrix) (k : ℕ) : Type 0 where
  pub before : V3
  pub short : V3
  pub is_before : Before d m before
  -- "a shortened vector, before it is turned, times its divisor is that vector", and the divisor is the greatest common one; turned, it is
  -- the line
  pub shortens : Shortens before (record { vector = short; divisor = k })
  pub line : IsLine d.nest m (turn d.nest.step short)
  pub not_zero : k ≡ 0 → ⊥
  -- "how far apart" the values of the matrix at all whole points lie: for two loops, every k-th whole number is one
  pub multiples : d.sizes.loops ≡ 2 → (a : ℤ) → ((i : ℤ) × (j : ℤ) × (m.top.x *ℤ i +ℤ m.top.y *ℤ j ≡ a)) ↔ (k ∣ nat_abs a)
  -- for three, every so many rows hold some, and in such a row every so many points are, so that of all points one in k is; they are the
  -- points with which k divides the matrix's minors
  pub apart : Apart m k
  pub values : (y : V2) → Value m y ↔ Divides k (minors_with m y)

-- value i of Accept's answer, from 0: the six figures, then the divisors of place and of the six streams
abbrev pub value_at : Limits → List ℕ → ℕ → ℕ
value_at l s i = get_or (accept_values (accept l s)) i 0

-- ---- REQUEST 2.7, for every description that is accepted and all limits

pub record Divided (l : Limits) (s : List ℕ) : Type 0 where
  pub thirteen : length (accept_values (accept l s)) ≡ 13
  -- "that divisor for place and for each stream"
  pub place : Shown (description_of s) (description_of s).nest.place (value_at l s 6)
  pub stream : (i : ℕ) → i < (sizes_of s).streams → Shown (description_of s) (stream_of (description_of s) i).map (value_at l s (7 + i))
  pub past : (i : ℕ) → (sizes_of s).streams ≤ i → value_at l s (7 + i) ≡ 0
  -- the working processes, those whose row of Table has a count, lie at values of place
  pub working : (lent : List Row) → length (processes (description_of s).nest) ≤ length lent
      → (p : ℕ) → p < length (processes (description_of s).nest) → 0 < (row_at (table l s lent).rows p).count
      → Value (description_of s).nest.place (get_or (processes (description_of s).nest) p zero2)

abbrev pub CommonDivisors : Type 0
CommonDivisors = (l : Limits) (s : List ℕ) → Accepts l s → Divided l s
