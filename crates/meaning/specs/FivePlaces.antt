-- Request 2.8, "five places are enough": what the lower limit of refusal 14 changes in the calls, and what it leaves (`five-places` of
-- requests).
use Rattle.std.specs.Prelude.{◌≡◌, ◌⊎◌, ℕ, ◌<◌, pos}
use mathlib.Core.List.{List, ◌∷◌, Memᴰ as In}
use Rattle.integers.specs.declared.V3.{V3}
use Rattle.meaning.specs.declared.Limits.{Limits}
use Rattle.meaning.specs.declared.Description.{Description}
use Rattle.meaning.specs.Answers.{Refused}
use Rattle.meaning.specs.Limits.{limits_of, former_limits}
use Rattle.meaning.specs.Loops.{step_of}
use Rattle.meaning.specs.Points.{Between, IsLine}
use Rattle.meaning.specs.Description.{sizes_of, description_of}
use Rattle.meaning.specs.Accept.{accept}
use Rattle.meaning.specs.Alike.{AnsweredAlike}
use Rattle.meaning.specs.Conditions.{stream_of, Moves, Condition, Condition.Hop, FirstFails}

-- "a moving hop from 6 to 8", of stream i
pub record LongHop (d : Description) (i : ℕ) : Type 0 where
  pub line : V3
  pub is_line : IsLine d.nest (stream_of d i).map line
  pub moves : Moves d.nest line
  pub hop : Between (pos 6) (pos 8) (step_of d.nest line)

-- ---- refused by a condition or by what is listed before it

pub record RefusedByThen (l : Limits) (s : List ℕ) (c : Condition) : Type 0 where
  pub number : ℕ
  pub answer : accept l s ≡ Refused number
  pub first : FirstFails l s number
  pub by_then : In c (first.failed ∷ first.rest)

-- ---- REQUEST 2.8, for every description and every board

pub record FivePlaces (board : ℕ) (s : List ℕ) : Type 0 where
  -- "with no moving hop from 6 to 8 is answered as before"
  pub as_before : ((i : ℕ) → i < (sizes_of s).streams → LongHop (description_of s) i → ⊥)
      → AnsweredAlike (limits_of board) (former_limits board) s
  -- one that has one is refused, by 14 or by what comes before it
  pub refused : (i : ℕ) → i < (sizes_of s).streams → LongHop (description_of s) i → RefusedByThen (limits_of board) s (Hop i)
  -- and no answer of Accept becomes another one than 14
  pub only_fourteen : (accept (limits_of board) s ≡ accept (former_limits board) s) ⊎ (accept (limits_of board) s ≡ Refused 14)

abbrev pub FivePlacesAreEnough : Type 0
FivePlacesAreEnough = (board : ℕ) (s : List ℕ) → FivePlaces board s
