-- Request 2.5, "guards on body lines": what Accept answers to descriptions of the older length, to guards in their ranges and out of them,
-- and that the plain run and the network both come to what the loops leave when a line runs only if its index compares so (`guarded-lines`
-- of requests).
use Rattle.std.specs.Prelude.{◌≡◌, ℕ, ◌+◌, ◌*◌, ◌≤◌, ◌<◌, length, get_or, pos}
use mathlib.Core.List.{List, [], ◌∷◌, Memᴰ as In}
use Rattle.integers.specs.Bytes.{bits_at, word_at}
use Rattle.integers.specs.declared.V3.{V3}
use Rattle.meaning.specs.declared.Limits.{Limits}
use Rattle.meaning.specs.declared.Line.{Line}
use Rattle.meaning.specs.Answers.{Refused}
use Rattle.meaning.specs.Description.{sizes_of, line_at, no_line, description_of, lines_of}
use Rattle.meaning.specs.Accept.{accept, Accepts}
use Rattle.meaning.specs.Conditions.{Known, SizesFit, former_total, GuardFits, Condition, Condition.Board, Condition.Begins}
use Rattle.meaning.specs.Conditions.{Condition.Sizes-fit, Condition.Long, Asks}
use Rattle.meaning.specs.Alike.{DeclinedBy}
use Rattle.meaning.specs.Leaves.{Runs, RunsLoops}

-- ---- lines and guards

-- t has the words of line i: operation, target, first and second operand, and "three words after its four: a loop number, a comparison and
-- a bound"
pub record HasWords (s : List ℕ) (i : ℕ) (t : Line) : Type 0 where
  pub operation : pos t.operation ≡ word_at s (line_at (sizes_of s) i)
  pub target : pos t.target ≡ word_at s (line_at (sizes_of s) i + 1)
  pub first : pos t.first ≡ word_at s (line_at (sizes_of s) i + 2)
  pub second : pos t.second ≡ word_at s (line_at (sizes_of s) i + 3)
  pub index : pos t.index ≡ word_at s (line_at (sizes_of s) i + 4)
  pub comparison : pos t.comparison ≡ word_at s (line_at (sizes_of s) i + 5)
  pub bound : t.bound ≡ word_at s (line_at (sizes_of s) i + 6)

-- two descriptions that differ at most in the guards of their lines, all in range
pub record OtherGuards (s t : List ℕ) : Type 0 where
  pub long : length s ≡ length t
  -- every word that is no guard's
  pub same : (k : ℕ) → ((i j : ℕ) → i < (sizes_of s).lines → 4 ≤ j → j < 7 → k ≡ line_at (sizes_of s) i + j → ⊥) → bits_at s k ≡ bits_at t k
  pub guards : (i : ℕ) → i < (sizes_of s).lines → GuardFits s (sizes_of s) i × GuardFits t (sizes_of s) i

-- ---- refusals

-- the conditions of 33 and of 1 to 3
abbrev pub conditions_before : List Condition
conditions_before = Board ∷ Begins ∷ Sizes-fit ∷ Long ∷ []

-- ---- REQUEST 2.5, for every description and all limits

pub record Guarded (l : Limits) (s : List ℕ) : Type 0 where
  -- "each line gains three words after its four"
  pub words : Accepts l s → (i : ℕ) → i < (sizes_of s).lines → HasWords s i (get_or (lines_of (description_of s)) i no_line)
  -- "descriptions of the older length are declined by 3", of all sizes
  pub older_length : Known l → SizesFit (sizes_of s) → length s ≡ 4 * former_total (sizes_of s) → DeclinedBy l s 3
  -- "refusal 4 covers the new words"
  pub covered : ((c : Condition) → In c conditions_before → Asks l s c) → (i : ℕ) → i < (sizes_of s).lines
      → (GuardFits s (sizes_of s) i → ⊥)
      → accept l s ≡ Refused 4
  -- "a guarded target still makes its stream written": Accept answers as it does to any other guard
  pub any_guard : (t : List ℕ) → OtherGuards s t → accept l s ≡ accept l t
  -- comparison 0: the line runs at every instance, as before
  pub always : Accepts l s → (t : Line) → In t (lines_of (description_of s)) → t.comparison ≡ 0 → (x : V3) → Runs x t
  -- "the line runs only if that index compares so"
  pub runs : RunsLoops l s

abbrev pub GuardedLines : Type 0
GuardedLines = (l : Limits) (s : List ℕ) → Guarded l s
