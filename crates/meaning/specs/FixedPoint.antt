-- Request 2.1, "fixed point products": what Accept answers to an operation word of 6 beside what it answered before, and that the plain run
-- and the network both come to what the loops leave when every line that runs puts into its target what its operation says (`fixed-point`
-- of requests).
use Rattle.std.specs.Prelude.{◌≡◌, ◌↔◌, Bool, ℕ, ◌<◌, eqb, length, pos}
use mathlib.Core.List.{List, [], ◌∷◌, ◌++◌, Memᴰ as In}
use Rattle.integers.specs.Bytes.{bits_at, word_at}
use Rattle.meaning.specs.declared.Limits.{Limits}
use Rattle.meaning.specs.declared.Line.{Line}
use Rattle.meaning.specs.declared.Description.{Description}
use Rattle.meaning.specs.Answers.{Acceptance, Refused}
use Rattle.meaning.specs.Lists.{any, each, numbers}
use Rattle.meaning.specs.Tests.{Test, ◌if◌, refusal}
use Rattle.meaning.specs.Points.{Between}
use Rattle.meaning.specs.Description.{sizes_of, line_at, description_of, streams_of, lines_of}
use Rattle.meaning.specs.Accept.{refused33, byte_tests, nest_tests, tests_from, answer_of, accept}
use Rattle.meaning.specs.Leaves.{RunsLoops}
use Rattle.meaning.specs.Conditions.{Condition, Condition.Board, Condition.Begins, Condition.Sizes-fit, Condition.Long}
use Rattle.meaning.specs.Conditions.{Condition.Words-fit, Condition.Bounds-fit, Condition.Instances, Condition.Place-rank}
use Rattle.meaning.specs.Conditions.{Condition.Increment, Condition.Processes, WordsFit, Asks, of_stream, AnsweredBy}

-- ---- Accept before the request

-- some line has the operation word 6
abbrev pub HasSix : Description → Type 0
HasSix d = (t : Line) × In t (lines_of d) × (t.operation ≡ 6)

abbrev pub has_six : Description → Bool
has_six d = any (λ t. eqb t.operation 6) (lines_of d)

-- what comes before 4, and 4 as it is now; what came and comes after it
abbrev pub tests_before : Limits → List ℕ → List Test
tests_before l s = (33 if refused33 l) ∷ byte_tests s

abbrev pub tests_after : Limits → List ℕ → List Test
tests_after l s = let d = description_of s in nest_tests l d.nest ++ tests_from l d 0 (streams_of d)

-- 4, as it was, with "operations 0 to 5", was given to an operation word of 6 too (`former-four` below)
abbrev pub former_tests : Limits → List ℕ → List Test
former_tests l s = tests_before l s ++ ((4 if has_six (description_of s)) ∷ tests_after l s)

abbrev pub former_accept : Limits → List ℕ → Acceptance
former_accept l s = answer_of s (refusal (former_tests l s))

-- ---- what was refused by 4 for a 6 alone

-- the conditions of the numbers up to 4, and of those after it
abbrev pub conditions_before : List Condition
conditions_before = Board ∷ Begins ∷ Sizes-fit ∷ Long ∷ Words-fit ∷ []

abbrev pub conditions_after : ℕ → List Condition
conditions_after streams = Bounds-fit ∷ Instances ∷ Place-rank ∷ Increment ∷ Processes ∷ each of_stream (numbers streams)

-- it meets 1 to 4 as they are now, and has an operation word of 6
pub record WasFour (l : Limits) (s : List ℕ) : Type 0 where
  pub held : (c : Condition) → In c conditions_before → Asks l s c
  pub six : HasSix (description_of s)

-- ---- two descriptions that differ at most in the operations of their lines, all from 0 to 6

pub record OtherOperations (s t : List ℕ) : Type 0 where
  pub long : length s ≡ length t
  -- every word that is no line's operation
  pub same : (k : ℕ) → ((i : ℕ) → i < (sizes_of s).lines → k ≡ line_at (sizes_of s) i → ⊥) → bits_at s k ≡ bits_at t k
  pub operations : (i : ℕ) → i < (sizes_of s).lines
      → Between (pos 0) (pos 6) (word_at s (line_at (sizes_of s) i)) × Between (pos 0) (pos 6) (word_at t (line_at (sizes_of s) i))

-- ---- REQUEST 2.1, for every description and all limits

pub record Fixed (l : Limits) (s : List ℕ) : Type 0 where
  -- "an operation word of 6 no longer meets refusal 4": Accept answers as it does to any other operation
  pub any_operation : (t : List ℕ) → OtherOperations s t → accept l s ≡ accept l t
  -- the former 4: words that fit have no operation 6 exactly if operations are "0 to 5"
  pub former_four : WordsFit s (sizes_of s)
      → (HasSix (description_of s) → ⊥) ↔ ((i : ℕ) → i < (sizes_of s).lines → Between (pos 0) (pos 5) (word_at s (line_at (sizes_of s) i)))
  -- what met it for a 6 alone is answered by what comes after, all else as before
  pub was_four : WasFour l s → former_accept l s ≡ Refused 4
  pub answered_after : WasFour l s → AnsweredBy l s (conditions_after (sizes_of s).streams)
  pub as_before : (WasFour l s → ⊥) → accept l s ≡ former_accept l s
  -- "the plain run and the network both have it"
  pub runs : RunsLoops l s

abbrev pub FixedPoint : Type 0
FixedPoint = (l : Limits) (s : List ℕ) → Fixed l s
