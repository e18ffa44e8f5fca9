-- Request 2.2, "longer strides": what Accept answers without refusal 9 beside what it answered with it, and that first and last are the
-- outermost points of the process's own line in the bounds, on a face or not (`longer-strides` of requests).
use Rattle.std.specs.Prelude.{◌≡◌, ◌↔◌, Bool, not, ◌&&◌, ℕ, ◌≤◌, ◌<◌, length, get_or, ℤ, pos, negsuc}
use mathlib.Core.List.{List, [], ◌∷◌, ◌++◌, Memᴰ as In}
use Rattle.integers.specs.Vectors.{zero2, shift3}
use Rattle.integers.specs.declared.V3.{V3}
use Rattle.integers.specs.declared.V2.{V2}
use Rattle.meaning.specs.declared.Limits.{Limits}
use Rattle.meaning.specs.declared.Nest.{Nest}
use Rattle.meaning.specs.declared.Row.{Row}
use Rattle.meaning.specs.Answers.{Acceptance, Refused}
use Rattle.meaning.specs.Lists.{each, numbers}
use Rattle.meaning.specs.Tests.{Test, ◌if◌, refusal}
use Rattle.meaning.specs.Loops.{place_of, increment}
use Rattle.meaning.specs.Space.{processes}
use Rattle.meaning.specs.Points.{Within, At, IsLine}
use Rattle.meaning.specs.Description.{sizes_of, description_of, streams_of, refused5}
use Rattle.meaning.specs.Accept.{small, refused33, refused6, refused7, refused8, refused10, byte_tests, tests_from, answer_of, accept}
use Rattle.meaning.specs.Accept.{Accepts}
use Rattle.meaning.specs.Calls.{table}
use Rattle.meaning.specs.Conditions.{Small, Condition, Condition.Board, Condition.Begins, Condition.Sizes-fit, Condition.Long}
use Rattle.meaning.specs.Conditions.{Condition.Words-fit, Condition.Bounds-fit, Condition.Instances, Condition.Place-rank}
use Rattle.meaning.specs.Conditions.{Condition.Increment, Condition.Processes, Asks, of_stream, AnsweredBy}
use Rattle.meaning.specs.Demand2.{row_at}

-- ---- Accept before the request

-- 9, as it was: "an increment component outside −1 to 1"
abbrev pub former_nine : Nest → Bool
former_nine n = not (small (increment n).x && small (increment n).y && small (increment n).z)

-- what came before it, and what came and comes after it
abbrev pub tests_before : Limits → List ℕ → List Test
tests_before l s =
    let n = (description_of s).nest in
    (33 if refused33 l) ∷ byte_tests s ++ ((5 if refused5 n) ∷ (6 if refused6 l n) ∷ (7 if refused7 n) ∷ (8 if refused8 n) ∷ [])

abbrev pub tests_after : Limits → List ℕ → List Test
tests_after l s = let d = description_of s in (10 if refused10 l d.nest) ∷ tests_from l d 0 (streams_of d)

abbrev pub former_tests : Limits → List ℕ → List Test
former_tests l s = tests_before l s ++ ((9 if former_nine (description_of s).nest) ∷ tests_after l s)

abbrev pub former_accept : Limits → List ℕ → Acceptance
former_accept l s = answer_of s (refusal (former_tests l s))

-- ---- what was refused by 9

-- the increment has a component outside −1 to 1
pub record LongStride (n : Nest) : Type 0 where
  pub increment : V3
  pub is_line : IsLine n n.place increment
  pub long : Small increment.x × Small increment.y × Small increment.z → ⊥

-- the conditions of the numbers before 9, and of those after it
abbrev pub conditions_before : List Condition
conditions_before = Board ∷ Begins ∷ Sizes-fit ∷ Long ∷ Words-fit ∷ Bounds-fit ∷ Instances ∷ Place-rank ∷ Increment ∷ []

abbrev pub conditions_after : ℕ → List Condition
conditions_after streams = Processes ∷ each of_stream (numbers streams)

pub record WasNine (l : Limits) (s : List ℕ) : Type 0 where
  pub held : (c : Condition) → In c conditions_before → Asks l s c
  pub stride : LongStride (description_of s).nest

-- ---- first and last of a row of Table

-- of process y: "first and last are the outermost whole points of the process's own line that lie inside the box, on a face or not"
pub record Outermost (n : Nest) (y : V2) (r : Row) : Type 0 where
  -- "the process's own line": the points that place sends to it lie whole increments from first
  pub own_line : (x : V3) → (place_of n x ≡ y) ↔ ((k : ℤ) × (x ≡ shift3 r.first k (increment n)))
  pub first_inside : Within n r.first
  pub last_inside : Within n r.last
  pub outside_before : Within n (shift3 r.first (negsuc 0) (increment n)) → ⊥
  pub outside_after : Within n (shift3 r.last (pos 1) (increment n)) → ⊥
  -- its instances are first + k · increment with 0 ≤ k < count, and nothing else is
  pub instances : (x : V3) → At n n.place y x ↔ ((k : ℕ) × (k < r.count) × (x ≡ shift3 r.first (pos k) (increment n)))

-- TABLE, lent some rows
abbrev pub TableOutermost : Limits → List ℕ → List Row → Type 0
TableOutermost l s lent =
    let n = (description_of s).nest in
    let rows = (table l s lent).rows in
    (p : ℕ) → p < length (processes n) → 0 < (row_at rows p).count → Outermost n (get_or (processes n) p zero2) (row_at rows p)

-- ---- REQUEST 2.2, for every description and all limits

pub record Strides (l : Limits) (s : List ℕ) : Type 0 where
  -- "refusal 9 is now never given"
  pub never_nine : accept l s ≡ Refused 9 → ⊥
  -- what was not refused by 9 is answered as before
  pub as_before : (former_accept l s ≡ Refused 9 → ⊥) → accept l s ≡ former_accept l s
  -- what was refused by it met 1 to 8 and has a longer stride, and is answered by what comes after
  pub was_nine : (former_accept l s ≡ Refused 9) ↔ WasNine l s
  pub answered_after : WasNine l s → AnsweredBy l s (conditions_after (sizes_of s).streams)
  -- first and last are outermost
  pub outermost : Accepts l s → (lent : List Row) → length (processes (description_of s).nest) ≤ length lent
      → TableOutermost l s lent

abbrev pub LongerStrides : Type 0
LongerStrides = (l : Limits) (s : List ℕ) → Strides l s
