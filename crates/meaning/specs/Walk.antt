-- Request 2.4, "walk by process": the order in which the check for untouched elements goes through the instances, what a whole walk comes
-- to, and that Accept answers as before (`walk-by-process` of requests).
use Rattle.std.specs.Prelude.{◌≡◌, Bool, not, ℕ, suc, ◌≤◌, take, pos, ◌<ℤ◌}
use mathlib.Core.List.{List, [], ◌∷◌, ◌++◌, map, Memᴰ as In, Permᴰ as Rearranged}
use Rattle.integers.specs.Vectors.{shift3}
use Rattle.integers.specs.declared.V3.{V3}
use Rattle.integers.specs.declared.V2.{V2}
use Rattle.meaning.specs.declared.Limits.{Limits}
use Rattle.meaning.specs.declared.Nest.{Nest}
use Rattle.meaning.specs.declared.Stream.{Stream}
use Rattle.meaning.specs.declared.Description.{Description}
use Rattle.meaning.specs.Lists.{any, each, numbers}
use Rattle.meaning.specs.Tests.{Test, ◌if◌, refusal}
use Rattle.meaning.specs.Loops.{instances, step_of, place_of, increment}
use Rattle.meaning.specs.Space.{row_index, space, processes, count, first, last}
use Rattle.meaning.specs.Sorted.{Sorted, Distinct}
use Rattle.meaning.specs.Points.{Within}
use Rattle.meaning.specs.Streams.{elements, touches}
use Rattle.meaning.specs.Description.{description_of, streams_of, written}
use Rattle.meaning.specs.Accept.{refused33, stream_tests, nest_tests, byte_tests, answer_of, accept}
use Rattle.meaning.specs.Answers.{accept_number, Acceptance}

-- ---- the walk

-- "along each process's own line from first": as many instances as it has, an increment apart (that they end with last, `to_last` below
-- says)
abbrev pub own_line : Nest → V2 → List V3
own_line n y = map (λ k. shift3 (first n y) (pos k) (increment n)) (numbers (count n y))

-- walk: the instances "process by process in row order, along each process's own line from first to last"
unfoldable pub walk : Nest → List V3
walk n = each (own_line n) (processes n)

-- ---- what a whole walk comes to

-- the number of an instance's process
abbrev pub process_number : Nest → V3 → ℕ
process_number n x = row_index (space n) (place_of n x)

-- x comes before x' in "that order": process numbers never fall, and within a process steps rise
pub record ComesBefore (n : Nest) (x x' : V3) : Type 0 where
  pub never_fall : process_number n x ≤ process_number n x'
  pub rise : process_number n x ≡ process_number n x' → step_of n x <ℤ step_of n x'

-- "a whole walk comes to every instance exactly once and to nothing else, in that order"
pub record WholeWalk (n : Nest) : Type 0 where
  pub every : (x : V3) → Within n x → In x (walk n)
  pub once : Distinct (walk n)
  pub nothing_else : (x : V3) → In x (walk n) → Within n x
  pub in_order : Sorted (ComesBefore n) (walk n)
  -- "from first to last"
  pub to_last : (y : V2) (k : ℕ) → count n y ≡ suc k → shift3 (first n y) (pos k) (increment n) ≡ last n y
  -- so it is a rearrangement of the instances in the written order
  pub rearranged : Rearranged (walk n) (instances n)

-- ---- the descriptions that have a walk

-- the number of the first of the refusals 33 and 1 to 10 that applies, those before any stream is looked at; 0 if none does, and then there
-- is a walk
abbrev pub walk_tests : Limits → List ℕ → List Test
walk_tests l s = (33 if refused33 l) ∷ byte_tests s ++ nest_tests l (description_of s).nest

unfoldable pub walk_refusal : Limits → List ℕ → ℕ
walk_refusal l s = refusal (walk_tests l s)

-- ---- Accept with the check along the walk

-- 17, as the check goes: "some element of the box is touched by no instance" of the walk
abbrev pub untouched_on_walk : Nest → Stream → Bool
untouched_on_walk n s = any (λ e. not (any (λ x. touches s x e) (walk n))) (elements n s)

-- 11 to 16 as they are, and 17 so
abbrev pub walking_tests : Limits → Nest → Bool → Stream → List Test
walking_tests l n w s = take 6 (stream_tests l n w s) ++ ((17 if untouched_on_walk n s) ∷ [])

-- of the streams from number i on
unfoldable pub walking_from : Limits → Description → ℕ → List Stream → List Test
walking_from l d i [] = []
walking_from l d i (s ∷ ss) = walking_tests l d.nest (written d i) s ++ walking_from l d (suc i) ss

abbrev pub walking_accept : Limits → List ℕ → Acceptance
walking_accept l s =
    let d = description_of s in answer_of s (refusal (walk_tests l s ++ walking_from l d 0 (streams_of d)))

-- ---- REQUEST 2.4, for every description and all limits

pub record WalkByProcess (l : Limits) (s : List ℕ) : Type 0 where
  -- what Accept accepts, or refuses by 11 to 17, has a walk, and the check goes along it
  pub whole : walk_refusal l s ≡ 0 → WholeWalk (description_of s).nest
  pub accepted : accept_number (accept l s) ≡ 0 → walk_refusal l s ≡ 0
  pub by_stream_lem : 11 ≤ accept_number (accept l s) → accept_number (accept l s) ≤ 17 → walk_refusal l s ≡ 0
  -- all else has Accept's number
  pub refused : (walk_refusal l s ≡ 0 → ⊥) → walk_refusal l s ≡ accept_number (accept l s)
  -- "Accept answers every description as before": with the check along the walk as with any
  pub as_before : walking_accept l s ≡ accept l s
