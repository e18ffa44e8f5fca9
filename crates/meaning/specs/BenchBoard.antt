-- Request 2.9, "the bench board": what a board word changes in the calls, and what it leaves (`bench-board` of requests). What holds of
-- lists of calls that are told different boards is part of demand 3 (`Demand3.told`).
use Rattle.std.specs.Prelude.{◌≡◌, ◌↔◌, List, ◌++◌, ℕ, ◌≤◌, ◌<◌, length}
use Rattle.meaning.specs.declared.Limits.{Limits}
use Rattle.meaning.specs.Answers.{Acceptance, Refused}
use Rattle.meaning.specs.Limits.{limits_of, gauge_limits, bench_limits, UpTo}
use Rattle.meaning.specs.Tests.{refusal}
use Rattle.meaning.specs.Loops.{instances}
use Rattle.meaning.specs.Space.{processes}
use Rattle.meaning.specs.Description.{description_of, streams_of}
use Rattle.meaning.specs.Accept.{byte_tests, nest_tests, tests_from, answer_of, accept, Accepts}
use Rattle.meaning.specs.Conditions.{Known}
use Rattle.meaning.specs.Alike.{AnsweredAlike, DeclinedBy}

-- Accept before the request, told no board
abbrev pub former_accept : List ℕ → Acceptance
former_accept s =
    let d = description_of s in
    answer_of s (refusal (byte_tests s ++ (nest_tests gauge_limits d.nest ++ tests_from gauge_limits d 0 (streams_of d))))

-- "holds 256 processes and 1,024 instances"
pub record OnBench (s : List ℕ) : Type 0 where
  pub instances : length (instances (description_of s).nest) ≤ 1024
  pub processes : length (processes (description_of s).nest) ≤ 256

-- ---- REQUEST 2.9, for every description

pub record BenchBoard (s : List ℕ) : Type 0 where
  -- "33 for another board word, before 1": by every call, whatever the bytes, and for no other word
  pub another : (board : ℕ) → 1 < board → DeclinedBy (limits_of board) s 33
  pub no_other : (board : ℕ) → accept (limits_of board) s ≡ Refused 33 → 1 < board
  -- "the gauges keep 1,024 and 4,096"
  pub gauge_as_before : accept gauge_limits s ≡ former_accept s
  -- "6 and 10 use that board's pair": the bench accepts what the gauge accepts and the bench can hold
  pub holds : Accepts bench_limits s ↔ (Accepts gauge_limits s × OnBench s)
  -- "what the bench accepts, the gauge accepts with the same answer", and so every call answers and leaves the same
  pub same : Accepts bench_limits s → AnsweredAlike bench_limits gauge_limits s
  -- and so for any limits up to those of a board
  pub any_pair : (l k : Limits) → UpTo l k → Known k → Accepts l s → AnsweredAlike l k s

abbrev pub TheBenchBoard : Type 0
TheBenchBoard = (s : List ℕ) → BenchBoard s
