-- Demand 1 beside the contracts, which say of each call what it leaves: what all calls have in common, for any bytes, lists and states
-- (`demand-one` of guarantee). Numbers and values of answers are those of Answers.
use Rattle.std.specs.Prelude.{◌≡◌, cond, List, [], ◌∷◌, ℕ, ◌*◌, length, drop}
use Rattle.meaning.specs.declared.Limits.{Limits}
use Rattle.meaning.specs.declared.Sizes.{Sizes}
use Rattle.meaning.specs.declared.Row.{Row}
use Rattle.meaning.specs.Lists.{filter, position, numbers}
use Rattle.meaning.specs.Loops.{instances, divisor}
use Rattle.meaning.specs.Space.{processes}
use Rattle.meaning.specs.Tests.{refusal}
use Rattle.meaning.specs.Description.{words_of, description_of, streams_of}
use Rattle.meaning.specs.Accept.{refusal_of, accept, Accepts, pipe_count, total_steps, stream_divisor}
use Rattle.meaning.specs.Array.{array_of, process_count}
use Rattle.meaning.specs.Rules.{Memory, any_ready, run_steps}
use Rattle.meaning.specs.Answers.{accept_number, accept_values, answer_number, ran_number, ran_values, ready_number, ready_values}
use Rattle.meaning.specs.Answers.{made_number, made_values}
use Rattle.meaning.specs.Calls.{length_of, state_length, refused_by, memory_tests, table_tests, start_tests, step_tests, ready_tests}
use Rattle.meaning.specs.Calls.{window_tests, result_tests, plain_tests, step_of, can_move, table, start, step, run, ready_call, window}
use Rattle.meaning.specs.Calls.{result, plain_run}
use Rattle.meaning.specs.Generator.{fill_tests, fill, make_tests, make}
use Rattle.meaning.specs.StepVectors.{vector_tests, step_vectors}

-- ---- "a declined call answers its number": that of the first test that applies, 0 if none does; "where several apply, the first in the
-- order listed"

pub record Numbers (l : Limits) (s : List ℕ) : Type 0 where
  pub accept : accept_number (accept l s) ≡ refusal_of l s
  pub table : (rows : List Row) → answer_number (table l s rows).answer ≡ refused_by l s (table_tests l s rows)
  pub start : (values : List ℕ) (M : Memory) → answer_number (start l s values M).answer ≡ refused_by l s (start_tests l s values M)
  pub step : (kind number stream : ℕ) (M : Memory)
      → answer_number (step l s kind number stream M).answer ≡ refused_by l s (step_tests l s (step_of l s kind number stream) M)
  pub run : (n : ℕ) (M : Memory) → ran_number (run l s n M).answer ≡ refused_by l s (memory_tests (description_of s) M)
  pub ready : (words : List ℕ) (M : Memory) → ready_number (ready_call l s words M).answer ≡ refused_by l s (ready_tests l s words M)
  pub window : (pipe side : ℕ) (waiting received : List ℕ)
      → (window l s pipe side waiting received).refusal ≡ refused_by l s (window_tests l s pipe side waiting received)
  pub result : (output : List ℕ) (M : Memory) → answer_number (result l s output M).answer ≡ refused_by l s (result_tests l s output M)
  pub plain : (values output : List ℕ) → answer_number (plain_run l s values output).answer ≡ refused_by l s (plain_tests l s values output)
  pub fill : (seed n : ℕ) (list : List ℕ) → answer_number (fill seed n list).answer ≡ refusal (fill_tests seed n list)
  pub make : (seed : ℕ) (z : Sizes) (out : List ℕ) → made_number (make seed z out).answer ≡ refusal (make_tests seed z out)
  pub vectors : (k : ℕ) (lent : List ℕ) → answer_number (step_vectors l s k lent).answer ≡ refusal (vector_tests l s k)

-- ---- the values of an answer that is no refusal

pub record Values (l : Limits) (s : List ℕ) : Type 0 where
  -- "P, instances, E, pipes, state words and total steps", then the divisors of place and of the six streams
  pub accept : Accepts l s
      → let d = description_of s in
      let n = d.nest in
      accept_values (accept l s)
      ≡ length (processes n) ∷ length (instances n) ∷ length_of d ∷ pipe_count n (streams_of d) ∷ state_length d ∷ total_steps n
      (streams_of d)
      ∷ divisor n.place ∷ stream_divisor d 0 ∷ stream_divisor d 1 ∷ stream_divisor d 2 ∷ stream_divisor d 3 ∷ stream_divisor d 4
      ∷ stream_divisor d 5 ∷ []
  -- "steps done and whether any is ready"
  pub run : (n : ℕ) (M : Memory) → ran_number (run l s n M).answer ≡ 0
      → let A = array_of (description_of s) in
      ran_values (run l s n M).answer ≡ length (run_steps A n M) ∷ cond (any_ready A (run l s n M).memory.state) 1 0 ∷ []
  -- "how many and the lowest (P when none)"
  pub ready : (words : List ℕ) (M : Memory) → ready_number (ready_call l s words M).answer ≡ 0
      → let ps = numbers (process_count (array_of (description_of s))) in
      ready_values (ready_call l s words M).answer ≡ length (filter (can_move l s M.state) ps) ∷ position (can_move l s M.state) ps ∷ []
  -- the number of bytes
  pub make : (seed : ℕ) (z : Sizes) (out : List ℕ) → made_number (make seed z out).answer ≡ 0
      → made_values (make seed z out).answer ≡ 4 * words_of z ∷ []

-- ---- "a declined call changes no lent word", and Window's part is empty

abbrev pub Declined : ℕ → Type 0
Declined k = k ≡ 0 → ⊥

pub record NothingChanged (l : Limits) (s : List ℕ) : Type 0 where
  pub table : (rows : List Row) → Declined (answer_number (table l s rows).answer) → (table l s rows).rows ≡ rows
  pub start : (values : List ℕ) (M : Memory) → Declined (answer_number (start l s values M).answer) → (start l s values M).memory ≡ M
  pub step : (kind number stream : ℕ) (M : Memory)
      → Declined (answer_number (step l s kind number stream M).answer) → (step l s kind number stream M).memory ≡ M
  pub run : (n : ℕ) (M : Memory) → Declined (ran_number (run l s n M).answer) → (run l s n M).memory ≡ M
  pub ready : (words : List ℕ) (M : Memory) → Declined (ready_number (ready_call l s words M).answer)
      → (ready_call l s words M).words ≡ words
  pub window : (pipe side : ℕ) (waiting received : List ℕ)
      → Declined (window l s pipe side waiting received).refusal → (window l s pipe side waiting received).part ≡ []
  pub result : (output : List ℕ) (M : Memory) → Declined (answer_number (result l s output M).answer)
      → (result l s output M).output ≡ output
  pub plain : (values output : List ℕ) → Declined (answer_number (plain_run l s values output).answer)
      → (plain_run l s values output).output ≡ output
  pub fill : (seed n : ℕ) (list : List ℕ) → Declined (answer_number (fill seed n list).answer) → (fill seed n list).list ≡ list
  pub make : (seed : ℕ) (z : Sizes) (out : List ℕ) → Declined (made_number (make seed z out).answer) → (make seed z out).output ≡ out
  pub vectors : (k : ℕ) (lent : List ℕ) → Declined (answer_number (step_vectors l s k lent).answer)
      → (step_vectors l s k lent).counts ≡ lent

-- ---- "words beyond the named length never change": rows past P, words past those that Accept counts, ready words past the 16th, places
-- past the n-th, bytes past a description. All other lists are lent as long as they are used, or the call is declined

pub record BeyondKept (l : Limits) (s : List ℕ) : Type 0 where
  pub table : (rows : List Row)
      → drop (length (processes (description_of s).nest)) (table l s rows).rows ≡ drop (length (processes (description_of s).nest)) rows
  pub start : (values : List ℕ) (M : Memory)
      → drop (state_length (description_of s)) (start l s values M).memory.state ≡ drop (state_length (description_of s)) M.state
  pub step : (kind number stream : ℕ) (M : Memory)
      → drop (state_length (description_of s)) (step l s kind number stream M).memory.state
      ≡ drop (state_length (description_of s)) M.state
  pub run : (n : ℕ) (M : Memory)
      → drop (state_length (description_of s)) (run l s n M).memory.state ≡ drop (state_length (description_of s)) M.state
  pub ready : (words : List ℕ) (M : Memory) → drop 16 (ready_call l s words M).words ≡ drop 16 words
  pub fill : (seed n : ℕ) (list : List ℕ) → drop n (fill seed n list).list ≡ drop n list
  pub make : (seed : ℕ) (z : Sizes) (out : List ℕ) → drop (4 * words_of z) (make seed z out).output ≡ drop (4 * words_of z) out

-- DEMAND 1, for every description, refused ones too
pub record Demand1 (l : Limits) (s : List ℕ) : Type 0 where
  pub numbers : Numbers l s
  pub values : Values l s
  pub unchanged : NothingChanged l s
  pub beyond : BeyondKept l s

abbrev pub DemandOne : Type 0
DemandOne = (l : Limits) (s : List ℕ) → Demand1 l s
