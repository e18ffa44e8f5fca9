-- Document 01, "Operations and what they decline": each call, for any bytes, lists and states, of any lengths and contents: the answer, and
-- every lent list afterwards. "A declined call answers its number and changes no lent word"; "words beyond the named length never change".
use Rattle.std.specs.Prelude.{Bool, true, false, not, cond, ◌&&◌, ◌||◌, List, [], ◌∷◌, ◌++◌, map, ℕ, ◌+◌, ◌*◌, ◌-◌, ◌^◌, eqb, ltb, length}
use Rattle.std.specs.Prelude.{get_or, drop, replicate}
use Rattle.integers.specs.declared.V2.{V2}
use Rattle.meaning.specs.declared.Limits.{Limits}
use Rattle.meaning.specs.declared.Stream.{Stream}
use Rattle.meaning.specs.declared.Description.{Description}
use Rattle.meaning.specs.declared.Row.{Row}
use Rattle.meaning.specs.Answers.{Answer, Done, Ran, Ready, ReadyAnswer, Refused, RunAnswer}
use Rattle.meaning.specs.Lists.{any, every, filter, position, total, numbers}
use Rattle.meaning.specs.Tests.{Test, ◌if◌, refusal}
use Rattle.meaning.specs.Space.{processes, count, first, last, computing}
use Rattle.meaning.specs.Pipes.{drain}
use Rattle.meaning.specs.Description.{description_of, streams_of}
use Rattle.meaning.specs.Body.{element_count, gather, final_values}
use Rattle.meaning.specs.Accept.{refusal_of, state_words}
use Rattle.meaning.specs.Array.{Array, array_of, row_soak, process_count, stream_count, pipe_number, elements_on, pipe_order, part_of}
use Rattle.meaning.specs.Array.{on_pipe}
use Rattle.meaning.specs.State.{Received, read}
use Rattle.meaning.specs.declared.Step.{Step}
use Rattle.meaning.specs.declared.Step.TheVariants.{Send, Take, Fire, Give, Receive}
use Rattle.meaning.specs.Rules.{sound, Memory, ready, apply, steps_of, any_ready, Found, at}
use Rattle.meaning.specs.Rules.{nothing, run_steps, apply_all}

-- ---- what the calls test

-- E and the words of a state
abbrev pub length_of : Description → ℕ
length_of d = element_count d.nest (streams_of d)

abbrev pub state_length : Description → ℕ
state_length d = state_words d.nest (streams_of d)

-- "all others decline by 1 to 17 first"
abbrev pub or_else : ℕ → ℕ → ℕ
or_else a b = cond (eqb a 0) b a

-- "20 and 26 on the lists"
abbrev pub list_tests : Description → List ℕ → List ℕ → List Test
list_tests d waiting received = (20 if not (eqb (length waiting) (length_of d))) ∷ (26 if not (eqb (length received) (length_of d))) ∷ []

-- "21: state short. 22: state not sound"
abbrev pub state_tests : Description → List ℕ → List Test
state_tests d st = (21 if ltb (length st) (state_length d)) ∷ (22 if not (sound (array_of d) st)) ∷ []

abbrev pub memory_tests : Description → Memory → List Test
memory_tests d M = list_tests d M.waiting M.received ++ state_tests d M.state

abbrev pub answer : ℕ → Answer
answer n = cond (eqb n 0) Done (Refused n)

module _ (l : Limits) (s : List ℕ) where
  -- the description, the array, and the refusal of its bytes or else of a call's own tests
  abbrev pub d : Description
  d = description_of s

  abbrev pub A : Array
  A = array_of d

  abbrev pub refused_by : List Test → ℕ
  refused_by ts = or_else (refusal_of l s) (refusal ts)

  -- ---- TABLE

  -- the words of the streams in use, then zeros
  abbrev pub by_stream : (Stream → ℕ) → List ℕ
  by_stream f = map f (streams_of d) ++ replicate (6 - length (streams_of d)) 0

  -- "point, count, first, last, and by stream soak and drain; a null row has zeros after its point and the pipe's length (0 without a pipe)
  -- as soak"
  abbrev pub row_of : V2 → Row
  row_of y =
      record {
        point = y;
        count = count d.nest y;
        first = first d.nest y;
        last = last d.nest y;
        soak = by_stream (λ t. row_soak d.nest t y);
        drain = by_stream (λ t. cond (computing d.nest y) (drain d.nest t y) 0);
      }

  pub record Tabled : Type 0 where
    pub answer : Answer
    pub rows : List Row

  -- "18: fewer rows than P"
  abbrev pub table_tests : List Row → List Test
  table_tests rows = (18 if ltb (length rows) (length (processes d.nest))) ∷ []

  -- "one row for each process, in row order"
  unfoldable pub table : List Row → Tabled
  table rows =
      let n = refused_by (table_tests rows) in
      record {
        answer = answer n;
        rows = cond (eqb n 0) (map row_of (processes d.nest) ++ drop (length (processes d.nest)) rows) rows;
      }

  -- ---- START

  -- an answer, and the memory afterwards
  pub record Left (B : Type 0) : Type 0 where
    pub answer : B
    pub memory : Memory

  -- "puts values, in element order, into the waiting list and clears state and received"
  abbrev pub started : List ℕ → Memory → Memory
  started values M =
      record {
        waiting = gather values (pipe_order A);
        received = replicate (length_of d) 0;
        state = replicate (state_length d) 0 ++ drop (state_length d) M.state;
      }

  -- "20: values or waiting list not E long. 26: received not E long. 21: state short"
  abbrev pub start_tests : List ℕ → Memory → List Test
  start_tests values M =
      (20 if (not (eqb (length values) (length_of d)) || not (eqb (length M.waiting) (length_of d))))
      ∷ (26 if not (eqb (length M.received) (length_of d)))
      ∷ (21 if ltb (length M.state) (state_length d))
      ∷ []

  unfoldable pub start : List ℕ → Memory → Left Answer
  start values M =
      let n = refused_by (start_tests values M) in
      record { answer = answer n; memory = cond (eqb n 0) (started values M) M }

  -- ---- STEP

  -- "a kind (0 send, 1 take, 2 fire, 3 give, 4 receive), a process or pipe number and a stream (unused by 0, 2 and 4, and then ignored)"
  abbrev pub if_there : Bool → Step → Found
  if_there b a = cond b (at a) nothing

  abbrev pub has_port : ℕ → ℕ → Bool
  has_port p t = ltb p (process_count A) && ltb t (stream_count A) && on_pipe A p t

  abbrev pub step_of : ℕ → ℕ → ℕ → Found
  step_of kind number stream =
      cond (eqb kind 0) (if_there (ltb number (pipe_number A)) (Send number))
      (cond (eqb kind 1) (if_there (has_port number stream) (Take number stream))
      (cond (eqb kind 2) (if_there (ltb number (process_count A)) (Fire number))
      (cond (eqb kind 3) (if_there (has_port number stream) (Give number stream))
      (cond (eqb kind 4) (if_there (ltb number (pipe_number A)) (Receive number))
      nothing))))

  abbrev pub is_nothing : Found → Bool
  is_nothing nothing = true
  is_nothing (at a) = false

  abbrev pub ready_at : List ℕ → Found → Bool
  ready_at st nothing = false
  ready_at st (at a) = ready A st a

  abbrev pub applied : Memory → Found → Memory
  applied M nothing = M
  applied M (at a) = apply A M a

  -- "23: no such kind, process, pipe or stream, or the process is on no pipe of that stream. 24: not ready"
  abbrev pub step_tests : Found → Memory → List Test
  step_tests f M = memory_tests d M ++ ((23 if is_nothing f) ∷ (24 if not (ready_at M.state f)) ∷ [])

  unfoldable pub step : ℕ → ℕ → ℕ → Memory → Left Answer
  step kind number stream M =
      let f = step_of kind number stream in
      let n = refused_by (step_tests f M) in
      record { answer = answer n; memory = cond (eqb n 0) (applied M f) M }

  -- ---- RUN

  -- "does a given number of steps, fewer only when none is ready, always the lowest ready; it answers steps done and whether any is ready"
  unfoldable pub run : ℕ → Memory → Left RunAnswer
  run steps M =
      let n = refused_by (memory_tests d M) in
      let done = run_steps A steps M in
      let M' = apply_all A M done in
      record {
        answer = cond (eqb n 0) (Ran (length done) (any_ready A M'.state)) (Refused n);
        memory = cond (eqb n 0) M' M;
      }

  -- ---- READY

  -- a process "can take, fire or give"
  abbrev pub can_move : List ℕ → ℕ → Bool
  can_move st p = any (ready A st) (steps_of A p)

  -- "process p is bit p modulo 64, lowest bit 0, of word p divided by 64; all other bits are cleared"
  abbrev pub ready_word : List ℕ → ℕ → ℕ
  ready_word st k = total (λ b. cond (ltb (64 * k + b) (process_count A) && can_move st (64 * k + b)) (2 ^ b) 0) (numbers 64)

  pub record Readied : Type 0 where
    pub answer : ReadyAnswer
    pub words : List ℕ

  -- "27: fewer than 16 words"
  abbrev pub ready_tests : List ℕ → Memory → List Test
  ready_tests words M = memory_tests d M ++ ((27 if ltb (length words) 16) ∷ [])

  -- "answers how many and the lowest (P when none)"
  unfoldable pub ready_call : List ℕ → Memory → Readied
  ready_call words M =
      let n = refused_by (ready_tests words M) in
      let ps = numbers (process_count A) in
      record {
        answer =
            cond (eqb n 0) (Ready (length (filter (can_move M.state) ps)) (position (can_move M.state) ps))
            (Refused n);
        words = cond (eqb n 0) (map (ready_word M.state) (numbers 16) ++ drop 16 words) words;
      }

  -- ---- WINDOW

  -- the refusal's number, 0 if there is none, and the part
  pub record Seen : Type 0 where
    pub refusal : ℕ
    pub part : List ℕ

  -- "19: no such pipe, or a side other than 0 (waiting) or 1 (received)"
  abbrev pub window_tests : ℕ → ℕ → List ℕ → List ℕ → List Test
  window_tests pipe side waiting received =
      list_tests d waiting received ++ ((19 if (not (ltb pipe (pipe_number A)) || not (ltb side 2))) ∷ [])

  -- "that pipe's part of the waiting values or of the received ones. The part is empty after every refusal"
  unfoldable pub window : ℕ → ℕ → List ℕ → List ℕ → Seen
  window pipe side waiting received =
      let n = refused_by (window_tests pipe side waiting received) in
      record {
        refusal = n;
        part = cond (eqb n 0) (part_of A pipe (cond (eqb side 0) waiting received)) [];
      }

  -- ---- RESULT

  -- a pipe is wholly received; "all values are out when every k is its pipe's number of elements"
  abbrev pub is_out : List ℕ → ℕ → Bool
  is_out st q = eqb (read A st (Received q)) (elements_on A q)

  abbrev pub all_out : List ℕ → Bool
  all_out st = every (is_out st) (numbers (pipe_number A))

  -- "received values in element order"
  abbrev pub in_element_order : List ℕ → List ℕ
  in_element_order out = map (λ e. get_or out (position (eqb e) (pipe_order A)) 0) (numbers (length_of d))

  pub record Written : Type 0 where
    pub answer : Answer
    pub output : List ℕ

  -- "25: some pipe not wholly received. 28: output not E long"
  abbrev pub result_tests : List ℕ → Memory → List Test
  result_tests output M = memory_tests d M ++ ((25 if not (all_out M.state)) ∷ (28 if not (eqb (length output) (length_of d))) ∷ [])

  unfoldable pub result : List ℕ → Memory → Written
  result output M =
      let n = refused_by (result_tests output M) in
      record { answer = answer n; output = cond (eqb n 0) (in_element_order M.received) output }

  -- ---- PLAIN RUN

  -- "20: values not E long. 28"
  abbrev pub plain_tests : List ℕ → List ℕ → List Test
  plain_tests values output = (20 if not (eqb (length values) (length_of d))) ∷ (28 if not (eqb (length output) (length_of d))) ∷ []

  -- "writes final values in element order"
  unfoldable pub plain_run : List ℕ → List ℕ → Written
  plain_run values output =
      let n = refused_by (plain_tests values output) in
      record { answer = answer n; output = cond (eqb n 0) (final_values d values) output }
