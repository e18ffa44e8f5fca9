-- Cases of single calls and steps beside document 01's, because they hold the rules: whole tables, direction −1, a stride, a link's places,
-- a state that no start leads to, three loops, null processes, guards, operations, hops, declined calls. They are computed in a moment, so
-- that a wrong rule is found here, before any run. The words are those of the second implementation.
use Rattle.std.specs.Prelude.{◌≡◌, refl, List, [], ◌∷◌, ◌++◌, map, ℕ, length, get_or, replicate, drop, ℤ, pos, negsuc}
use Rattle.integers.specs.Bytes.{bits_at, word_at}
use Rattle.lattice.specs.Gcd.{gcd_of, euclid}
use Rattle.meaning.specs.Limits.{gauge_limits, former_limits}
use Rattle.meaning.specs.Lists.{filter, any, every, position, best, best_or, total, each, numbers_from}
use Rattle.meaning.specs.Tests.{refusal}
use Rattle.meaning.specs.Loops.{progression, instances, line_of, increment}
use Rattle.meaning.specs.Space.{points, widen_all, around, box_of, sent_to, first_of, last_of}
use Rattle.meaning.specs.Streams.{hop}
use Rattle.meaning.specs.Pipes.{stays, march, line_in, pipe, used_on, pipe_elements}
use Rattle.meaning.specs.Description.{bytes, nest_of, stream_of, body_line, description_of}
use Rattle.meaning.specs.Body.{run_lines, touched_from, scatter, execute, execute_all}
use Rattle.meaning.specs.Accept.{tests_from, refusal_of, accept}
use Rattle.meaning.specs.Array.{insert_by_step, by_step, pipes_from, array_of}
use Rattle.meaning.specs.Rules.{move_down, sound, write_all, Memory, apply, first_ready, run_steps, apply_all}
use Rattle.meaning.specs.Answers.{accept_number, accept_values, answer_number, ran_number, ready_number}
use Rattle.meaning.specs.Calls.{table, start, step, run, ready_call, window, result, plain_run}
use Rattle.meaning.specs.FixedPoint as FixedPoint
use Rattle.meaning.specs.Comparison.{Case, ◌is◌, naturals, number, planar, row_words, eq_list, first_wrong, agree}
use Rattle.meaning.specs.Designs.{guarded, line, product, pair, polynomial, polynomial_by, design_one, design_one_with, design_two}
use Rattle.meaning.specs.Designs.{values, uncleared, turned, decimating, matrix_product, matrix_rising, matrix_values, column_with}
use Rattle.meaning.specs.Designs.{cleared_one, cleared_turned, cleared_column, nest, blank, lent, started_with, started_on, undivided}
use Rattle.meaning.specs.Designs.{design_one_by, stream}

-- the words of a table of n rows lent
abbrev table_words : List ℕ → ℕ → List ℤ
table_words s n = each row_words (table gauge_limits s (replicate n blank)).rows

-- ---- a sound state of design one that no start leads to: junk in empty places, firings ahead of what was taken

abbrev odd : Memory
odd =
    record {
      waiting = (started_on design_one 61).waiting;
      received = replicate 11 0;
      state =
          2 ∷ 1 ∷ 0 ∷ 0 ∷ 5 ∷ 0 ∷ 3 ∷ 2 ∷ 6 ∷ 0 ∷ 0 ∷ 0 ∷ 3 ∷ 2 ∷ 7 ∷ 0 ∷ 0 ∷ 0 ∷ 0 ∷ 0 ∷ 0 ∷ 0 ∷ 0 ∷ 1 ∷ 1 ∷ 99 ∷ 0 ∷ 42 ∷ 13 ∷ 2 ∷ 2 ∷ 0
          ∷ 0 ∷ 0 ∷ 0 ∷ 0 ∷ 0 ∷ 0 ∷ 0 ∷ 0 ∷ 1 ∷ 1 ∷ 0 ∷ 0 ∷ 0 ∷ 0 ∷ 2 ∷ 1 ∷ 9 ∷ 0 ∷ 0 ∷ 1 ∷ 0 ∷ 0 ∷ 3 ∷ 0 ∷ 55 ∷ 66 ∷ 3 ∷ 1 ∷ 0 ∷ [];
    }

-- a step of a design, and the number that Step answers
abbrev step_on : List ℕ → ℕ → ℕ → ℕ → Memory → Memory
step_on s kind n stream M = (step gauge_limits s kind n stream M).memory

abbrev number_on : List ℕ → ℕ → ℕ → ℕ → Memory → List ℤ
number_on s kind n stream M = number (answer_number (step gauge_limits s kind n stream M).answer)

abbrev then : ℕ → ℕ → ℕ → Memory → Memory
then = step_on design_one

abbrev step_number : ℕ → ℕ → ℕ → Memory → List ℤ
step_number = number_on design_one

-- each rule once: send on a, take of b at process 1, fire at process 0, give of c at process 2, receive on b
abbrev stepped : Memory
stepped = then 4 1 9 (then 3 2 2 (then 2 0 9 (then 1 1 1 (then 0 0 9 odd))))

abbrev two_sent : Memory
two_sent = then 0 1 0 (then 0 1 0 (started_on design_one 61))

-- a state with one more taken than sent
abbrev unsound : Memory
unsound = record { waiting = replicate 11 0; received = replicate 11 0; state = 0 ∷ 1 ∷ replicate 59 0 }

-- ---- links of three places, and a null process

-- three values sent into a link, where a fourth is 24; a take moves the others down
abbrev pub three_places : List Case
three_places =
    let send = step_on turned 0 2 0 in
    let sent = send (send (send (started_with turned (1 ∷ 2 ∷ 3 ∷ 4 ∷ 5 ∷ 6 ∷ 7 ∷ 8 ∷ 9 ∷ 10 ∷ 11 ∷ []) 69))) in
    (naturals sent.state is naturals (replicate 54 0 ++ (7 ∷ 8 ∷ 9 ∷ replicate 7 0 ++ (3 ∷ replicate 4 0))))
    ∷ (number_on turned 0 2 0 sent is number 24)
    ∷ (naturals (step_on turned 1 2 2 sent).state
    is naturals (replicate 50 0 ++ (1 ∷ 0 ∷ 7 ∷ 0 ∷ 8 ∷ 9 ∷ replicate 8 0 ++ (3 ∷ replicate 4 0))))
    ∷ []

-- process 2 of the matrix product takes and gives an element of b; of c it is on no pipe, which is 23; to fire it is 24
abbrev pub null_process : List Case
null_process =
    let started = started_with matrix_product matrix_values 171 in
    let taken = step_on matrix_product 1 2 1 (step_on matrix_product 0 5 0 started) in
    (naturals taken.state is naturals (replicate 38 0 ++ (1 ∷ 0 ∷ 6 ∷ replicate 118 0 ++ (1 ∷ replicate 11 0))))
    ∷ (naturals (step_on matrix_product 3 2 1 taken).state
    is naturals (replicate 38 0 ++ (1 ∷ 1 ∷ replicate 50 0 ++ (6 ∷ replicate 68 0 ++ (1 ∷ replicate 11 0)))))
    ∷ (number_on matrix_product 1 2 2 started is number 23)
    ∷ (number_on matrix_product 3 2 2 started is number 23)
    ∷ (number_on matrix_product 2 2 0 started is number 24)
    ∷ []

-- ---- guards (request 2.5)

-- what Accept answers to design one with one more line, which has this guard
abbrev under_guard : ℤ → ℤ → ℤ → List ℤ
under_guard loop comparison bound =
    number (accept_number (accept gauge_limits (design_one_with (guarded 0 3 3 3 loop comparison bound ∷ product) 2)))

-- and to 2 by 2 times a column
abbrev spatial_guard : ℤ → List ℤ
spatial_guard loop = number (accept_number (accept gauge_limits (column_with (guarded 0 3 3 3 loop (pos 0) (pos 0) ∷ product))))

-- design one with step i+2j, against which c is written: 15 if it is
abbrev against : List (List ℤ) → List ℤ
against body =
    let s = polynomial_by body 2 2 (pair (pos 1) (pos 2)) (pair (pos 1) (pos 0)) (pair (pos 1) (pos 1)) (pos 1 ∷ pos 0 ∷ pos 0 ∷ []) in
    number (accept_number (accept gauge_limits s))

-- design one as it was, with four words a line
abbrev older_one : List ℕ
older_one =
    bytes
    ((pos 2 ∷ pos 3 ∷ pos 2 ∷ pos 0 ∷ pos 0 ∷ pos 2 ∷ pos 2 ∷ pos 1 ∷ pos 1 ∷ pos 2 ∷ pos 1 ∷ pos 1 ∷ pos 0 ∷ [])
    ++ ((pos 1 ∷ pos 0 ∷ pos 0 ∷ pos 1 ∷ pos 1 ∷ pos 1 ∷ []) ++ ((pos 1 ∷ pos 0 ∷ pos 0 ∷ [])
    ++ (pos 3 ∷ pos 3 ∷ pos 0 ∷ pos 1 ∷ pos 1 ∷ pos 2 ∷ pos 2 ∷ pos 3 ∷ []))))

-- what the plain run makes of some values
abbrev plainly : List ℕ → List ℕ → List ℤ
plainly s vs = naturals (plain_run gauge_limits s vs (replicate (length vs) 1)).output

abbrev pub guards : List Case
guards =
    -- a description of the older length is 3
    (number (accept_number (accept gauge_limits older_one)) is number 3)
    -- loop numbers 0 and 1 of two loops, 2 of three too; comparisons 0 to 3; bounds −64 to 64: all under comparison 0 as well
    ∷ (under_guard (pos 1) (pos 3) (pos 64) is number 0)
    ∷ (under_guard (pos 0) (pos 0) (negsuc 63) is number 0)
    ∷ (under_guard (pos 2) (pos 0) (pos 0) is number 4)
    ∷ (under_guard (negsuc 0) (pos 0) (pos 0) is number 4)
    ∷ (spatial_guard (pos 2) is number 0)
    ∷ (spatial_guard (pos 3) is number 4)
    ∷ (under_guard (pos 0) (pos 4) (pos 0) is number 4)
    ∷ (under_guard (pos 0) (negsuc 0) (pos 0) is number 4)
    ∷ (under_guard (pos 0) (pos 0) (pos 65) is number 4)
    ∷ (under_guard (pos 0) (pos 0) (negsuc 64) is number 4)
    -- c is written by a line that never runs too
    ∷ (against product is number 15)
    ∷ (against (line 3 3 0 1 ∷ guarded 1 2 2 3 (pos 0) (pos 1) (pos 64) ∷ []) is number 15)
    ∷ (against (line 3 3 0 1 ∷ []) is number 0)
    -- the figures of the designs that clear c are those without: they go by the loops and the streams
    ∷ (naturals (accept_values (accept gauge_limits cleared_one)) is naturals (3 ∷ 9 ∷ 11 ∷ 3 ∷ 61 ∷ 97 ∷ undivided))
    ∷ (naturals (accept_values (accept gauge_limits cleared_turned)) is naturals (3 ∷ 9 ∷ 11 ∷ 3 ∷ 61 ∷ 97 ∷ undivided))
    ∷ (naturals (accept_values (accept gauge_limits cleared_column)) is naturals (2 ∷ 4 ∷ 8 ∷ 4 ∷ 44 ∷ 44 ∷ undivided))
    -- c is 4 13 28 27 18 whatever it held, in direction −1 too, and 17 39 of the column
    ∷ (plainly cleared_one values is naturals (1 ∷ 2 ∷ 3 ∷ 4 ∷ 5 ∷ 6 ∷ 4 ∷ 13 ∷ 28 ∷ 27 ∷ 18 ∷ []))
    ∷ (plainly cleared_one uncleared is naturals (1 ∷ 2 ∷ 3 ∷ 4 ∷ 5 ∷ 6 ∷ 4 ∷ 13 ∷ 28 ∷ 27 ∷ 18 ∷ []))
    ∷ (plainly cleared_turned uncleared is naturals (1 ∷ 2 ∷ 3 ∷ 4 ∷ 5 ∷ 6 ∷ 4 ∷ 13 ∷ 28 ∷ 27 ∷ 18 ∷ []))
    ∷ (plainly cleared_column (1 ∷ 2 ∷ 3 ∷ 4 ∷ 5 ∷ 6 ∷ 7 ∷ 8 ∷ []) is naturals (1 ∷ 2 ∷ 3 ∷ 4 ∷ 5 ∷ 6 ∷ 17 ∷ 39 ∷ []))
    ∷ []

-- ---- the others, and all

abbrev pub calls : List Case
calls =
    -- the increment is turned by the step, not by the directions: step i+2j, place i+j
    (planar
    (increment (nest (polynomial 2 2 (pair (pos 1) (pos 2)) (pair (pos 1) (pos 1)) (pair (pos 1) (pos 1)) (pos 0 ∷ pos 0 ∷ pos 1 ∷ []))))
    is pair (negsuc 0) (pos 1))
    -- the table of design two; the sixth row lent is as it was
    ∷ (table_words design_two 6 is naturals
    (0 ∷ 0 ∷ 1 ∷ 0 ∷ 0 ∷ 0 ∷ 0 ∷ 0 ∷ 0 ∷ 0 ∷ 2 ∷ 0 ∷ 0 ∷ 0 ∷ 0 ∷ 2 ∷ 0 ∷ 4 ∷ 0 ∷ 0 ∷ 0
    ∷ 1 ∷ 0 ∷ 2 ∷ 0 ∷ 1 ∷ 0 ∷ 1 ∷ 0 ∷ 0 ∷ 0 ∷ 1 ∷ 1 ∷ 0 ∷ 0 ∷ 0 ∷ 1 ∷ 0 ∷ 3 ∷ 0 ∷ 0 ∷ 0
    ∷ 2 ∷ 0 ∷ 3 ∷ 0 ∷ 2 ∷ 0 ∷ 2 ∷ 0 ∷ 0 ∷ 0 ∷ 0 ∷ 2 ∷ 0 ∷ 0 ∷ 0 ∷ 0 ∷ 0 ∷ 2 ∷ 0 ∷ 0 ∷ 0
    ∷ 3 ∷ 0 ∷ 2 ∷ 1 ∷ 2 ∷ 0 ∷ 2 ∷ 1 ∷ 0 ∷ 1 ∷ 0 ∷ 3 ∷ 0 ∷ 0 ∷ 0 ∷ 0 ∷ 1 ∷ 1 ∷ 0 ∷ 0 ∷ 0
    ∷ 4 ∷ 0 ∷ 1 ∷ 2 ∷ 2 ∷ 0 ∷ 2 ∷ 2 ∷ 0 ∷ 2 ∷ 0 ∷ 4 ∷ 0 ∷ 0 ∷ 0 ∷ 0 ∷ 2 ∷ 0 ∷ 0 ∷ 0 ∷ 0
    ∷ replicate 9 7))
    -- the table of the decimating filter of request 2.2: process 2 runs (0,2) and (1,0), the only instance of process 3 is on no face of
    -- the bounds
    ∷ (table_words (decimating 2 2) 7 is naturals
    (0 ∷ 0 ∷ 1 ∷ 0 ∷ 0 ∷ 0 ∷ 0 ∷ 0 ∷ 0 ∷ 0 ∷ 0 ∷ 4 ∷ 0 ∷ 0 ∷ 0 ∷ 2 ∷ 6 ∷ 0 ∷ 0 ∷ 0 ∷ 0
    ∷ 1 ∷ 0 ∷ 1 ∷ 0 ∷ 1 ∷ 0 ∷ 0 ∷ 1 ∷ 0 ∷ 0 ∷ 1 ∷ 3 ∷ 0 ∷ 0 ∷ 0 ∷ 2 ∷ 5 ∷ 1 ∷ 0 ∷ 0 ∷ 0
    ∷ 2 ∷ 0 ∷ 2 ∷ 0 ∷ 2 ∷ 0 ∷ 1 ∷ 0 ∷ 0 ∷ 0 ∷ 2 ∷ 2 ∷ 0 ∷ 0 ∷ 0 ∷ 1 ∷ 4 ∷ 1 ∷ 0 ∷ 0 ∷ 0
    ∷ 3 ∷ 0 ∷ 1 ∷ 1 ∷ 1 ∷ 0 ∷ 1 ∷ 1 ∷ 0 ∷ 1 ∷ 3 ∷ 2 ∷ 0 ∷ 0 ∷ 0 ∷ 1 ∷ 3 ∷ 2 ∷ 0 ∷ 0 ∷ 0
    ∷ 4 ∷ 0 ∷ 2 ∷ 1 ∷ 2 ∷ 0 ∷ 2 ∷ 0 ∷ 0 ∷ 1 ∷ 4 ∷ 1 ∷ 0 ∷ 0 ∷ 0 ∷ 0 ∷ 2 ∷ 2 ∷ 0 ∷ 0 ∷ 0
    ∷ 5 ∷ 0 ∷ 1 ∷ 2 ∷ 1 ∷ 0 ∷ 2 ∷ 1 ∷ 0 ∷ 2 ∷ 5 ∷ 1 ∷ 0 ∷ 0 ∷ 0 ∷ 0 ∷ 1 ∷ 3 ∷ 0 ∷ 0 ∷ 0
    ∷ 6 ∷ 0 ∷ 1 ∷ 2 ∷ 2 ∷ 0 ∷ 2 ∷ 2 ∷ 0 ∷ 2 ∷ 6 ∷ 0 ∷ 0 ∷ 0 ∷ 0 ∷ 0 ∷ 0 ∷ 4 ∷ 0 ∷ 0 ∷ 0 ∷ []))
    -- on loops 0..3 twice process 4 begins on no face, with (1,2), and ends with (2,0)
    ∷ (row_words (get_or (table gauge_limits (decimating 3 3) (replicate 10 blank)).rows 4 blank)
    is naturals (4 ∷ 0 ∷ 2 ∷ 1 ∷ 2 ∷ 0 ∷ 2 ∷ 0 ∷ 0 ∷ 1 ∷ 4 ∷ 3 ∷ 0 ∷ 0 ∷ 0 ∷ 1 ∷ 5 ∷ 2 ∷ 0 ∷ 0 ∷ 0 ∷ []))
    -- direction −1 in loop 0: the figures, the table, and a plain run that subtracts in that order, modulo 2^32
    ∷ (naturals (accept_values (accept gauge_limits turned)) is naturals (3 ∷ 9 ∷ 11 ∷ 3 ∷ 69 ∷ 97 ∷ undivided))
    ∷ (table_words turned 3 is naturals
    (0 ∷ 0 ∷ 3 ∷ 0 ∷ 0 ∷ 0 ∷ 0 ∷ 2 ∷ 0 ∷ 0 ∷ 0 ∷ 0 ∷ 0 ∷ 0 ∷ 0 ∷ 2 ∷ 0 ∷ 2 ∷ 0 ∷ 0 ∷ 0
    ∷ 1 ∷ 0 ∷ 3 ∷ 1 ∷ 0 ∷ 0 ∷ 1 ∷ 2 ∷ 0 ∷ 1 ∷ 0 ∷ 1 ∷ 0 ∷ 0 ∷ 0 ∷ 1 ∷ 0 ∷ 1 ∷ 0 ∷ 0 ∷ 0
    ∷ 2 ∷ 0 ∷ 3 ∷ 2 ∷ 0 ∷ 0 ∷ 2 ∷ 2 ∷ 0 ∷ 2 ∷ 0 ∷ 2 ∷ 0 ∷ 0 ∷ 0 ∷ 0 ∷ 0 ∷ 0 ∷ 0 ∷ 0 ∷ 0 ∷ []))
    ∷ (naturals (plain_run gauge_limits turned values (replicate 11 1)).output
    is naturals (1 ∷ 2 ∷ 3 ∷ 4 ∷ 5 ∷ 6 ∷ 4 ∷ 4294967293 ∷ 8 ∷ 4294967293 ∷ 18 ∷ []))
    -- Window: b's waiting values in design two, where they pass backwards
    ∷ (naturals (window gauge_limits design_two 1 0 (started_on design_two 95).waiting (replicate 11 0)).part is naturals (6 ∷ 5 ∷ 4 ∷ []))
    -- a third send on b after Start is 24: its links have two places
    ∷ (step_number 0 1 0 two_sent is number 24)
    -- a sound state that no start leads to, stepped once by each rule; a further send on a finds no room
    ∷ (naturals stepped.state is naturals
    (3 ∷ 1 ∷ 0 ∷ 0 ∷ 5 ∷ 2 ∷ 3 ∷ 2 ∷ 6 ∷ 0 ∷ 0 ∷ 0 ∷ 3 ∷ 2 ∷ 37 ∷ 0 ∷ 0 ∷ 0 ∷ 0 ∷ 0 ∷ 0 ∷ 0 ∷ 0 ∷ 2 ∷ 1 ∷ 42 ∷ 0 ∷ 0 ∷ 13 ∷ 2 ∷ 2 ∷ 0 ∷ 0
    ∷ 0 ∷ 0 ∷ 0 ∷ 0 ∷ 0 ∷ 0 ∷ 0 ∷ 1 ∷ 1 ∷ 0 ∷ 0 ∷ 0 ∷ 0 ∷ 2 ∷ 2 ∷ 0 ∷ 0 ∷ 0 ∷ 2 ∷ 0 ∷ 0 ∷ 3 ∷ 1 ∷ 0 ∷ 66 ∷ 3 ∷ 1 ∷ 9 ∷ []))
    ∷ (naturals stepped.received is naturals (0 ∷ 0 ∷ 0 ∷ 55 ∷ 0 ∷ 0 ∷ 0 ∷ 0 ∷ 0 ∷ 0 ∷ 0 ∷ []))
    ∷ (step_number 0 0 0 stepped is number 24)
    -- the keep of a at process 0, which has fired, is not given before the others are taken
    ∷ (step_number 3 0 0 stepped is number 24)
    -- three loops with null processes: the figures, and a null row
    ∷ (naturals (accept_values (accept gauge_limits matrix_product)) is naturals (9 ∷ 8 ∷ 12 ∷ 9 ∷ 171 ∷ 100 ∷ undivided))
    ∷ (row_words (get_or (table gauge_limits matrix_product (replicate 9 blank)).rows 2 blank)
    is negsuc 0 ∷ pos 1 ∷ naturals (replicate 7 0 ++ (1 ∷ 1 ∷ replicate 10 0)))
    -- an increment whose third component is −1 is accepted: the figures, and the row of its middle process
    ∷ (naturals (accept_values (accept gauge_limits matrix_rising)) is naturals (9 ∷ 8 ∷ 12 ∷ 9 ∷ 171 ∷ 100 ∷ undivided))
    ∷ (row_words (get_or (table gauge_limits matrix_rising (replicate 9 blank)).rows 4 blank)
    is naturals (1 ∷ 1 ∷ 2 ∷ 0 ∷ 0 ∷ 1 ∷ 1 ∷ 1 ∷ 0 ∷ replicate 12 0))
    -- declined calls: the numbers in order, and nothing changed
    ∷ (number (answer_number (table gauge_limits design_two (replicate 4 blank)).answer) is number 18)
    ∷ (number (answer_number (start gauge_limits design_one (replicate 10 0) (lent 11 60)).answer) is number 20)
    ∷ (number (answer_number (start gauge_limits design_one values (record { waiting = replicate 11 0; received = []; state = [] })).answer)
    is number 26)
    ∷ (number (answer_number (start gauge_limits design_one values (lent 11 60)).answer) is number 21)
    ∷ (naturals (start gauge_limits design_one values (lent 11 60)).memory.waiting is naturals (replicate 11 7))
    ∷ (step_number 9 9 9 unsound is number 22)
    ∷ (naturals (then 0 0 0 unsound).state is naturals unsound.state)
    ∷ (step_number 5 0 0 (started_on design_one 61) is number 23)
    ∷ (step_number 1 3 0 (started_on design_one 61) is number 23)
    ∷ (step_number 1 0 3 (started_on design_one 61) is number 23)
    ∷ (step_number 4 3 0 (started_on design_one 61) is number 23)
    ∷ (step_number 2 0 0 (started_on design_one 61) is number 24)
    ∷ (number (ran_number (run gauge_limits design_one 5 unsound).answer) is number 22)
    ∷ (number (ready_number (ready_call gauge_limits design_one (replicate 15 0) (started_on design_one 61)).answer) is number 27)
    ∷ (number (window gauge_limits design_one 3 0 (replicate 11 0) (replicate 11 0)).refusal is number 19)
    ∷ (number (window gauge_limits design_one 0 2 (replicate 11 0) (replicate 11 0)).refusal is number 19)
    ∷ (number (answer_number (result gauge_limits design_one [] (started_on design_one 61)).answer) is number 25)
    ∷ (number (answer_number (plain_run gauge_limits design_one [] []).answer) is number 20)
    ∷ (number (answer_number (plain_run gauge_limits design_one values []).answer) is number 28)
    -- a description refused is refused by every call
    ∷ (number (answer_number (plain_run gauge_limits [] [] []).answer) is number 1)
    ∷ []

-- ---- operations and hops

-- a times b by an operation, in design one on loops 0..0: the plain run's c, and the network's
abbrev pub multiplied : ℕ → ℕ → ℕ → List ℤ
multiplied op a b =
    let s = design_one_by op 0 in
    let vs : List ℕ = a ∷ b ∷ 0 ∷ [] in
    let end = (run gauge_limits s 1000 (started_with s vs 27)).memory in
    naturals (drop 2 (plain_run gauge_limits s vs (replicate 3 1)).output ++ drop 2 (result gauge_limits s (replicate 3 1) end).output)

abbrev pub products : List Case
products =
    -- operation 6 (request 2.1): 1.5 times 1.5 is 2.25, by the plain run and by the network; operation 3 wraps
    (multiplied 6 98304 98304 is naturals (147456 ∷ 147456 ∷ []))
    ∷ (multiplied 3 98304 98304 is naturals (1073741824 ∷ 1073741824 ∷ []))
    -- 2^32 − 1 by itself is divided before it wraps; what is left over is dropped
    ∷ (multiplied 6 4294967295 4294967295 is naturals (4294836224 ∷ 4294836224 ∷ []))
    ∷ (multiplied 6 65535 65537 is naturals (65535 ∷ 65535 ∷ []))
    -- design one with it was 4 before the request, and design one was accepted then too; operation 7 is 4
    ∷ (number (accept_number (FixedPoint.former_accept gauge_limits (design_one_by 6 2))) is number 4)
    ∷ (number (accept_number (FixedPoint.former_accept gauge_limits design_one)) is number 0)
    ∷ (number (accept_number (accept gauge_limits (design_one_by 7 2))) is number 4)
    ∷ []

-- design one with another map of c and another first step coefficient
abbrev pub crossing : ℕ → List ℕ
crossing k = polynomial 2 2 (pair (pos k) (pos 1)) (pair (pos 1) (pos 0)) (pair (pos 1) (negsuc 0)) (pos 1 ∷ pos 0 ∷ pos 0 ∷ [])

abbrev pub hops : List Case
hops =
    -- design one with c's map i−j and step 4i+j gives c hop 5 (request 2.8); steps 5i+j and 8i+j are 14
    (number (hop (nest (crossing 4)) (stream (crossing 4) 2)) is number 5)
    ∷ (number (accept_number (accept gauge_limits (crossing 4))) is number 0)
    ∷ (number (accept_number (accept gauge_limits (crossing 5))) is number 14)
    ∷ (number (accept_number (accept gauge_limits (crossing 8))) is number 14)
    -- step 7i+j gives hop 8: accepted before request 2.8, and now 14; 8i+j was 14 then too
    ∷ (number (accept_number (accept (former_limits 0) (crossing 7))) is number 0)
    ∷ (number (accept_number (accept gauge_limits (crossing 7))) is number 14)
    ∷ (number (accept_number (accept (former_limits 0) (crossing 8))) is number 14)
    ∷ []

abbrev pub singles : List Case
singles = calls ++ (three_places ++ (null_process ++ (guards ++ (products ++ hops))))

pub proved : map (λ c. c.got) singles ≡ map (λ c. c.wanted) singles
unfolding eq_list first_wrong bits_at word_at gcd_of euclid filter any every position best best_or total each numbers_from refusal
    progression instances line_of points widen_all around box_of sent_to first_of last_of stays march line_in pipe used_on pipe_elements
    nest_of
    stream_of body_line description_of run_lines touched_from scatter execute execute_all tests_from refusal_of accept insert_by_step
    by_step pipes_from
    array_of move_down sound write_all apply first_ready run_steps apply_all table start step run ready_call window result plain_run
proved = agree singles refl
