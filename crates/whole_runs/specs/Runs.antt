-- Runs beside document 01's cases, because they hold the rules: states stopped in the middle of a run, two orders with one end, three
-- loops, a stride.
-- The states' words are those of the second implementation.
use Rattle.std.specs.Prelude.{◌≡◌, refl, List, [], ◌∷◌, ◌++◌, map, reverse, ℕ, zero, suc, replicate, drop}
use Rattle.integers.specs.Bytes.{bits_at, word_at}
use Rattle.lattice.specs.Gcd.{gcd_of, euclid}
use Rattle.meaning.specs.Limits.{gauge_limits}
use Rattle.meaning.specs.Lists.{filter, any, every, position, best, best_or, total, each, numbers_from}
use Rattle.meaning.specs.Tests.{refusal}
use Rattle.meaning.specs.Loops.{progression, instances, line_of}
use Rattle.meaning.specs.Space.{points, widen_all, around, box_of, sent_to, first_of, last_of}
use Rattle.meaning.specs.Pipes.{stays, march, line_in, pipe, used_on, pipe_elements}
use Rattle.meaning.specs.Description.{nest_of, stream_of, body_line, description_of}
use Rattle.meaning.specs.Body.{run_lines, touched_from, scatter, execute, execute_all}
use Rattle.meaning.specs.Accept.{tests_from, refusal_of, accept}
use Rattle.meaning.specs.Array.{Array, insert_by_step, by_step, pipes_from, array_of}
use Rattle.meaning.specs.declared.Step.{Step}
use Rattle.meaning.specs.Rules.{move_down, sound, write_all, Memory, ready, in_order, apply, Found, at, nothing, first_ready}
use Rattle.meaning.specs.Rules.{run_steps}
use Rattle.meaning.specs.Rules.{apply_all}
use Rattle.meaning.specs.Answers.{accept_values, answer_number, ran_values, ready_values}
use Rattle.meaning.specs.Calls.{start, run, ready_call, window, result, plain_run}
use Rattle.meaning.specs.Comparison.{Case, ◌is◌, naturals, number, eq_list, first_wrong, agree}
use Rattle.meaning.specs.Designs.{design_one, design_two, values, turned, decimating, column_product, started_with, started_on, undivided}

-- the highest ready step first, n times
abbrev onward : Memory → (Step → Memory) → Found → Memory
onward M f nothing = M
onward M f (at a) = f a

unfoldable pub backwards : Array → ℕ → Memory → Memory
backwards A zero M = M
backwards A (suc n) M = onward M (λ a. backwards A n (apply A M a)) (first_ready (ready A M.state) (reverse (in_order A)))

-- ---- both designs stopped after 20 and after 60 steps; a longer state is cleared and stepped in its first words alone

abbrev pub one : List Case
one =
    let at20 = run gauge_limits design_one 20 (started_on design_one 64) in
    let at60 = run gauge_limits design_one 40 at20.memory in
    (naturals (ran_values at20.answer) is naturals (20 ∷ 1 ∷ []))
    ∷ (naturals at20.memory.state is naturals
    (1 ∷ 3 ∷ 1 ∷ 3 ∷ 1 ∷ 0 ∷ 2 ∷ 1 ∷ 5 ∷ 0 ∷ 6 ∷ 0 ∷ 2 ∷ 1 ∷ 0 ∷ 0 ∷ 0 ∷ 0 ∷ 0 ∷ 0 ∷ 0 ∷ 0 ∷ 2 ∷ 0 ∷ 0 ∷ 0 ∷ 0 ∷ 4 ∷ 0 ∷ 0 ∷ 0 ∷ 0 ∷ 0 ∷ 4
    ∷ 0 ∷ 0 ∷ 0 ∷ 0 ∷ 0 ∷ 0 ∷ 0 ∷ 0 ∷ 0 ∷ 0 ∷ 0 ∷ 0 ∷ 0 ∷ 0 ∷ 0 ∷ 0 ∷ 0 ∷ 3 ∷ 0 ∷ 0 ∷ 3 ∷ 0 ∷ 0 ∷ 0 ∷ 3 ∷ 0 ∷ 0 ∷ 9 ∷ 9 ∷ 9 ∷ []))
    ∷ (naturals (ready_values (ready_call gauge_limits design_one (replicate 17 5) at20.memory).answer) is naturals (2 ∷ 0 ∷ []))
    ∷ (naturals at60.memory.state is naturals
    (3 ∷ 3 ∷ 3 ∷ 0 ∷ 0 ∷ 0 ∷ 3 ∷ 3 ∷ 0 ∷ 0 ∷ 0 ∷ 0 ∷ 5 ∷ 4 ∷ 0 ∷ 0 ∷ 0 ∷ 2 ∷ 3 ∷ 2 ∷ 0 ∷ 2 ∷ 0 ∷ 3 ∷ 2 ∷ 6 ∷ 0 ∷ 0 ∷ 0 ∷ 3 ∷ 3 ∷ 0 ∷ 0 ∷ 0
    ∷ 0 ∷ 2 ∷ 1 ∷ 0 ∷ 3 ∷ 0 ∷ 1 ∷ 0 ∷ 4 ∷ 0 ∷ 5 ∷ 0 ∷ 2 ∷ 1 ∷ 13 ∷ 0 ∷ 16 ∷ 3 ∷ 0 ∷ 1 ∷ 3 ∷ 0 ∷ 0 ∷ 0 ∷ 5 ∷ 0 ∷ 4 ∷ 9 ∷ 9 ∷ 9 ∷ []))
    ∷ (naturals (ready_call gauge_limits design_one (replicate 17 5) at60.memory).words is naturals (2 ∷ replicate 15 0 ++ (5 ∷ [])))
    ∷ []

abbrev pub two : List Case
two =
    let at20 = run gauge_limits design_two 20 (started_on design_two 95) in
    let at60 = run gauge_limits design_two 40 at20.memory in
    (naturals at20.memory.state is naturals
    (1 ∷ 2 ∷ 1 ∷ 2 ∷ 0 ∷ 3 ∷ 3 ∷ 2 ∷ 4 ∷ 0 ∷ 0 ∷ 0 ∷ 2 ∷ 0 ∷ 0 ∷ 4 ∷ 0 ∷ 0 ∷ 0 ∷ 0 ∷ 0 ∷ 0 ∷ 1 ∷ 0 ∷ 0 ∷ 0 ∷ 0 ∷ 6 ∷ 5 ∷ 0 ∷ 0 ∷ 0 ∷ 0 ∷ 0
    ∷ 0 ∷ 0 ∷ 0 ∷ 0 ∷ 0 ∷ 0 ∷ 0 ∷ 0 ∷ 0 ∷ 0 ∷ 0 ∷ 0 ∷ 0 ∷ 0 ∷ 0 ∷ 0 ∷ 0 ∷ 0 ∷ 0 ∷ 0 ∷ 0 ∷ 0 ∷ 0 ∷ 0 ∷ 0 ∷ 0 ∷ 0 ∷ 0 ∷ 0 ∷ 0 ∷ 0 ∷ 0 ∷ 0 ∷ 0
    ∷ 0 ∷ 0 ∷ 0 ∷ 0 ∷ 0 ∷ 0 ∷ 0 ∷ 0 ∷ 0 ∷ 0 ∷ 0 ∷ 0 ∷ 0 ∷ 0 ∷ 0 ∷ 0 ∷ 0 ∷ 3 ∷ 0 ∷ 0 ∷ 3 ∷ 0 ∷ 0 ∷ 0 ∷ 3 ∷ 0 ∷ 0 ∷ []))
    ∷ (naturals at60.memory.state is naturals
    (1 ∷ 3 ∷ 3 ∷ 0 ∷ 0 ∷ 0 ∷ 3 ∷ 3 ∷ 0 ∷ 0 ∷ 0 ∷ 0 ∷ 5 ∷ 5 ∷ 0 ∷ 0 ∷ 0 ∷ 2 ∷ 3 ∷ 2 ∷ 3 ∷ 0 ∷ 0 ∷ 3 ∷ 3 ∷ 0 ∷ 0 ∷ 0 ∷ 0 ∷ 5 ∷ 3 ∷ 4 ∷ 13 ∷ 0
    ∷ 1 ∷ 1 ∷ 0 ∷ 1 ∷ 0 ∷ 2 ∷ 1 ∷ 0 ∷ 6 ∷ 0 ∷ 5 ∷ 4 ∷ 2 ∷ 0 ∷ 0 ∷ 6 ∷ 0 ∷ 0 ∷ 0 ∷ 0 ∷ 0 ∷ 0 ∷ 0 ∷ 0 ∷ 0 ∷ 0 ∷ 0 ∷ 0 ∷ 0 ∷ 0 ∷ 0 ∷ 0 ∷ 0 ∷ 0
    ∷ 0 ∷ 0 ∷ 0 ∷ 0 ∷ 0 ∷ 0 ∷ 0 ∷ 0 ∷ 0 ∷ 0 ∷ 0 ∷ 0 ∷ 0 ∷ 0 ∷ 0 ∷ 0 ∷ 0 ∷ 3 ∷ 0 ∷ 0 ∷ 3 ∷ 0 ∷ 0 ∷ 0 ∷ 5 ∷ 0 ∷ 0 ∷ []))
    ∷ []

-- ---- runs to the end: as many steps as Accept says, and Result writes what Plain run writes

-- with a body whose order counts, 60 and 37 steps; the highest ready step first ends in the same words
abbrev pub ordered : List Case
ordered =
    let start = started_on turned 69 in
    let end = run gauge_limits turned 1000 (run gauge_limits turned 60 start).memory in
    let M = end.memory in
    let reversed = backwards (array_of (description_of turned)) 1000 start in
    (naturals (ran_values end.answer) is naturals (37 ∷ 0 ∷ []))
    ∷ (naturals (result gauge_limits turned (replicate 11 1) M).output
    is naturals (plain_run gauge_limits turned values (replicate 11 1)).output)
    ∷ (number (answer_number (result gauge_limits turned [] M).answer) is number 28)
    ∷ (naturals (window gauge_limits turned 2 1 M.waiting M.received).part
    is naturals (4 ∷ 4294967293 ∷ 8 ∷ 4294967293 ∷ 18 ∷ []))
    ∷ (naturals (reversed.state ++ reversed.received) is naturals (M.state ++ M.received))
    ∷ []

-- three loops with null processes: a 1,2 above 3,4, b 5 above 6
abbrev pub spatial_run : List Case
spatial_run =
    let vs : List ℕ = 1 ∷ 2 ∷ 3 ∷ 4 ∷ 5 ∷ 6 ∷ 0 ∷ 0 ∷ [] in
    let end = run gauge_limits column_product 1000 (started_with column_product vs 117) in
    (naturals (accept_values (accept gauge_limits column_product)) is naturals (6 ∷ 4 ∷ 8 ∷ 7 ∷ 117 ∷ 56 ∷ undivided))
    ∷ (naturals (ran_values end.answer) is naturals (56 ∷ 0 ∷ []))
    ∷ (naturals (result gauge_limits column_product (replicate 8 1) end.memory).output is naturals (1 ∷ 2 ∷ 3 ∷ 4 ∷ 5 ∷ 6 ∷ 17 ∷ 39 ∷ []))
    ∷ (naturals (plain_run gauge_limits column_product vs (replicate 8 1)).output is naturals (1 ∷ 2 ∷ 3 ∷ 4 ∷ 5 ∷ 6 ∷ 17 ∷ 39 ∷ []))
    ∷ []

-- the decimating filter of request 2.2, y zeros, x 1 to 7, w 1 to 5: stopped after 100 steps, when process 3 has not run its only instance
-- yet, and after 220, when the sums are out and one of x; then to the end
abbrev pub decimated : List Case
decimated =
    let s = decimating 2 2 in
    let vs : List ℕ = 0 ∷ 0 ∷ 0 ∷ 1 ∷ 2 ∷ 3 ∷ 4 ∷ 5 ∷ 6 ∷ 7 ∷ 1 ∷ 2 ∷ 3 ∷ 4 ∷ 5 ∷ [] in
    let at100 = run gauge_limits s 100 (started_with s vs 129) in
    let at220 = run gauge_limits s 120 at100.memory in
    let end = run gauge_limits s 1000 at220.memory in
    (naturals at100.memory.state is naturals
    (1 ∷ 3 ∷ 3 ∷ 0 ∷ 0 ∷ 0 ∷ 7 ∷ 7 ∷ 0 ∷ 0 ∷ 0 ∷ 5 ∷ 5 ∷ 0 ∷ 0 ∷ 0 ∷ 0 ∷ 1 ∷ 3 ∷ 3 ∷ 0 ∷ 0 ∷ 0 ∷ 7 ∷ 6 ∷ 0 ∷ 2 ∷ 0 ∷ 5 ∷ 5 ∷ 0 ∷ 0 ∷ 0 ∷ 0
    ∷ 2 ∷ 2 ∷ 1 ∷ 6 ∷ 0 ∷ 0 ∷ 5 ∷ 3 ∷ 7 ∷ 3 ∷ 1 ∷ 4 ∷ 3 ∷ 2 ∷ 0 ∷ 1 ∷ 0 ∷ 0 ∷ 1 ∷ 0 ∷ 14 ∷ 0 ∷ 0 ∷ 2 ∷ 0 ∷ 5 ∷ 4 ∷ 6 ∷ 1 ∷ 0 ∷ 5 ∷ 0 ∷ 4 ∷ 3
    ∷ replicate 51 0 ++ (3 ∷ 0 ∷ 0 ∷ 7 ∷ 0 ∷ 0 ∷ 5 ∷ 0 ∷ 0 ∷ 0 ∷ [])))
    ∷ (naturals (ready_values (ready_call gauge_limits s (replicate 17 5) at100.memory).answer) is naturals (2 ∷ 2 ∷ []))
    ∷ (naturals (ready_call gauge_limits s (replicate 17 5) at100.memory).words is naturals (12 ∷ replicate 15 0 ++ (5 ∷ [])))
    ∷ (naturals (window gauge_limits s 0 1 at220.memory.waiting at220.memory.received).part is naturals (14 ∷ 38 ∷ 74 ∷ []))
    ∷ (naturals (window gauge_limits s 1 1 at220.memory.waiting at220.memory.received).part is naturals (1 ∷ replicate 6 0))
    ∷ (naturals (ran_values end.answer) is naturals (29 ∷ 0 ∷ []))
    ∷ (naturals (result gauge_limits s (replicate 15 1) end.memory).output is naturals (14 ∷ 38 ∷ 74 ∷ drop 3 vs))
    ∷ (naturals (plain_run gauge_limits s vs (replicate 15 1)).output is naturals (14 ∷ 38 ∷ 74 ∷ drop 3 vs))
    ∷ []

abbrev pub more : List Case
more = one ++ (two ++ (ordered ++ (spatial_run ++ decimated)))

pub proved : map (λ c. c.got) more ≡ map (λ c. c.wanted) more
unfolding eq_list first_wrong backwards bits_at word_at gcd_of euclid filter any every position best best_or total each numbers_from refusal
    progression instances line_of points widen_all around box_of sent_to first_of last_of stays march line_in pipe used_on pipe_elements
    nest_of
    stream_of body_line description_of run_lines touched_from scatter execute execute_all tests_from refusal_of accept insert_by_step
    by_step pipes_from
    array_of move_down sound write_all apply first_ready run_steps apply_all start run ready_call window result plain_run
proved = agree more refl
