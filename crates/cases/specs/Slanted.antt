-- Cases of request 2.7, computed: divisors above 1 of place and of streams, where the working processes lie, and a run of a slanted grid.
use Rattle.std.specs.Prelude.{◌≡◌, refl, List, [], ◌∷◌, ◌++◌, map, ℕ, replicate, ℤ}
use Rattle.integers.specs.Bytes.{bits_at, word_at}
use Rattle.lattice.specs.Gcd.{gcd_of, euclid}
use Rattle.meaning.specs.declared.Row.{Row}
use Rattle.meaning.specs.Limits.{gauge_limits}
use Rattle.meaning.specs.Lists.{filter, any, every, position, best, best_or, total, each, numbers_from}
use Rattle.meaning.specs.Tests.{refusal}
use Rattle.meaning.specs.Loops.{progression, instances, line_of}
use Rattle.meaning.specs.Space.{points, widen_all, around, box_of, sent_to, first_of, last_of}
use Rattle.meaning.specs.Pipes.{stays, march, line_in, pipe, used_on, pipe_elements}
use Rattle.meaning.specs.Description.{nest_of, stream_of, body_line, description_of}
use Rattle.meaning.specs.Body.{run_lines, touched_from, scatter, execute, execute_all}
use Rattle.meaning.specs.Accept.{tests_from, refusal_of, accept}
use Rattle.meaning.specs.Array.{insert_by_step, by_step, pipes_from, array_of}
use Rattle.meaning.specs.Rules.{move_down, sound, write_all, apply, first_ready, run_steps, apply_all}
use Rattle.meaning.specs.Answers.{accept_values, ran_values}
use Rattle.meaning.specs.Calls.{table, start, run, result, plain_run}
use Rattle.meaning.specs.Comparison.{Case, ◌is◌, naturals, eq_list, first_wrong, agree}
use Rattle.meaning.specs.Designs.{blank, matrix_slanted, spaced, six_streams, far_apart, matrix_values, started_with}

-- the counts of the table's rows: 0 for a null process
abbrev counts : List ℕ → ℕ → List ℤ
counts s n = naturals (map (λ (r : Row). r.count) (table gauge_limits s (replicate n blank)).rows)

abbrev pub slanted : List Case
slanted =
    -- the matrix product on place (i+j, i−j): 2, then 1 1 1; the points (0,0), (1,−1), (1,1) and (2,0) work, those between them do not
    (naturals (accept_values (accept gauge_limits matrix_slanted)) is naturals (9 ∷ 8 ∷ 12 ∷ 7 ∷ 165 ∷ 88 ∷ 2 ∷ 1 ∷ 1 ∷ 1 ∷ 0 ∷ 0 ∷ 0 ∷ []))
    ∷ (counts matrix_slanted 9 is naturals (0 ∷ 2 ∷ 0 ∷ 2 ∷ 0 ∷ 2 ∷ 0 ∷ 2 ∷ 0 ∷ []))
    -- a place 2i for two loops: 2, and every second process works
    ∷ (naturals (accept_values (accept gauge_limits spaced)) is naturals (5 ∷ 9 ∷ 6 ∷ 2 ∷ 61 ∷ 81 ∷ 2 ∷ 1 ∷ 1 ∷ 0 ∷ 0 ∷ 0 ∷ 0 ∷ []))
    ∷ (counts spaced 5 is naturals (3 ∷ 0 ∷ 3 ∷ 0 ∷ 3 ∷ []))
    -- each of six streams has its own, positive whatever the sign of its words; the most that three loops can have is 32
    ∷ (naturals (accept_values (accept gauge_limits six_streams)) is naturals (1 ∷ 1 ∷ 6 ∷ 6 ∷ 49 ∷ 25 ∷ 3 ∷ 1 ∷ 2 ∷ 3 ∷ 4 ∷ 4 ∷ 2 ∷ []))
    ∷ (naturals (accept_values (accept gauge_limits far_apart)) is naturals (1 ∷ 1 ∷ 1 ∷ 1 ∷ 9 ∷ 5 ∷ 1 ∷ 32 ∷ 0 ∷ 0 ∷ 0 ∷ 0 ∷ 0 ∷ []))
    -- 1,2 above 3,4 times 5,6 above 7,8 is 19,22 above 43,50, by the network of the slanted grid and by the plain run
    ∷ (let end = run gauge_limits matrix_slanted 1000 (started_with matrix_slanted matrix_values 165) in
    naturals (ran_values end.answer ++ (result gauge_limits matrix_slanted (replicate 12 1) end.memory).output)
    is naturals (88 ∷ 0 ∷ 1 ∷ 2 ∷ 3 ∷ 4 ∷ 5 ∷ 6 ∷ 7 ∷ 8 ∷ 19 ∷ 22 ∷ 43 ∷ 50 ∷ []))
    ∷ (naturals (plain_run gauge_limits matrix_slanted matrix_values (replicate 12 1)).output
    is naturals (1 ∷ 2 ∷ 3 ∷ 4 ∷ 5 ∷ 6 ∷ 7 ∷ 8 ∷ 19 ∷ 22 ∷ 43 ∷ 50 ∷ []))
    ∷ []

pub proved : map (λ c. c.got) slanted ≡ map (λ c. c.wanted) slanted
unfolding eq_list first_wrong bits_at word_at gcd_of euclid filter any every position best best_or total each numbers_from refusal
    progression instances line_of points widen_all around box_of sent_to first_of last_of stays march line_in pipe used_on pipe_elements
    nest_of
    stream_of body_line description_of run_lines touched_from scatter execute execute_all tests_from refusal_of accept insert_by_step
    by_step pipes_from
    array_of move_down sound write_all apply first_ready run_steps apply_all table start run result plain_run
proved = agree slanted refl
