-- Runs under guards (request 2.5), plainly and by the network in two orders.
use Rattle.std.specs.Prelude.{◌≡◌, refl, List, [], ◌∷◌, ◌++◌, map, ℕ, length, replicate}
use Rattle.integers.specs.Bytes.{bits_at, word_at}
use Rattle.lattice.specs.Gcd.{gcd_of, euclid}
use Rattle.meaning.specs.Limits.{gauge_limits}
use Rattle.meaning.specs.Lists.{filter, any, every, position, best, best_or, total, each, numbers_from}
use Rattle.meaning.specs.Tests.{refusal}
use Rattle.meaning.specs.Loops.{progression, instances, line_of}
use Rattle.meaning.specs.Space.{points, widen_all, around, box_of, sent_to, first_of, last_of}
use Rattle.meaning.specs.Pipes.{stays, march, line_in, pipe, used_on, pipe_elements}
use Rattle.meaning.specs.Description.{nest_of, stream_of, body_line, description_of}
use Rattle.meaning.specs.Body.{run_lines, touched_from, scatter, execute, execute_all}
use Rattle.meaning.specs.Accept.{tests_from, refusal_of, accept}
use Rattle.meaning.specs.Array.{insert_by_step, by_step, pipes_from, array_of}
use Rattle.meaning.specs.Rules.{move_down, sound, write_all, apply, first_ready, run_steps, apply_all}
use Rattle.meaning.specs.Calls.{start, run, result, plain_run}
use Rattle.meaning.specs.Comparison.{Case, ◌is◌, naturals, eq_list, first_wrong, agree}
use Rattle.meaning.specs.Designs.{uncleared, cleared_one, cleared_turned, cleared_column, started_with}
use Rattle.whole_runs.specs.Runs.{backwards}

-- request 2.5: a design run to its end from a state of n words, the lowest ready step first and the highest, leaves what the plain run does
abbrev both_ways : List ℕ → List ℕ → ℕ → List ℕ → List Case
both_ways s vs n wanted =
    let start = started_with s vs n in
    let end = (run gauge_limits s 1000 (run gauge_limits s 50 start).memory).memory in
    let reversed = backwards (array_of (description_of s)) 1000 start in
    (naturals (plain_run gauge_limits s vs (replicate (length vs) 1)).output is naturals wanted)
    ∷ (naturals (result gauge_limits s (replicate (length vs) 1) end).output is naturals wanted)
    ∷ (naturals (reversed.state ++ reversed.received) is naturals (end.state ++ end.received))
    ∷ []

-- c is cleared by guards, whatever it held: in design one, in direction −1 from bounds other than 0, and with three loops
abbrev pub cleared : List Case
cleared =
    both_ways cleared_one uncleared 61 (1 ∷ 2 ∷ 3 ∷ 4 ∷ 5 ∷ 6 ∷ 4 ∷ 13 ∷ 28 ∷ 27 ∷ 18 ∷ [])
    ++ (both_ways cleared_turned uncleared 61 (1 ∷ 2 ∷ 3 ∷ 4 ∷ 5 ∷ 6 ∷ 4 ∷ 13 ∷ 28 ∷ 27 ∷ 18 ∷ [])
    ++ both_ways cleared_column (1 ∷ 2 ∷ 3 ∷ 4 ∷ 5 ∷ 6 ∷ 7 ∷ 8 ∷ []) 44 (1 ∷ 2 ∷ 3 ∷ 4 ∷ 5 ∷ 6 ∷ 17 ∷ 39 ∷ []))

pub proved : map (λ c. c.got) cleared ≡ map (λ c. c.wanted) cleared
unfolding eq_list first_wrong backwards bits_at word_at gcd_of euclid filter any every position best best_or total each numbers_from refusal
    progression instances line_of points widen_all around box_of sent_to first_of last_of stays march line_in pipe used_on pipe_elements
    nest_of
    stream_of body_line description_of run_lines touched_from scatter execute execute_all tests_from refusal_of accept insert_by_step
    by_step pipes_from
    array_of move_down sound write_all apply first_ready run_steps apply_all start run result plain_run
proved = agree cleared refl
