-- Cases of request 2.9, computed: what each board holds, another board word, and calls of one run that are told different boards.
use Rattle.std.specs.Prelude.{◌≡◌, refl, List, [], ◌∷◌, ◌++◌, map, ℕ, replicate, ℤ, pos}
use Rattle.integers.specs.Bytes.{bits_at, word_at}
use Rattle.lattice.specs.Gcd.{gcd_of, euclid}
use Rattle.meaning.specs.Limits.{limits_of, gauge_limits, bench_limits}
use Rattle.meaning.specs.Lists.{filter, any, every, position, best, best_or, total, each, numbers_from}
use Rattle.meaning.specs.Tests.{refusal}
use Rattle.meaning.specs.Loops.{progression, instances, line_of}
use Rattle.meaning.specs.Space.{points, widen_all, around, box_of, sent_to, first_of, last_of}
use Rattle.meaning.specs.Pipes.{stays, march, line_in, pipe, used_on, pipe_elements}
use Rattle.meaning.specs.Description.{bytes, nest_of, stream_of, body_line, description_of}
use Rattle.meaning.specs.Body.{run_lines, touched_from, scatter, execute, execute_all}
use Rattle.meaning.specs.Accept.{tests_from, refusal_of, accept}
use Rattle.meaning.specs.Array.{insert_by_step, by_step, pipes_from, array_of}
use Rattle.meaning.specs.Rules.{move_down, sound, write_all, apply, first_ready, run_steps, apply_all}
use Rattle.meaning.specs.Answers.{accept_number, accept_values, ran_number, ran_values}
use Rattle.meaning.specs.Calls.{start, run, result}
use Rattle.meaning.specs.Comparison.{Case, ◌is◌, naturals, number, eq_list, first_wrong, agree}
use Rattle.meaning.specs.Designs.{line, pair, polynomial, design_one, values, started_with, undivided}

-- the answer's number on a board
abbrev on : ℕ → List ℕ → List ℤ
on board s = number (accept_number (accept (limits_of board) s))

-- design one on 0..m and 0..n with place 0, which is 7
abbrev still : ℕ → ℕ → List ℕ
still m n = polynomial m n (pair (pos 2) (pos 1)) (pair (pos 0) (pos 0)) (pair (pos 1) (pos 1)) (pos 1 ∷ pos 0 ∷ pos 0 ∷ [])

-- loops 0..x, 0..y and 0..z, place (i, j), step i+j+k, and one stream with index map 0, which is 11
abbrev block : ℕ → ℕ → ℕ → List ℕ
block x y z =
    bytes
    ((pos 3 ∷ pos 1 ∷ pos 1 ∷ pos 0 ∷ pos 0 ∷ pos 0 ∷ pos x ∷ pos y ∷ pos z ∷ pos 1 ∷ pos 1 ∷ pos 1 ∷ pos 1 ∷ pos 1 ∷ pos 1 ∷ [])
    ++ ((pos 1 ∷ pos 0 ∷ pos 0 ∷ pos 0 ∷ pos 1 ∷ pos 0 ∷ []) ++ (replicate 8 (pos 0) ++ line 0 0 0 0)))

abbrev pub boards : List Case
boards =
    -- 0..31 twice pass 6 on the bench; 0..31 and 0..32 are 6 there, though the gauge answers 7, and 0..63 twice pass on the gauge alone
    (on 1 (still 31 31) is number 7)
    ∷ (on 1 (still 31 32) is number 6)
    ∷ (on 0 (still 31 32) is number 7)
    ∷ (on 1 (still 63 63) is number 6)
    ∷ (on 0 (still 63 63) is number 7)
    -- 16×16×4 passes 10 on the bench; 17×16×3 is 10, and passes on the gauge
    ∷ (on 1 (block 15 15 3) is number 11)
    ∷ (on 1 (block 16 15 2) is number 10)
    ∷ (on 0 (block 16 15 2) is number 11)
    -- another board word is 33 whatever the bytes; an empty description is 1 on both boards
    ∷ (on 2 [] is number 33)
    ∷ (on 4294967295 [] is number 33)
    ∷ (on 2 (still 31 32) is number 33)
    ∷ (on 2 design_one is number 33)
    ∷ (on 0 [] is number 1)
    ∷ (on 1 [] is number 1)
    -- design one on the bench
    ∷ (naturals (accept_values (accept bench_limits design_one)) is naturals (3 ∷ 9 ∷ 11 ∷ 3 ∷ 61 ∷ 97 ∷ undivided))
    -- 60 steps on the bench after a start on the gauge, none on a board that is not there, and the rest on the gauge
    ∷ (let half = run bench_limits design_one 60 (started_with design_one values 61) in
    let none = run (limits_of 2) design_one 1000 half.memory in
    let end = run gauge_limits design_one 1000 none.memory in
    (naturals (ran_values half.answer ++ (ran_number none.answer ∷ ran_values end.answer)
    ++ (result bench_limits design_one (replicate 11 1) end.memory).output)
    is naturals (60 ∷ 1 ∷ 33 ∷ 37 ∷ 0 ∷ 1 ∷ 2 ∷ 3 ∷ 4 ∷ 5 ∷ 6 ∷ 4 ∷ 13 ∷ 28 ∷ 27 ∷ 18 ∷ [])))
    ∷ []

pub proved : map (λ c. c.got) boards ≡ map (λ c. c.wanted) boards
unfolding eq_list first_wrong bits_at word_at gcd_of euclid filter any every position best best_or total each numbers_from refusal
    progression instances line_of points widen_all around box_of sent_to first_of last_of stays march line_in pipe used_on pipe_elements
    nest_of
    stream_of body_line description_of run_lines touched_from scatter execute execute_all tests_from refusal_of accept insert_by_step
    by_step pipes_from
    array_of move_down sound write_all apply first_ready run_steps apply_all start run result
proved = agree boards refl
