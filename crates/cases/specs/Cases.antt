-- Document 01's cases marked P, as the requests leave them: one table, proved together by computing the definitions on the designs' bytes.
use Rattle.std.specs.Prelude.{◌≡◌, refl, false, List, [], ◌∷◌, ◌++◌, map, ℕ, get_or, replicate, drop, ℤ, pos, negsuc}
use Rattle.integers.specs.Bytes.{bits_at, word_at}
use Rattle.lattice.specs.Gcd.{gcd_of, euclid}
use Rattle.meaning.specs.declared.Row.{Row}
use Rattle.meaning.specs.Limits.{gauge_limits, state_words_most}
use Rattle.meaning.specs.Lists.{filter, any, every, position, best, best_or, total, each, numbers_from}
use Rattle.meaning.specs.Tests.{refusal}
use Rattle.meaning.specs.Loops.{progression, instances, line_of, increment}
use Rattle.meaning.specs.Space.{points, widen_all, around, box_of, sent_to, first_of, last_of}
use Rattle.meaning.specs.Streams.{hop}
use Rattle.meaning.specs.Pipes.{stays, march, line_in, pipe, used_on, pipe_elements}
use Rattle.meaning.specs.Description.{nest_of, stream_of, body_line, description_of}
use Rattle.meaning.specs.Body.{run_lines, touched_from, scatter, execute, execute_all}
use Rattle.meaning.specs.Accept.{stream_tests, tests_from, refusal_of, accept}
use Rattle.meaning.specs.Array.{insert_by_step, by_step, pipes_from, array_of}
use Rattle.meaning.specs.Rules.{move_down, sound, write_all, apply, first_ready, run_steps, apply_all}
use Rattle.meaning.specs.Answers.{accept_number, accept_values}
use Rattle.meaning.specs.Calls.{table, start, run, result, plain_run}
use Rattle.meaning.specs.LongerStrides.{former_accept}
use Rattle.meaning.specs.Comparison.{Case, ◌is◌, naturals, number, planar, eq_list, first_wrong, agree}
use Rattle.meaning.specs.Singles.{products, hops}
use Rattle.meaning.specs.Designs.{pair, polynomial, design_one, design_one_by, design_two, decimating, values, fixed_values, nest}
use Rattle.meaning.specs.Designs.{stream, blank, started_with, undivided}

-- c's values by the plain run, and by the network run to its end from a state of n words, in two calls, which are computed sooner than one
abbrev pub plainly : List ℕ → List ℕ → List ℤ
plainly s vs = naturals (drop 6 (plain_run gauge_limits s vs (replicate 11 1)).output)

abbrev pub by_network : List ℕ → List ℕ → ℕ → List ℤ
by_network s vs n =
    let half = (run gauge_limits s 60 (started_with s vs n)).memory in
    naturals (drop 6 (result gauge_limits s (replicate 11 1) (run gauge_limits s 1000 half).memory).output)

abbrev pub product : List ℤ
product = naturals (4 ∷ 13 ∷ 28 ∷ 27 ∷ 18 ∷ [])

-- the same as 16.16 numbers
abbrev pub fixed_products : List ℤ
fixed_products = naturals (262144 ∷ 851968 ∷ 1835008 ∷ 1769472 ∷ 1179648 ∷ [])

-- design two with another step and place
abbrev slanted : List ℤ → List ℤ → List ℕ
slanted step place = polynomial 2 2 step place (pair (pos 1) (pos 1)) (pos 0 ∷ pos 0 ∷ pos 1 ∷ [])

-- that of request 2.2
abbrev strided : List ℕ
strided = slanted (pair (pos 3) (pos 1)) (pair (pos 2) (pos 1))

-- design one on 0..m and 0..n with place p times i
abbrev sized : ℤ → ℕ → ℕ → List ℕ
sized p m n = polynomial m n (pair (pos 2) (pos 1)) (pair p (pos 0)) (pair (pos 1) (pos 1)) (pos 1 ∷ pos 0 ∷ pos 0 ∷ [])

-- row 1 of Table
abbrev process_one : Row
process_one = get_or (table gauge_limits design_one (replicate 3 blank)).rows 1 blank

abbrev others : List Case
others =
    -- increments (0,1) and (1,−1)
    (planar (increment (nest design_one)) is pair (pos 0) (pos 1))
    ∷ (planar (increment (nest design_two)) is pair (pos 1) (negsuc 0))
    -- hop of b is 2 in both
    ∷ (number (hop (nest design_one) (stream design_one 1)) is number 2)
    ∷ (number (hop (nest design_two) (stream design_two 1)) is number 2)
    -- design one, process 1: first (1,0), last (1,2), c soak 1 and drain 1
    ∷ (planar process_one.first is pair (pos 1) (pos 0))
    ∷ (planar process_one.last is pair (pos 1) (pos 2))
    ∷ (number (get_or process_one.soak 2 0) is number 1)
    ∷ (number (get_or process_one.drain 2 0) is number 1)
    -- state words 61, steps 97 in design one; design two takes 141 steps
    ∷ (naturals (accept_values (accept gauge_limits design_one)) is naturals (3 ∷ 9 ∷ 11 ∷ 3 ∷ 61 ∷ 97 ∷ undivided))
    ∷ (naturals (accept_values (accept gauge_limits design_two)) is naturals (5 ∷ 9 ∷ 11 ∷ 3 ∷ 95 ∷ 141 ∷ undivided))
    -- a 1,2,3, b 4,5,6, c zeros give c 4,13,28,27,18: by the plain run in both designs
    ∷ (plainly design_one values is product)
    ∷ (plainly design_two values is product)
    -- design one with operation 6 has the figures of design one; a 1.0, 2.0, 3.0, b 4.0, 5.0, 6.0 give c 4.0, 13.0, 28.0, 27.0, 18.0
    ∷ (naturals (accept_values (accept gauge_limits (design_one_by 6 2))) is naturals (3 ∷ 9 ∷ 11 ∷ 3 ∷ 61 ∷ 97 ∷ undivided))
    ∷ (plainly (design_one_by 6 2) fixed_values is fixed_products)
    -- design two with place i−j is 13
    ∷ (number (accept_number (accept gauge_limits (slanted (pair (pos 2) (pos 1)) (pair (pos 1) (negsuc 0))))) is number 13)
    -- with place 2i+j and step 3i+j its increment is (1,−2) (request 2.2), and it is 13: not of a, but of b, which is unwritten as a is
    ∷ (planar (increment (nest strided)) is pair (pos 1) (negsuc 1))
    ∷ (number (accept_number (accept gauge_limits strided)) is number 13)
    ∷ (number (refusal (stream_tests gauge_limits (nest strided) false (stream strided 0))) is number 0)
    ∷ (number (refusal (stream_tests gauge_limits (nest strided) false (stream strided 1))) is number 13)
    -- it was 9 before the request, and design one was accepted then too
    ∷ (number (accept_number (former_accept gauge_limits strided)) is number 9)
    ∷ (number (accept_number (former_accept gauge_limits design_one)) is number 0)
    -- the decimating filter: 7 processes, 9 instances, 15 elements, 3 pipes, 129 state words, 249 steps; it was 9
    ∷ (naturals (accept_values (accept gauge_limits (decimating 2 2))) is naturals (7 ∷ 9 ∷ 15 ∷ 3 ∷ 129 ∷ 249 ∷ undivided))
    ∷ (number (accept_number (former_accept gauge_limits (decimating 2 2))) is number 9)
    -- on loops 0..3 twice: 10 processes, 478 steps
    ∷ (naturals (accept_values (accept gauge_limits (decimating 3 3))) is naturals (10 ∷ 16 ∷ 21 ∷ 3 ∷ 180 ∷ 478 ∷ undivided))
    -- bounds 0..63 twice pass 6: with place 0 Accept answers 7, which comes after 6; 0..63 and 0..64 are 6
    ∷ (number (accept_number (accept gauge_limits (sized (pos 0) 63 63))) is number 7)
    ∷ (number (accept_number (accept gauge_limits (sized (pos 0) 63 64))) is number 6)
    ∷ (number (accept_number (accept gauge_limits (sized (pos 1) 63 64))) is number 6)
    -- so a state has at most 99,328 words
    ∷ (number state_words_most is number 99328)
    -- design one with bounds 0..0 takes 13 steps
    ∷ (number (get_or (accept_values (accept gauge_limits (sized (pos 1) 0 0))) 5 0) is number 13)
    -- and the same c by the network, which takes longest to compute
    ∷ (by_network design_one values 61 is product)
    ∷ (by_network design_two values 95 is product)
    ∷ (by_network (design_one_by 6 2) fixed_values 61 is fixed_products)
    ∷ []

-- with those that `meaning` computes for itself: the products of request 2.1 and the hops of request 2.8
abbrev pub cases : List Case
cases = products ++ (hops ++ others)

pub proved : map (λ c. c.got) cases ≡ map (λ c. c.wanted) cases
unfolding eq_list first_wrong bits_at word_at gcd_of euclid filter any every position best best_or total each numbers_from refusal
    progression instances line_of points widen_all around box_of sent_to first_of last_of stays march line_in pipe used_on pipe_elements
    nest_of
    stream_of body_line description_of run_lines touched_from scatter execute execute_all tests_from refusal_of accept insert_by_step
    by_step pipes_from
    array_of move_down sound write_all apply first_ready run_steps apply_all table start run result plain_run
proved = agree cases refl
