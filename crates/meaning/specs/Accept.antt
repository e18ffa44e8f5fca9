-- Document 01, Accept: the refusals 6 to 17, each by its number, and 33 of request 2.9, all in order, and the figures and divisors that it
-- answers. 9 is never given (request 2.2) and keeps its number.
use Rattle.std.specs.Prelude.{◌≡◌, Bool, not, cond, ◌&&◌, List, [], ◌∷◌, ◌++◌, map, ℕ, suc, ◌+◌, ◌*◌, eqb, ltb, length, get_or, ℤ, pos}
use Rattle.std.specs.Prelude.{negsuc, ◌*ℤ◌}
use Rattle.std.specs.Int.Signed.{le_z, lt_z}
use Rattle.integers.specs.Words.{eq_z}
use Rattle.integers.specs.Vectors.{zero2}
use Rattle.integers.specs.declared.V3.{V3}
use Rattle.integers.specs.declared.Matrix.{Matrix}
use Rattle.meaning.specs.declared.Limits.{Limits}
use Rattle.meaning.specs.declared.Nest.{Nest}
use Rattle.meaning.specs.declared.Stream.{Stream}
use Rattle.meaning.specs.declared.Description.{Description}
use Rattle.meaning.specs.declared.Figures.{Figures}
use Rattle.meaning.specs.declared.Divisors.{Divisors}
use Rattle.meaning.specs.Lists.{any, total}
use Rattle.meaning.specs.Tests.{Test, ◌if◌, refusal}
use Rattle.meaning.specs.Loops.{instances, step_of, place_of, unshortened, divisor, increment}
use Rattle.meaning.specs.Space.{eq2, processes}
use Rattle.meaning.specs.Streams.{line, stationary, hop, elements, touched}
use Rattle.meaning.specs.Pipes.{pipe, entries, pipe_elements}
use Rattle.meaning.specs.Description.{sizes_of, description_of, streams_of, written, refused1, refused2, refused3, refused4, refused5}
use Rattle.meaning.specs.Body.{element_count}
use Rattle.meaning.specs.Answers.{accept_number, Acceptance, Accepted, Refused}

-- ---- 33: the board

-- 33: "another board word"
abbrev pub refused33 : Limits → Bool
refused33 l = ltb 1 l.board

-- ---- 6, 7, 8 and 10: the nest

-- a vector is zero
abbrev pub is_zero3 : V3 → Bool
is_zero3 v = eq_z v.x (pos 0) && eq_z v.y (pos 0) && eq_z v.z (pos 0)

-- a matrix of two rows has "rank below r−1": the rows are dependent (of two loops: the row is zero)
abbrev pub low_rank : Matrix → Bool
low_rank m = is_zero3 (unshortened m)

-- a component from −1 to 1
abbrev pub small : ℤ → Bool
small c = le_z (negsuc 0) c && le_z c (pos 1)

-- 6: "over 4,096 instances", or the limit of the bench: "6 and 10 use that board's pair"
abbrev pub refused6 : Limits → Nest → Bool
refused6 l n = ltb l.instances (length (instances n))

-- 7: "place of rank below r−1"
abbrev pub refused7 : Nest → Bool
refused7 n = low_rank n.place

-- 8: "increment of step 0"
abbrev pub refused8 : Nest → Bool
refused8 n = eq_z (step_of n (increment n)) (pos 0)

-- 10: "over 1,024 processes", or that of the bench
abbrev pub refused10 : Limits → Nest → Bool
refused10 l n = ltb l.processes (length (processes n))

-- ---- 11 to 17: one stream

-- 11: "index map of rank below r−1"
abbrev pub refused11 : Stream → Bool
refused11 s = low_rank s.map

-- 12: "line of step 0"
abbrev pub refused12 : Nest → Stream → Bool
refused12 n s = eq_z (step_of n (line n s)) (pos 0)

-- 13: "a component of the move outside −1 to 1": of place of the line
abbrev pub refused13 : Nest → Stream → Bool
refused13 n s = not (small (place_of n (line n s)).a && small (place_of n (line n s)).b)

-- 14: "moving with a hop over" the limit, 5 by request 2.8
abbrev pub refused14 : Limits → Nest → Stream → Bool
refused14 l n s = not (stationary n s) && ltb l.hop (hop n s)

-- 15: "written, and the first non-zero component of its line has the other sign than that loop's direction"
abbrev pub against : V3 → V3 → Bool
against direction v =
    cond (eq_z v.x (pos 0))
    (cond (eq_z v.y (pos 0)) (lt_z (direction.z *ℤ v.z) (pos 0)) (lt_z (direction.y *ℤ v.y) (pos 0)))
    (lt_z (direction.x *ℤ v.x) (pos 0))

abbrev pub refused15 : Bool → Nest → Stream → Bool
refused15 written n s = written && against n.direction (line n s)

-- 16: "moving with a loading vector, or stationary with none"
abbrev pub refused16 : Nest → Stream → Bool
refused16 n s = cond (stationary n s) (eq2 s.loading zero2) (not (eq2 s.loading zero2))

-- 17: "some element of the box is touched by no instance"
abbrev pub refused17 : Nest → Stream → Bool
refused17 n s = any (λ e. not (touched n s e)) (elements n s)

-- ---- all, in order

-- "then by stream, lowest first, and for each in this order"
abbrev pub stream_tests : Limits → Nest → Bool → Stream → List Test
stream_tests l n w s =
    (11 if refused11 s) ∷ (12 if refused12 n s) ∷ (13 if refused13 n s) ∷ (14 if refused14 l n s) ∷ (15 if refused15 w n s)
    ∷ (16 if refused16 n s) ∷ (17 if refused17 n s) ∷ []

-- of the streams from number i on
unfoldable pub tests_from : Limits → Description → ℕ → List Stream → List Test
tests_from l d i [] = []
tests_from l d i (s ∷ ss) = stream_tests l d.nest (written d i) s ++ tests_from l d (suc i) ss

abbrev pub nest_tests : Limits → Nest → List Test
nest_tests l n =
    (5 if refused5 n) ∷ (6 if refused6 l n) ∷ (7 if refused7 n) ∷ (8 if refused8 n) ∷ (10 if refused10 l n) ∷ []

abbrev pub byte_tests : List ℕ → List Test
byte_tests s =
    (1 if refused1 s) ∷ (2 if refused2 (sizes_of s)) ∷ (3 if refused3 s (sizes_of s)) ∷ (4 if refused4 s (sizes_of s)) ∷ []

-- "33 for another board word, before 1"
abbrev pub all_tests : Limits → List ℕ → List Test
all_tests l s =
    let d = description_of s in (33 if refused33 l) ∷ (byte_tests s ++ (nest_tests l d.nest ++ tests_from l d 0 (streams_of d)))

-- the refusal of a description, 0 if it is accepted
unfoldable pub refusal_of : Limits → List ℕ → ℕ
refusal_of l s = refusal (all_tests l s)

-- ---- the figures

abbrev pub pipe_count : Nest → List Stream → ℕ
pipe_count n ss = total (λ s. length (entries n s)) ss

-- "P(1 + sum of (4 + h) over streams) + sum of (2 + h) over pipes"
abbrev pub state_words : Nest → List Stream → ℕ
state_words n ss =
    length (processes n) * (1 + total (λ s. 4 + hop n s) ss) + total (λ s. length (entries n s) * (2 + hop n s)) ss

-- "the instances plus, for each pipe, twice its elements times one more than its processes"
abbrev pub total_steps : Nest → List Stream → ℕ
total_steps n ss =
    length (instances n) + total (λ s. total (λ y. 2 * (length (pipe_elements n s y) * suc (length (pipe n s y)))) (entries n s)) ss

abbrev pub figures : Description → Figures
figures d =
    let n = d.nest in
    let ss = streams_of d in
    record {
      processes = length (processes n);
      instances = length (instances n);
      elements = element_count n ss;
      pipes = pipe_count n ss;
      words = state_words n ss;
      steps = total_steps n ss;
    }

-- ---- the divisors, request 2.7: "for place and for each stream"

-- that of stream i, 0 past the streams in use
abbrev pub stream_divisor : Description → ℕ → ℕ
stream_divisor d i = get_or (map (λ s. divisor s.map) (streams_of d)) i 0

abbrev pub divisors : Description → Divisors
divisors d =
    record {
      place = divisor d.nest.place;
      stream0 = stream_divisor d 0;
      stream1 = stream_divisor d 1;
      stream2 = stream_divisor d 2;
      stream3 = stream_divisor d 3;
      stream4 = stream_divisor d 4;
      stream5 = stream_divisor d 5;
    }

-- ---- the call

-- the answer to a description whose refusal is k
abbrev pub answer_of : List ℕ → ℕ → Acceptance
answer_of s k = cond (eqb k 0) (Accepted (figures (description_of s)) (divisors (description_of s))) (Refused k)

-- ACCEPT
unfoldable pub accept : Limits → List ℕ → Acceptance
accept l s = answer_of s (refusal_of l s)

-- a description is accepted
abbrev pub Accepts : Limits → List ℕ → Type 0
Accepts l s = accept_number (accept l s) ≡ 0
