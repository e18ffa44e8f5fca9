-- Request 2.3, "a generated load": the generator, and its two calls, for any seed, sizes and lists: the answer, and the lent list
-- afterwards.
use Rattle.std.specs.Prelude.{cond, List, [], ◌∷◌, ◌++◌, map, ℕ, zero, suc, ◌*◌, ◌-◌, ◌/◌, ◌%◌, ◌^◌, eqb, ltb, length, drop, ℤ, pos}
use Rattle.std.specs.Prelude.{negsuc, nat_abs, ◌+ℤ◌, ◌-ℤ◌}
use Rattle.std.specs.Int.Bits.{bit_xor}
use Rattle.meaning.specs.declared.Range.{Range}
use Rattle.meaning.specs.declared.Sizes.{Sizes}
use Rattle.meaning.specs.Answers.{Answer, Made, MakeAnswer, Refused}
use Rattle.meaning.specs.Lists.{numbers, numbers_from}
use Rattle.meaning.specs.Tests.{Test, ◌if◌, refusal}
use Rattle.meaning.specs.Description.{bytes, words_of, range_at, is_direction, refused2}
use Rattle.meaning.specs.Calls.{answer}

-- ---- the generator

-- a word of 32 bits shifted to the left, and to the right
abbrev pub shift_left : ℕ → ℕ → ℕ
shift_left s x = (x * 2 ^ s) % 2 ^ 32

abbrev pub shift_right : ℕ → ℕ → ℕ
shift_right s x = x / 2 ^ s

-- "each shifted word combined by exclusive or with the unshifted one"
abbrev pub left : ℕ → ℕ → ℕ
left s x = bit_xor x (shift_left s x)

abbrev pub right : ℕ → ℕ → ℕ
right s x = bit_xor x (shift_right s x)

-- a round: "shift left 13, right 17, left 5"
abbrev pub round : ℕ → ℕ
round x = left 5 (right 17 (left 13 x))

-- the state after n rounds
unfoldable pub after : ℕ → ℕ → ℕ
after zero seed = seed
after (suc n) seed = round (after n seed)

-- "each state can be worked out from the one after it": a round undone shift by shift, the last first (`GeneratedLoad`); and n rounds
abbrev pub previous : ℕ → ℕ
previous y = left 26 (left 13 (right 17 (left 20 (left 10 (left 5 y)))))

unfoldable pub before : ℕ → ℕ → ℕ
before zero y = y
before (suc n) y = before n (previous y)

-- ---- FILL

-- an answer, and the list afterwards
pub record Filled : Type 0 where
  pub answer : Answer
  pub list : List ℕ

-- "29 for seed zero, checked before anything else; 31 for a list too short, last"
abbrev pub fill_tests : ℕ → ℕ → List ℕ → List Test
fill_tests seed n list = (29 if eqb seed 0) ∷ (31 if ltb (length list) n) ∷ []

-- "the first n places"; "the first value written is the state after the first such round"
unfoldable pub fill : ℕ → ℕ → List ℕ → Filled
fill seed n list =
    let k = refusal (fill_tests seed n list) in
    record {
      answer = answer k;
      list = cond (eqb k 0) (map (λ i. after (suc i) seed) (numbers n) ++ drop n list) list;
    }

-- ---- words drawn

-- how many words a range has
abbrev pub size_of : Range → ℕ
size_of r = suc (nat_abs (r.greatest -ℤ r.least))

-- "the least of its range plus the remainder by its size"
abbrev pub drawn_from : Range → ℕ → ℤ
drawn_from r x = r.least +ℤ pos (x % size_of r)

-- "directions by the lowest bit, 0 meaning −1"
abbrev pub drawn_direction : ℕ → ℤ
drawn_direction x = cond (eqb (x % 2) 0) (negsuc 0) (pos 1)

-- word k of a description, drawn by a state
abbrev pub drawn : Sizes → ℕ → ℕ → ℤ
drawn z k x = cond (is_direction z k) (drawn_direction x) (drawn_from (range_at z k) x)

-- ---- MAKE

-- the three sizes, and "its words after the three sizes drawn in file order": word 3 after the first round
abbrev pub made_words : Sizes → ℕ → List ℤ
made_words z seed =
    pos z.loops ∷ pos z.streams ∷ pos z.lines ∷ map (λ k. drawn z k (after (k - 2) seed)) (numbers_from 3 (words_of z - 3))

abbrev pub made : Sizes → ℕ → List ℕ
made z seed = bytes (made_words z seed)

-- an answer, and the output afterwards
pub record Described : Type 0 where
  pub answer : MakeAnswer
  pub output : List ℕ

-- "29 for seed zero, checked before anything else; 30 for sizes that Accept would decline by 2, next; 31 for an output too short, last"
abbrev pub make_tests : ℕ → Sizes → List ℕ → List Test
make_tests seed z out = (29 if eqb seed 0) ∷ (30 if refused2 z) ∷ (31 if ltb (length out) (4 * words_of z)) ∷ []

-- "a whole description of given sizes"; the answer is its number of bytes
unfoldable pub make : ℕ → Sizes → List ℕ → Described
make seed z out =
    let k = refusal (make_tests seed z out) in
    record {
      answer = cond (eqb k 0) (Made (4 * words_of z)) (Refused k);
      output = cond (eqb k 0) (made z seed ++ drop (4 * words_of z) out) out;
    }
