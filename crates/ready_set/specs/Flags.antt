-- A set of numbers, as a test, in the words of a list: a bit for each number below 32,768, and two levels of words that say which words are
-- not 0.
use Rattle.std.specs.Prelude.{◌≡◌, Bool, cond, not, ◌||◌, List, ℕ, ◌+◌, ◌/◌, ◌%◌, ◌^◌, ◌<◌, eqb, length, get_or, set}
use Rattle.std.specs.Int.Bits.{bit_xor}
use Rattle.bits.specs.Numbers.{below}
use Rattle.bits.specs.Tested.{word_of}

-- the numbers that may be members, and the words of their bits and of the two levels above them
abbrev pub members : ℕ
members = 32768

abbrev pub flag_words : ℕ
flag_words = 512 + 8 + 1

-- word k of a set is not 0
abbrev pub used : (ℕ → Bool) → ℕ → Bool
used f k = not (eqb (word_of f k) 0)

-- word k of those is not 0; there are eight
abbrev pub tops : (ℕ → Bool) → ℕ → Bool
tops f = below 8 (used (used f))

-- the n words from word `from` on are the first words of a set
pub record Level (f : ℕ → Bool) (l : List ℕ) (from n : ℕ) : Type 0 where
  pub each : (k : ℕ) → k < n → get_or l (from + k) 0 ≡ word_of f k

-- the words of a set
pub record Kept (f : ℕ → Bool) (l : List ℕ) : Type 0 where
  pub words : length l ≡ flag_words
  pub low : Level f l 0 512
  pub middle : Level (used f) l 512 8
  pub high : Level (tops f) l 520 1

-- the set in which r is a member exactly if b
abbrev pub put : (ℕ → Bool) → ℕ → Bool → ℕ → Bool
put f r b = λ x. cond (eqb x r) b (f x)

-- ---- what the functions read and write

-- the word of number r among the words from `from` on, with the bit of r turned over
abbrev pub word_flipped : List ℕ → ℕ → ℕ → ℕ
word_flipped l from r = bit_xor (get_or l (from + r / 64) 0) (2 ^ (r % 64))

abbrev pub flipped : List ℕ → ℕ → ℕ → List ℕ
flipped l from r = set l (from + r / 64) (word_flipped l from r)

-- that word was 0, or has become 0
abbrev pub turns : List ℕ → ℕ → ℕ → Bool
turns l from r = eqb (get_or l (from + r / 64) 0) 0 || eqb (word_flipped l from r) 0
