-- The word that characters are the decimal numeral of, 4,294,967,295 where they are none: where one of them is no digit, where there are
-- none, and where a word holds no such number. Assumes nothing.
use Rattle.std.specs.Prelude.{cond, List, ℕ, ◌+◌, ◌*◌, ◌-◌, min, eqb, ltb, length}
use Rattle.std.specs.List.{fold}

-- one character more
abbrev pub with_digit : ℕ → ℕ → ℕ
with_digit value c = cond (ltb c 48) 4294967295 (cond (ltb 57 c) 4294967295 (min (10 * value + (c - 48)) 4294967295))

-- the value of characters behind those of a value
abbrev pub value_of : ℕ → List ℕ → ℕ
value_of value digits = fold with_digit value digits

-- the word of a whole argument
abbrev pub numeral_of : List ℕ → ℕ
numeral_of digits = cond (eqb (length digits) 0) 4294967295 (value_of 0 digits)
