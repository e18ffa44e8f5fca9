-- Two numbers in a word, and each read off it. Assumes nothing.
use Rattle.std.specs.Prelude.{◌≡◌, ℕ, ◌+◌, ◌*◌, ◌/◌, ◌%◌, ◌<◌}
use Rattle.std.proofs.Common.{arith}

-- the low number is below the first, 2^17, the high one below the second, 2^15
abbrev pub low_end : ℕ
low_end = 131072

abbrev pub high_end : ℕ
high_end = 32768

abbrev pub pack : ℕ → ℕ → ℕ
pack a b = a + 131072 * b

abbrev pub low : ℕ → ℕ
low w = w % 131072

abbrev pub high : ℕ → ℕ
high w = w / 131072

pub low_pack : (a b : ℕ) → a < low_end → low (pack a b) ≡ a
low_pack a b h = omega arith

pub high_pack : (a b : ℕ) → a < low_end → high (pack a b) ≡ b
high_pack a b h = omega arith
