-- Words of 32 bits in a list of bytes, least byte first; bytes past the end count as 0. Assumes nothing.
use Rattle.std.specs.Prelude.{List, ℕ, ◌+◌, ◌*◌, get_or, ℤ}
use Rattle.std.specs.Int.{w32}
use Rattle.std.proofs.Common.{to_z}

-- the bits of word k
unfoldable pub bits_at : List ℕ → ℕ → ℕ
bits_at s k = get_or s (4 * k) 0 + 256 * get_or s (4 * k + 1) 0 + 65536 * get_or s (4 * k + 2) 0 + 16777216 * get_or s (4 * k + 3) 0

-- and its number, in two's complement
unfoldable pub word_at : List ℕ → ℕ → ℤ
word_at s k = to_z w32 (bits_at s k)
