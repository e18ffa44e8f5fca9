-- Words as bytes: how many they are, and that they are read again as written. Assumes nothing.
use Rattle.std.specs.Prelude.{◌≡◌, refl, List, [], ◌∷◌, ℕ, ◌+◌, ◌*◌, ◌/◌, ◌%◌, ◌^◌, ◌<◌, length, get_or, ℤ, pos, negsuc}
use Rattle.std.proofs.Common.{◌∙◌, ap, div-add-mod', arith, length-append, shr-shr, to_z, of_z}
use Rattle.std.proofs.Math.Pow.{shr_mod}
use Rattle.std.specs.Int.Signed.{mag}
use Rattle.std.specs.Int.{w32}
use Rattle.integers.specs.Bytes.{bits_at, word_at}
use Rattle.integers.specs.Words.{tower}
use Rattle.meaning.specs.Lists.{each}
use Rattle.meaning.specs.Description.{bytes_of, bytes}
use Rattle.lists.specs.Members.{each_at}

pub bytes_length : (ws : List ℤ) → length (bytes ws) ≡ 4 * length ws
unfolding each
bytes_length [] = refl
bytes_length (w ∷ ws) =
    length-append (bytes_of (of_z w32 w)) (bytes ws) ∙ ap (λ (n : ℕ). 4 + n) (bytes_length ws) ∙ omega arith

-- the bytes of 32 bits, put together again
put_together : (u : ℕ) → u < 2 ^ 32 → u % 256 + 256 * (u / 256 % 256) + 65536 * (u / 65536 % 256) + 16777216 * (u / 16777216 % 256) ≡ u
put_together u h =
    let a : u / 256 / 256 ≡ u / 65536 = shr-shr u 8 8 in
    let b : u / 65536 / 256 ≡ u / 16777216 = shr-shr u 16 8 in
    let c : u / 16777216 % 256 ≡ u / 16777216 = shr_mod 8 24 h in
    omega (arith, div-add-mod' u 256, div-add-mod' (u / 256) 256, div-add-mod' (u / 65536) 256)

pub bytes_bits : (ws : List ℤ) (k : ℕ) → k < length ws → of_z w32 (get_or ws k (pos 0)) < 2 ^ 32
    → bits_at (bytes ws) k ≡ of_z w32 (get_or ws k (pos 0))
unfolding bits_at
bytes_bits ws k h l =
    rw (
      byte (4 * k) 0 (omega arith) (omega arith),
      byte (4 * k + 1) 1 (omega arith) (omega arith),
      byte (4 * k + 2) 2 (omega arith) (omega arith),
      byte (4 * k + 3) 3 (omega arith) (omega arith),
    )
    (put_together (of_z w32 (get_or ws k (pos 0))) l)
  where
    byte : (i j : ℕ) → i ≡ k * 4 + j → j < 4 → get_or (bytes ws) i 0 ≡ get_or (bytes_of (of_z w32 (get_or ws k (pos 0)))) j 0
    byte i j e m =
        ap (λ (n : ℕ). get_or (bytes ws) n 0) e ∙ each_at (λ w. bytes_of (of_z w32 w)) 4 (λ w. refl) ws k j (pos 0) 0 h m

-- the bits of a word that fits
pub bits_fit : (w : ℤ) → mag w < 2 ^ 31 → of_z w32 w < 2 ^ 32
bits_fit (pos n) h = omega arith
bits_fit (negsuc n) h = omega arith

pub bytes_word : (ws : List ℤ) (k : ℕ) → k < length ws → mag (get_or ws k (pos 0)) < 2 ^ 31 → word_at (bytes ws) k ≡ get_or ws k (pos 0)
unfolding word_at
bytes_word ws k h l = ap (to_z w32) (bytes_bits ws k h (bits_fit (get_or ws k (pos 0)) l)) ∙ tower (get_or ws k (pos 0)) l
