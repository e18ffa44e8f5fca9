-- The bytes of a made description: how many they are, and that its words are the sizes and those drawn. Assumes nothing.
use Rattle.std.specs.Prelude.{◌≡◌, ℕ, zero, suc, ◌+◌, ◌*◌, ◌-◌, ◌^◌, ◌≤◌, ◌<◌, length, get_or, ℤ, pos}
use Rattle.std.proofs.Common.{sym, ◌∙◌, ap, subst, arith, of_z}
use Rattle.std.specs.Int.Signed.{mag}
use Rattle.std.specs.Int.{w32}
use Rattle.integers.specs.Bytes.{bits_at, word_at}
use Rattle.integers.specs.Words.{fits, leaf}
use Rattle.meaning.specs.declared.Sizes.{Sizes}
use Rattle.meaning.specs.Description.{sizes_of, words_of}
use Rattle.meaning.specs.Conditions.{SizesFit}
use Rattle.meaning.specs.Generator.{after, drawn, made_words, made}
use Rattle.lists.specs.Bytes.{bytes_length, bytes_bits, bytes_word}
use Rattle.lists.specs.Rows.{length_numbers, get_d_numbers}
use Rattle.generated.specs.Drawn.{drawn_near}

-- ---- a made description

module _ (z : Sizes) (seed : ℕ) where
  pub words_length : length (made_words z seed) ≡ words_of z
  words_length =
      ap (λ (n : ℕ). suc (suc (suc n))) (length_numbers (λ k. drawn z k (after (k - 2) seed)) 3 (words_of z - 3)) ∙ omega arith

  pub made_length : length (made z seed) ≡ 4 * words_of z
  made_length = bytes_length (made_words z seed) ∙ ap (λ (n : ℕ). 4 * n) words_length

  pub word_drawn : (k : ℕ) → 3 ≤ k → k < words_of z → get_or (made_words z seed) k (pos 0) ≡ drawn z k (after (k - 2) seed)
  word_drawn zero h l = absurd (omega arith)
  word_drawn (suc zero) h l = absurd (omega arith)
  word_drawn (suc (suc zero)) h l = absurd (omega arith)
  word_drawn (suc (suc (suc k))) h l =
      let e : 3 + k ≡ suc (suc (suc k)) = omega arith in
      get_d_numbers (λ k. drawn z k (after (k - 2) seed)) (pos 0) 3 (words_of z - 3) k (omega arith)
      ∙ ap (λ (k : ℕ). drawn z k (after (k - 2) seed)) e

  pub made_word : SizesFit z → (k : ℕ) → 3 ≤ k → k < words_of z → word_at (made z seed) k ≡ drawn z k (after (k - 2) seed)
  made_word f k h l =
      let e = word_drawn k h l in
      bytes_word (made_words z seed) k (omega (arith, words_length))
      (subst (λ (w : ℤ). mag w < 2 ^ 31) (sym e) (fits tt (leaf (drawn_near z k f (after (k - 2) seed)))).sfits) ∙ e

  pub made_sizes : SizesFit z → sizes_of (made z seed) ≡ z
  made_sizes f i =
      record {
        loops = size 0 (omega arith) (omega (arith, f.loops.1)) i;
        streams = size 1 (omega arith) (omega (arith, f.streams.1)) i;
        lines = size 2 (omega arith) (omega (arith, f.lines.1)) i;
      }
    where
      size : (k : ℕ) → k < 3 → of_z w32 (get_or (made_words z seed) k (pos 0)) < 2 ^ 32
          → bits_at (made z seed) k ≡ of_z w32 (get_or (made_words z seed) k (pos 0))
      size k h = bytes_bits (made_words z seed) k (omega (arith, words_length))
