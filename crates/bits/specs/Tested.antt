-- A word of a test: word k has bit b set exactly if the test passes 64 k + b. Assumes nothing.
use Rattle.std.specs.Prelude.{◌≡◌, refl, Bool, true, false, cond, not, List, map, ℕ, ◌+◌, ◌*◌, ◌/◌, ◌%◌, ◌^◌, ◌≤◌, ◌<◌, length, get_or, set}
use Rattle.std.proofs.Common.{sym, ◌∙◌, ap, add-zero, mul-one, mod-lt, zero-lt-suc, arith}
use Rattle.std.proofs.Math.Nat.{div-add-mod, zero-div}
use Rattle.std.specs.Int.Bits.{bit_or, bit_xor}
use Rattle.std.specs.Int.Count.{count_trailing_zeros}
use Rattle.meaning.specs.Lists.{total, numbers_from, numbers}
use Rattle.lists.specs.Rows.{length_numbers, get_d_numbers, same_numbers}
use Rattle.bits.specs.Numbers.{first_true, numbers_set}
use Rattle.bits.specs.Word.{digit, value, value_sum, value_set, value_flip, value_bit, value_trailing, value_zero, value_some}

unfoldable pub word_of : (ℕ → Bool) → ℕ → ℕ
word_of f k = total (λ b. cond (f (64 * k + b)) (2 ^ b) 0) (numbers 64)

-- ---- its bits are the outcomes of its 64 numbers

abbrev pub bits_of : (ℕ → Bool) → ℕ → List Bool
bits_of f k = map f (numbers_from (64 * k) 64)

pub word_is : (f : ℕ → Bool) (k : ℕ) → word_of f k ≡ value (bits_of f k)
unfolding word_of
word_is f k =
    value_sum f (64 * k) 0 64 ∙ mul-one (value (map f (numbers_from (64 * k + 0) 64)))
    ∙ ap (λ (i : ℕ). value (map f (numbers_from i 64))) (add-zero (64 * k))

pub word_never : (k : ℕ) → word_of (λ p. false) k ≡ 0
unfolding word_of total numbers_from
word_never k = refl

pub word_same : (f g : ℕ → Bool) (k : ℕ) → ((p : ℕ) → 64 * k ≤ p → p < 64 * k + 64 → f p ≡ g p) → word_of f k ≡ word_of g k
word_same f g k e = word_is f k ∙ ap value (same_numbers f g (64 * k) 64 e) ∙ sym (word_is g k)

-- ---- the bit of p

module _ (p : ℕ) where
  pub place : 64 * (p / 64) + p % 64 ≡ p
  place = div-add-mod p 64

  pub low : p % 64 < 64
  low = mod-lt p (zero-lt-suc 63)

module _ (f : ℕ → Bool) (p : ℕ) where
  bit_is : get_or (bits_of f (p / 64)) (p % 64) false ≡ f p
  bit_is = get_d_numbers f false (64 * (p / 64)) 64 (p % 64) (low p) ∙ ap f (place p)

  in_word : p % 64 < length (bits_of f (p / 64))
  in_word = rw length_numbers (low p)

  -- asked for
  pub word_bit : word_of f (p / 64) / 2 ^ (p % 64) % 2 ≡ digit (f p)
  word_bit =
      ap (λ (w : ℕ). w / 2 ^ (p % 64) % 2) (word_is f (p / 64)) ∙ value_bit (bits_of f (p / 64)) (p % 64)
      ∙ ap digit bit_is

  -- none is set in 0
  pub word_clear : word_of f (p / 64) ≡ 0 → f p ≡ false
  word_clear e = clear (f p) (sym word_bit ∙ ap (λ (w : ℕ). w / 2 ^ (p % 64) % 2) e ∙ ap (λ (w : ℕ). w % 2) (zero-div (2 ^ (p % 64))))
    where
      clear : (d : Bool) → digit d ≡ 0 → d ≡ false
      clear true t = absurd (omega arith)
      clear false t = refl

-- changed: f becomes g, which differs at p alone
module _ (f g : ℕ → Bool) (p : ℕ) (other : (q : ℕ) → (q ≡ p → ⊥) → g q ≡ f q) where
  word_changed : (d : Bool) → d ≡ g p → value (set (bits_of f (p / 64)) (p % 64) d) ≡ word_of g (p / 64)
  word_changed d e =
      let k = p / 64 in
      let b = p % 64 in
      ap value (ap (set (bits_of f k) b) (e ∙ ap g (sym (place p)))
      ∙ numbers_set f g (64 * k) 64 b (low p) (λ q n. other q (λ e. n (e ∙ sym (place p)))))
      ∙ sym (word_is g k)

  pub word_set : g p ≡ true → bit_or (word_of f (p / 64)) (2 ^ (p % 64)) ≡ word_of g (p / 64)
  word_set e =
      ap (λ (w : ℕ). bit_or w (2 ^ (p % 64))) (word_is f (p / 64)) ∙ value_set (bits_of f (p / 64)) (p % 64) (in_word f p)
      ∙ word_changed true (sym e)

  pub word_flip : g p ≡ not (f p) → bit_xor (word_of f (p / 64)) (2 ^ (p % 64)) ≡ word_of g (p / 64)
  word_flip e =
      ap (λ (w : ℕ). bit_xor w (2 ^ (p % 64))) (word_is f (p / 64)) ∙ value_flip (bits_of f (p / 64)) (p % 64) (in_word f p)
      ∙ word_changed (not (get_or (bits_of f (p / 64)) (p % 64) false)) (ap not (bit_is f p) ∙ sym e)

  -- every other word
  pub word_other : (k : ℕ) → (k ≡ p / 64 → ⊥) → word_of g k ≡ word_of f k
  word_other k n = word_same g f k (λ q l h. other q (λ e. n (omega (arith, place p, low p))))

-- ---- the lowest bit

module _ (f : ℕ → Bool) (k : ℕ) where
  pub length_bits : length (bits_of f k) ≡ 64
  length_bits = length_numbers f (64 * k) 64

  pub word_first : count_trailing_zeros 64 (word_of f k) ≡ first_true (bits_of f k)
  word_first = ap (count_trailing_zeros 64) (word_is f k) ∙ ap (λ (n : ℕ). count_trailing_zeros n (value (bits_of f k))) (sym length_bits)
      ∙ value_trailing (bits_of f k)

  -- none is set in 0, and one is in any other
  pub word_zero : word_of f k ≡ 0 → first_true (bits_of f k) ≡ length (bits_of f k)
  word_zero e = value_zero (bits_of f k) (sym (word_is f k) ∙ e)

  pub word_some : (word_of f k ≡ 0 → ⊥) → first_true (bits_of f k) < length (bits_of f k)
  word_some n = value_some (bits_of f k) (λ e. n (word_is f k ∙ e))
