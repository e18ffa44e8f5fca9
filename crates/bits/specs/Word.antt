-- A word as the list of its bits, lowest first: a bit set, turned over or asked for, the set ones counted and the lowest found. Assumes
-- nothing.
use Rattle.std.specs.Prelude.{◌≡◌, refl, Bool, true, false, cond, not, length, get_or, set}
use Rattle.std.proofs.Math.Path.{sym, ap, ap₂}
use Rattle.std.proofs.Common.{◌∙◌, zero-mul, one-mul, add-zero, add-suc, pow-suc, div-one, add-one, arith, lit<, shl_exact, shr-shr}
use mathlib.Core.List.{List, [], ◌∷◌, map}
use Prim.Native.Nat.{ℕ, zero, suc, ◌+◌, ◌*◌, ◌/◌, ◌%◌, ◌^◌, ◌<◌}
use Rattle.std.proofs.Math.Nat.{zero-div}
use Rattle.std.proofs.Math.Arith.{digits_div, digits_mod}
use Rattle.std.specs.Int.Bits.{bit_or, bit_xor, or_zero_r, xor_zero_r}
use Rattle.std.proofs.lemmas.Nat.{or_block, xor_block, ones_cat}
use Rattle.std.specs.Int.Count.{ones, count_trailing_zeros, under}
use Rattle.meaning.specs.Lists.{filter, position, total, numbers_from}
use Rattle.bits.specs.Numbers.{how_many, first_true}

-- what a bit counts at the lowest place
abbrev pub digit : Bool → ℕ
digit b = cond b 1 0

-- the number with these bits
unfoldable pub value : List Bool → ℕ
value [] = 0
value (b ∷ l) = value l * 2 + digit b

digit_lt : (b : Bool) → digit b < 2
digit_lt true = lit< tt
digit_lt false = lit< tt

-- the sum of the powers of two of the set bits
pub value_sum : (f : ℕ → Bool) (s j n : ℕ)
    → total (λ b. cond (f (s + b)) (2 ^ b) 0) (numbers_from j n) ≡ value (map f (numbers_from (s + j) n)) * 2 ^ j
unfolding value total numbers_from
value_sum f s j zero = sym (zero-mul (2 ^ j))
value_sum f s j (suc n) =
    ap (λ (r : ℕ). cond (f (s + j)) (2 ^ j) 0 + r) (value_sum f s (suc j) n)
    ∙ ap₂ (λ (i p : ℕ). cond (f (s + j)) (2 ^ j) 0 + value (map f (numbers_from i n)) * p) (add-suc s j) (pow-suc 2 j)
    ∙ sums (f (s + j)) (value (map f (numbers_from (suc (s + j)) n))) (2 ^ j)
  where
    sums : (b : Bool) (v p : ℕ) → cond b p 0 + v * (p * 2) ≡ (v * 2 + digit b) * p
    sums true v p = omega arith
    sums false v p = omega arith

-- ---- changing

-- `1u64 << b`
pub one_shifted : (b : ℕ) → b < 64 → (1 * 2 ^ b) % 2 ^ 64 ≡ 2 ^ b
one_shifted b h = shl_exact {a = 1} 1 b 64 (lit< tt) (omega arith) ∙ one-mul (2 ^ b)

-- bit b joined with 1 by an operation that works bit by bit, where `new` says what it makes of a bit
module _ (op : ℕ → ℕ → ℕ) (new : Bool → Bool)
    (block : (k a b r s : ℕ) → r < 2 ^ k → s < 2 ^ k → op (a * 2 ^ k + r) (b * 2 ^ k + s) ≡ op a b * 2 ^ k + op r s)
    (none : (a : ℕ) → op a 0 ≡ a) (one : (d : Bool) → op (digit d) 1 ≡ digit (new d)) where
  value_with : (l : List Bool) (b : ℕ) → b < length l → op (value l) (2 ^ b) ≡ value (set l b (new (get_or l b false)))
  unfolding value
  value_with [] b h = absurd (omega arith)
  value_with (d ∷ l) zero h =
      block 1 (value l) 0 (digit d) 1 (digit_lt d) (lit< tt) ∙ ap₂ (λ (v r : ℕ). v * 2 + r) (none (value l)) (one d)
  value_with (d ∷ l) (suc b) h =
      ap (op (value l * 2 + digit d)) (pow-suc 2 b ∙ sym (add-zero (2 ^ b * 2)))
      ∙ block 1 (value l) (2 ^ b) (digit d) 0 (digit_lt d) (lit< tt)
      ∙ ap₂ (λ (v r : ℕ). v * 2 + r) (value_with l b (omega arith)) (none (digit d))

pub value_set : (l : List Bool) (b : ℕ) → b < length l → bit_or (value l) (2 ^ b) ≡ value (set l b true)
value_set = value_with bit_or (λ d. true) or_block or_zero_r one
  where
    one : (d : Bool) → bit_or (digit d) 1 ≡ 1
    one true = refl
    one false = refl

-- turned over
pub value_flip : (l : List Bool) (b : ℕ) → b < length l → bit_xor (value l) (2 ^ b) ≡ value (set l b (not (get_or l b false)))
value_flip = value_with bit_xor not xor_block xor_zero_r one
  where
    one : (d : Bool) → bit_xor (digit d) 1 ≡ digit (not d)
    one true = refl
    one false = refl

-- ---- asking

-- `w >> b` modulo 2
pub value_bit : (l : List Bool) (b : ℕ) → value l / 2 ^ b % 2 ≡ digit (get_or l b false)
unfolding value
value_bit [] b = ap (λ (v : ℕ). v % 2) (zero-div (2 ^ b))
value_bit (d ∷ l) zero = ap (λ (v : ℕ). v % 2) (div-one (value l * 2 + digit d)) ∙ digits_mod (value l) (digit_lt d)
value_bit (d ∷ l) (suc b) =
    let w = value l * 2 + digit d in
    let e : suc b ≡ 1 + b = omega arith in
    ap (λ (k : ℕ). w / 2 ^ k % 2) e ∙ ap (λ (v : ℕ). v % 2) (sym (shr-shr w 1 b))
    ∙ ap (λ (v : ℕ). v / 2 ^ b % 2) (digits_div (value l) (digit_lt d)) ∙ value_bit l b

-- ---- counting

pub value_ones : (l : List Bool) → ones (value l) ≡ how_many l
unfolding value ones filter
value_ones [] = refl
value_ones (true ∷ l) = ones_cat 1 (value l) 1 (lit< tt) ∙ add-one (ones (value l)) ∙ ap suc (value_ones l)
value_ones (false ∷ l) = ones_cat 1 (value l) 0 (lit< tt) ∙ add-zero (ones (value l)) ∙ value_ones l

-- ---- the lowest

pub value_trailing : (l : List Bool) → count_trailing_zeros (length l) (value l) ≡ first_true l
unfolding value count_trailing_zeros position
value_trailing [] = refl
value_trailing (b ∷ l) =
    ap₂ (λ (r v : ℕ). under r (count_trailing_zeros (length l) v)) (digits_mod (value l) (digit_lt b)) (digits_div (value l) (digit_lt b))
    ∙ go b (value_trailing l)
  where
    go : (b : Bool) → count_trailing_zeros (length l) (value l) ≡ first_true l
        → under (digit b) (count_trailing_zeros (length l) (value l)) ≡ cond b 0 (suc (first_true l))
    go true e = refl
    go false e = ap suc e

-- no bit is set in 0, and one is in any other
pub value_zero : (l : List Bool) → value l ≡ 0 → first_true l ≡ length l
unfolding value position
value_zero [] h = refl
value_zero (true ∷ l) h = absurd (omega arith)
value_zero (false ∷ l) h = ap suc (value_zero l (omega arith))

pub value_some : (l : List Bool) → (value l ≡ 0 → ⊥) → first_true l < length l
unfolding value position
value_some [] h = absurd (h refl)
value_some (true ∷ l) h = omega arith
value_some (false ∷ l) h = let r = value_some l (λ e. h (omega arith)) in omega arith
