-- A word combined by exclusive or with itself shifted, on binary digits: twice by s is once by 2s, and once by 32 or more is nothing at
-- all. So each such step is undone by more of the same. Assumes nothing.
use Rattle.std.specs.Prelude.{◌≡◌, refl, ℕ, zero, suc, ◌+◌, ◌*◌, ◌/◌, ◌%◌, ◌^◌, ◌<◌}
use Rattle.std.proofs.Common.{sym, ◌∙◌, ap, ap₂, arith, mod-lt, zero-lt-suc, mul_assoc, add-zero, div-add-mod', pow_pos, pow-add, shr-shr}
use Rattle.std.proofs.Math.Nat.{mul-mod_left, div-eq_of_lt, mul-add-mod_self_right}
use Rattle.std.proofs.Math.Arith.{bin_ind}
use Rattle.std.specs.Int.Bits.{bit_xor, differ, xor_step, xor_self, xor_zero_l, xor_zero_r}
use Rattle.std.proofs.lemmas.Nat.{xor_shr, xor_mod, xor_block}
use Rattle.meaning.specs.Generator.{shift_left, shift_right, left, right}

-- ---- exclusive or is associative, digit by digit

data Digit : ℕ → Type 0 where
  nought : Digit 0
  one : Digit 1

last : (n : ℕ) → Digit (n % 2)
last n = go (n % 2) (mod-lt n (zero-lt-suc 1))
  where
    go : (m : ℕ) → m < 2 → Digit m
    go zero h = nought
    go (suc zero) h = one
    go (suc (suc m)) h = absurd (omega arith)

differ_assoc : {x y z : ℕ} → Digit x → Digit y → Digit z → differ (differ x y) z ≡ differ x (differ y z)
differ_assoc nought b c = refl
differ_assoc one nought c = refl
differ_assoc one one nought = refl
differ_assoc one one one = refl

xor_digit : {x y : ℕ} → Digit x → Digit y → bit_xor x y ≡ differ x y
xor_digit nought nought = refl
xor_digit nought one = refl
xor_digit one nought = refl
xor_digit one one = refl

xor_last : (a b : ℕ) → bit_xor a b % 2 ≡ differ (a % 2) (b % 2)
xor_last a b = xor_mod a b 1 ∙ xor_digit (last a) (last b)

xor_assoc : (a b c : ℕ) → bit_xor (bit_xor a b) c ≡ bit_xor a (bit_xor b c)
xor_assoc =
    bin_ind (λ (a : ℕ). (b c : ℕ) → bit_xor (bit_xor a b) c ≡ bit_xor a (bit_xor b c))
    (λ b c. ap (λ (x : ℕ). bit_xor x c) (xor_zero_l b) ∙ sym (xor_zero_l (bit_xor b c)))
    (λ a ih b c.
    xor_step (bit_xor a b) c
    ∙ ap₂ (λ (x y : ℕ). x * 2 + y)
    (ap (λ (x : ℕ). bit_xor x (c / 2)) (xor_shr a b 1) ∙ ih (b / 2) (c / 2) ∙ ap (bit_xor (a / 2)) (sym (xor_shr b c 1)))
    (ap (λ (x : ℕ). differ x (c % 2)) (xor_last a b) ∙ differ_assoc (last a) (last b) (last c)
    ∙ ap (differ (a % 2)) (sym (xor_last b c)))
    ∙ sym (xor_step a (bit_xor b c)))

-- ---- any shift that goes through exclusive or, and of which two make one by twice as much

module _ (shift : ℕ → ℕ → ℕ)
    (through : (s a b : ℕ) → shift s (bit_xor a b) ≡ bit_xor (shift s a) (shift s b))
    (two : (s x : ℕ) → shift s (shift s x) ≡ shift (s + s) x) where
  abbrev step : ℕ → ℕ → ℕ
  step s x = bit_xor x (shift s x)

  step_twice : (s x : ℕ) → step s (step s x) ≡ step (s + s) x
  step_twice s x =
      ap (bit_xor (bit_xor x (shift s x))) (through s x (shift s x)) ∙ xor_assoc x (shift s x) (bit_xor (shift s x) (shift s (shift s x)))
      ∙ ap (bit_xor x)
      (sym (xor_assoc (shift s x) (shift s x) (shift s (shift s x)))
      ∙ ap (λ (y : ℕ). bit_xor y (shift s (shift s x))) (xor_self (shift s x))
      ∙ xor_zero_l (shift s (shift s x)) ∙ two s x)

  step_none : (s x : ℕ) → shift s x ≡ 0 → step s x ≡ x
  step_none s x e = ap (bit_xor x) e ∙ xor_zero_r x

-- ---- to the left

-- what is cut off before a product is cut off after it
mod_times : (a c m : ℕ) → (a % m * c) % m ≡ (a * c) % m
mod_times a c m =
    sym (ap (λ (x : ℕ). (x * c) % m) (sym (div-add-mod' a m)) ∙ ap (λ (x : ℕ). x % m) (spread (a / m) m (a % m) c)
    ∙ mul-add-mod_self_right (a / m * c) m (a % m * c))
  where
    spread : (q m r c : ℕ) → (q * m + r) * c ≡ q * c * m + r * c
    spread q m r c = omega arith

left_through : (s a b : ℕ) → shift_left s (bit_xor a b) ≡ bit_xor (shift_left s a) (shift_left s b)
left_through s a b = ap (λ (x : ℕ). x % 2 ^ 32) times ∙ xor_mod (a * 2 ^ s) (b * 2 ^ s) 32
  where
    times : bit_xor a b * 2 ^ s ≡ bit_xor (a * 2 ^ s) (b * 2 ^ s)
    times =
        sym (ap₂ bit_xor (sym (add-zero (a * 2 ^ s))) (sym (add-zero (b * 2 ^ s))) ∙ xor_block s a b 0 0 (pow_pos s) (pow_pos s)
        ∙ add-zero (bit_xor a b * 2 ^ s))

left_two : (s x : ℕ) → shift_left s (shift_left s x) ≡ shift_left (s + s) x
left_two s x =
    mod_times (x * 2 ^ s) (2 ^ s) (2 ^ 32)
    ∙ ap (λ (y : ℕ). y % 2 ^ 32) (mul_assoc x (2 ^ s) (2 ^ s) ∙ ap (λ (y : ℕ). x * y) (sym (pow-add 2 s s)))

pub left_twice : (s x : ℕ) → left s (left s x) ≡ left (s + s) x
left_twice = step_twice shift_left left_through left_two

-- by the width or more
pub left_none : (d x : ℕ) → left (d + 32) x ≡ x
left_none d x = step_none shift_left left_through left_two (d + 32) x none
  where
    none : shift_left (d + 32) x ≡ 0
    none =
        ap (λ (y : ℕ). (x * y) % 2 ^ 32) (pow-add 2 d 32)
        ∙ ap (λ (y : ℕ). y % 2 ^ 32) (sym (mul_assoc x (2 ^ d) (2 ^ 32))) ∙ mul-mod_left (x * 2 ^ d) (2 ^ 32)

-- ---- to the right

right_through : (s a b : ℕ) → shift_right s (bit_xor a b) ≡ bit_xor (shift_right s a) (shift_right s b)
right_through s a b = xor_shr a b s

right_two : (s x : ℕ) → shift_right s (shift_right s x) ≡ shift_right (s + s) x
right_two s x = shr-shr x s s

pub right_twice : (s x : ℕ) → right s (right s x) ≡ right (s + s) x
right_twice = step_twice shift_right right_through right_two

pub right_none : (s x : ℕ) → x < 2 ^ s → right s x ≡ x
right_none s x h = step_none shift_right right_through right_two s x (div-eq_of_lt h)
