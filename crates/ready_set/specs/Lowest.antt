-- The lowest member of a set, by the lowest bits of three words. Assumes nothing.
use Rattle.std.specs.Prelude.{◌≡◌, refl, Bool, true, false, not, List, ℕ, ◌+◌, ◌*◌, ◌/◌, ◌%◌, ◌≤◌, ◌<◌, eqb, ltb, get_or}
use Rattle.std.proofs.Common.{sym, ◌∙◌, ap, true≢false, zero-add, arith, eq-eqb, eqb-true, ltb-true, ltb-false}
use Rattle.std.specs.Int.Count.{count_trailing_zeros}
use Rattle.meaning.specs.Lists.{position, numbers_from, numbers}
use Rattle.bits.specs.Numbers.{below_true, position_map}
use Rattle.bits.specs.Tested.{word_of, place, low, word_clear, word_first, word_some, length_bits}
use Rattle.ready_set.specs.Flags.{used, tops, Kept}
use Rattle.ready_set.specs.Firsts.{hit_from, before_from_lem, position_is, position_none}

-- p is the first number that passes f
record First (f : ℕ → Bool) (p : ℕ) : Type 0 where
  here : f p ≡ true
  before : (x : ℕ) → x < p → f x ≡ false

-- a word of 0 has no member
unused : (f : ℕ → Bool) (x : ℕ) → used f (x / 64) ≡ false → f x ≡ false
unused f x e = go (eqb (word_of f (x / 64)) 0) refl e
  where
    go : (b : Bool) → eqb (word_of f (x / 64)) 0 ≡ b → not b ≡ false → f x ≡ false
    go true t e = word_clear f x (eqb-true (word_of f (x / 64)) 0 t)
    go false t e = absurd (true≢false e)

-- the lowest bit of word k
module _ (f : ℕ → Bool) (k : ℕ) where
  abbrev bit : ℕ
  bit = count_trailing_zeros 64 (word_of f k)

  bit_is : bit ≡ position f (numbers_from (64 * k) 64)
  bit_is = word_first f k ∙ sym (position_map f (numbers_from (64 * k) 64))

  bit_set : bit < 64 → f (64 * k + bit) ≡ true
  bit_set h = rw bit_is (hit_from f 64 (64 * k) (omega (arith, bit_is)))

  bits_clear : (b : ℕ) → b < bit → f (64 * k + b) ≡ false
  bits_clear b h = before_from_lem f 64 (64 * k) b (omega (arith, bit_is))

  bit_in : used f k ≡ true → bit < 64
  bit_in e =
      let h = word_some f k (λ (z : word_of f k ≡ 0). true≢false (sym e ∙ ap not (eq-eqb (word_of f k) 0 z))) in
      omega (arith, word_first f k, h, length_bits f k)

  -- in the first word that is not 0 it is the first member
  first_in : First (used f) k → First f (64 * k + bit)
  first_in e = record { here = bit_set (bit_in e.here); before = λ x h. before x h (ltb (x / 64) k) refl }
    where
      before : (x : ℕ) → x < 64 * k + bit → (b : Bool) → ltb (x / 64) k ≡ b → f x ≡ false
      before x h true t = unused f x (e.before (x / 64) (ltb-true (x / 64) k t))
      before x h false t =
          let l = ltb-false (x / 64) k t in
          let q : 64 * k + x % 64 ≡ x = omega (arith, place x, low x, bit_in e.here) in
          rw q at (bits_clear (x % 64) (omega (arith, q)))

module _ (f : ℕ → Bool) (l : List ℕ) (kept : Kept f l) where
  top_is : count_trailing_zeros 64 (get_or l 520 0) ≡ bit (tops f) 0
  top_is = ap (count_trailing_zeros 64) (kept.high.each 0 (omega arith))

  top_clear : (x : ℕ) → x < 8 → x < count_trailing_zeros 64 (get_or l 520 0) → used (used f) x ≡ false
  top_clear x m h =
      sym (below_true 8 (used (used f)) x m) ∙ ap (tops f) (sym (zero-add x)) ∙ bits_clear (tops f) 0 x (omega (arith, top_is))

  pub lowest_none : 8 ≤ count_trailing_zeros 64 (get_or l 520 0) → 32768 ≡ position f (numbers 32768)
  lowest_none h =
      sym (position_none f 32768
      (λ x m. unused f x (unused (used f) (x / 64) (top_clear (x / 64 / 64) (omega arith) (omega arith)))))

  pub lowest_some : (j : ℕ) → j ≡ count_trailing_zeros 64 (get_or l 520 0) → j < 8 → (k : ℕ)
      → k ≡ 64 * j + count_trailing_zeros 64 (get_or l (512 + j) 0)
      → 64 * k + count_trailing_zeros 64 (get_or l k 0) ≡ position f (numbers 32768)
  lowest_some j e h k d =
      ap (λ (w : ℕ). 64 * k + count_trailing_zeros 64 w) here
      ∙ sym (position_is f 32768 (64 * k + bit f k) (omega (arith, inside, bit_in f k upper.here)) member.here member.before)
    where
      highest : First (used (used f)) j
      highest =
          let q : 64 * 0 + bit (tops f) 0 ≡ j = omega (arith, top_is) in
          record {
            here = sym (below_true 8 (used (used f)) j h) ∙ ap (tops f) (sym q) ∙ bit_set (tops f) 0 (omega (arith, q));
            before = λ x m. top_clear x (omega arith) (omega arith);
          }

      above : k ≡ 64 * j + bit (used f) j
      above = d ∙ ap (λ (w : ℕ). 64 * j + count_trailing_zeros 64 w) (kept.middle.each j h)

      upper : First (used f) k
      upper = rw above (first_in (used f) j highest)

      inside : k < 512
      inside = omega (arith, above, bit_in (used f) j highest.here)

      here : get_or l k 0 ≡ word_of f k
      here = ap (λ (k : ℕ). get_or l k 0) (sym (zero-add k)) ∙ kept.low.each k inside

      member : First f (64 * k + bit f k)
      member = first_in f k upper
