-- The sixteen words of a test of process numbers. Assumes nothing.
use Rattle.std.specs.Prelude.{◌≡◌, refl, Bool, true, false, cond, ◌||◌, List, [], ◌∷◌, ◌++◌, map, ◌⊎◌, ℕ, zero, suc, ◌+◌, ◌*◌, ◌-◌, ◌/◌}
use Rattle.std.specs.Prelude.{◌%◌, ◌^◌, ◌≤◌, ◌<◌, eqb, length, get_or, drop, set, replicate}
use Rattle.std.proofs.Common.{sym, ◌∙◌, ap, ap₂, inl, inr, zero-add, add-zero, zero-lt-suc, div-lt_iff_lt-mul, eq-zero-or-pos}
use Rattle.std.proofs.Common.{eq-or-lt_of_le, arith, eq-eqb, ne_eqb}
use Rattle.std.specs.Int.Bits.{bit_or}
use Rattle.std.specs.Int.Count.{ones, count_trailing_zeros}
use Rattle.std.proofs.Math.ListN.{get_or-append}
use Rattle.std.proofs.lemmas.List.{set-append_left}
use Rattle.meaning.specs.Lists.{filter, position, total, numbers_from, numbers}
use Rattle.lists.specs.Rows.{length_numbers, get_d_numbers, numbers_add}
use Rattle.bits.specs.Numbers.{how_many, first_true, below, count_map, position_map, numbers_set, below_outcomes, many_append}
use Rattle.bits.specs.Numbers.{many_false, first_le, first_in, first_past, first_false}
use Rattle.bits.specs.Word.{value_ones}
use Rattle.bits.specs.Tested.{word_of, bits_of, word_is, word_set, word_other, length_bits, word_first, word_zero, word_some}

abbrev pub words_of : (ℕ → Bool) → List ℕ
words_of f = map (word_of f) (numbers 16)

-- ---- what the functions do to words

-- the first sixteen are 0, those beyond stay
abbrev pub cleared : List ℕ → List ℕ
cleared words = replicate 16 0 ++ drop 16 words

-- bit p modulo 64 of word p divided by 64 is set
abbrev pub marked : List ℕ → ℕ → List ℕ
marked words p = set words (p / 64) (bit_or (get_or words (p / 64) 0) (2 ^ (p % 64)))

-- how many bits are set
abbrev pub ones_of : List ℕ → ℕ
ones_of words = total ones words

-- the lowest set bit of words k, k + 1, ..; none if there is none
unfoldable pub lowest_from : ℕ → ℕ → List ℕ → ℕ
lowest_from none k [] = none
lowest_from none k (w ∷ words) = cond (eqb w 0) (lowest_from none (suc k) words) (64 * k + count_trailing_zeros 64 w)

-- ---- all of them

pub words_never : words_of (λ p. false) ≡ replicate 16 0
unfolding word_of total numbers_from
words_never = refl

pub words_length : (f : ℕ → Bool) → length (words_of f) ≡ 16
words_length f = length_numbers (word_of f) 0 16

-- ---- marking

-- the test that passes p too
abbrev pub including : (ℕ → Bool) → ℕ → ℕ → Bool
including f p q = f q || eqb q p

or_true : (b : Bool) → b || true ≡ true
or_true true = refl
or_true false = refl

or_false : (b : Bool) → b || false ≡ b
or_false true = refl
or_false false = refl

pub including_same : (f : ℕ → Bool) (p q : ℕ) → q ≡ p → including f p q ≡ true
including_same f p q e = ap (λ (b : Bool). f q || b) (eq-eqb q p e) ∙ or_true (f q)

pub including_other : (f : ℕ → Bool) (p q : ℕ) → (q ≡ p → ⊥) → including f p q ≡ f q
including_other f p q n = ap (λ (b : Bool). f q || b) (ne_eqb q p n) ∙ or_false (f q)

module _ (f : ℕ → Bool) (p : ℕ) where
  pub words_marked : (rest : List ℕ) → p < 1024 → marked (words_of f ++ rest) p ≡ words_of (including f p) ++ rest
  words_marked rest h =
      ap (λ (w : ℕ). set (words_of f ++ rest) k (bit_or w (2 ^ (p % 64)))) read
      ∙ ap (set (words_of f ++ rest) k) (marked_word ∙ ap (word_of (including f p)) (sym (zero-add k)))
      ∙ set-append_left (words_of f) rest k (word_of (including f p) (0 + k)) fits
      ∙ ap (λ (l : List ℕ). l ++ rest) (numbers_set (word_of f) (word_of (including f p)) 0 16 k at other)
    where
      k : ℕ
      k = p / 64

      at : k < 16
      at = (div-lt_iff_lt-mul (zero-lt-suc 63)).1 h

      fits : k < length (words_of f)
      fits = rw words_length at

      marked_word : bit_or (word_of f k) (2 ^ (p % 64)) ≡ word_of (including f p) k
      marked_word = word_set f (including f p) p (including_other f p) (including_same f p p refl)

      other : (j : ℕ) → (j ≡ 0 + k → ⊥) → word_of (including f p) j ≡ word_of f j
      other j n = word_other f (including f p) p (including_other f p) j (λ e. n (e ∙ sym (zero-add k)))

      read : get_or (words_of f ++ rest) k 0 ≡ word_of f k
      read = get_or-append (words_of f) rest 0 k fits ∙ get_d_numbers (word_of f) 0 0 16 k at ∙ ap (word_of f) (zero-add k)

-- ---- m words from word k on

abbrev words_from : (ℕ → Bool) → ℕ → ℕ → List ℕ
words_from f k m = map (word_of f) (numbers_from k m)

abbrev bits_from : (ℕ → Bool) → ℕ → ℕ → List Bool
bits_from f k m = map f (numbers_from (64 * k) (64 * m))

bits_step : (f : ℕ → Bool) (k m : ℕ) → bits_from f k (suc m) ≡ bits_of f k ++ bits_from f (suc k) m
bits_step f k m =
    let n : 64 * suc m ≡ 64 + 64 * m = omega arith in
    let i : 64 * k + 64 ≡ 64 * suc k = omega arith in
    ap (λ (n : ℕ). map f (numbers_from (64 * k) n)) n ∙ numbers_add f (64 * k) 64 (64 * m)
    ∙ ap (λ (i : ℕ). bits_of f k ++ map f (numbers_from i (64 * m))) i

-- how many bits are set
ones_from : (f : ℕ → Bool) (k m : ℕ) → ones_of (words_from f k m) ≡ how_many (bits_from f k m)
unfolding total numbers_from filter
ones_from f k zero = refl
ones_from f k (suc m) =
    ap₂ ◌+◌ (ap ones (word_is f k) ∙ value_ones (bits_of f k)) (ones_from f (suc k) m)
    ∙ sym (many_append (bits_of f k) (bits_from f (suc k) m)) ∙ sym (ap how_many (bits_step f k m))

-- the lowest that is set
pub lowest_past : (none k w : ℕ) (words : List ℕ) → w ≡ 0 → lowest_from none k (w ∷ words) ≡ lowest_from none (suc k) words
unfolding lowest_from
lowest_past none k w words e = rw (eq-eqb w 0 e)

pub lowest_here : (none k w : ℕ) (words : List ℕ) → (w ≡ 0 → ⊥) → lowest_from none k (w ∷ words) ≡ 64 * k + count_trailing_zeros 64 w
unfolding lowest_from
lowest_here none k w words n = rw (ne_eqb w 0 n)

module _ (f : ℕ → Bool) (k : ℕ) where
  first_further : (m : ℕ) → word_of f k ≡ 0 → first_true (bits_from f k (suc m)) ≡ 64 + first_true (bits_from f (suc k) m)
  first_further m e =
      ap first_true (bits_step f k m) ∙ first_past (bits_of f k) (bits_from f (suc k) m) (word_zero f k e)
      ∙ ap (λ (n : ℕ). n + first_true (bits_from f (suc k) m)) (length_bits f k)

-- r is `first` places past `at` if those are fewer than n, and none if they are n
record Lowest (first n at none r : ℕ) : Type 0 where
  some : first < n → r ≡ at + first
  nowhere : first ≡ n → r ≡ none

lowest_from_lem : (none : ℕ) (f : ℕ → Bool) (k m : ℕ)
    → Lowest (first_true (bits_from f k m)) (64 * m) (64 * k) none (lowest_from none k (words_from f k m))
unfolding lowest_from numbers_from position
lowest_from_lem none f k zero = record { some = λ h. absurd (omega arith); nowhere = λ h. refl }
lowest_from_lem none f k (suc m) = go (eq-zero-or-pos (word_of f k)) (lowest_from_lem none f (suc k) m)
  where
    go : (word_of f k ≡ 0) ⊎ (0 < word_of f k)
        → Lowest (first_true (bits_from f (suc k) m)) (64 * m) (64 * suc k) none (lowest_from none (suc k) (words_from f (suc k) m))
        → Lowest (first_true (bits_from f k (suc m))) (64 * suc m) (64 * k) none (lowest_from none k (word_of f k ∷ words_from f (suc k) m))
    go (inl e) rest =
        let p = first_further f k m e in
        let q = lowest_past none k (word_of f k) (words_from f (suc k) m) e in
        record { some = λ h. q ∙ rest.some (omega (arith, p)) ∙ omega (arith, p); nowhere = λ h. q ∙ rest.nowhere (omega (arith, p)) }
    go (inr l) rest =
        let n : word_of f k ≡ 0 → ⊥ = λ e. omega arith in
        let b = word_some f k n in
        let p = ap first_true (bits_step f k m) ∙ first_in (bits_of f k) (bits_from f (suc k) m) b in
        record {
          some = λ h. lowest_here none k (word_of f k) (words_from f (suc k) m) n ∙ ap (λ (t : ℕ). 64 * k + t) (word_first f k ∙ sym p);
          nowhere = λ h. absurd (omega (arith, p, b, length_bits f k));
        }

-- ---- the sixteen words of a test of the first n processes

module _ (f : ℕ → Bool) (n : ℕ) (h : n ≤ 1024) where
  outcomes : map (below n f) (numbers 1024) ≡ map f (numbers n) ++ replicate (1024 - n) false
  outcomes = let e : 1024 ≡ n + (1024 - n) = omega arith in ap (λ (m : ℕ). map (below n f) (numbers m)) e ∙ below_outcomes f n (1024 - n)

  pub words_count : ones_of (words_of (below n f)) ≡ length (filter f (numbers n))
  words_count =
      ones_from (below n f) 0 16 ∙ ap how_many outcomes ∙ many_append (map f (numbers n)) (replicate (1024 - n) false)
      ∙ ap (λ (m : ℕ). how_many (map f (numbers n)) + m) (many_false (1024 - n)) ∙ add-zero (how_many (map f (numbers n)))
      ∙ sym (count_map f (numbers n))

  pub words_lowest : lowest_from n 0 (words_of (below n f)) ≡ position f (numbers n)
  words_lowest = go (eq-or-lt_of_le (first_le (map f (numbers n)))) ∙ sym (position_map f (numbers n))
    where
      found : Lowest (first_true (map (below n f) (numbers 1024))) 1024 0 n (lowest_from n 0 (words_of (below n f)))
      found = lowest_from_lem n (below n f) 0 16

      go : (first_true (map f (numbers n)) ≡ length (map f (numbers n))) ⊎ (first_true (map f (numbers n)) < length (map f (numbers n)))
          → lowest_from n 0 (words_of (below n f)) ≡ first_true (map f (numbers n))
      go (inl e) =
          let p = ap first_true outcomes ∙ first_past (map f (numbers n)) (replicate (1024 - n) false) e in
          found.nowhere (omega (arith, p, first_false (1024 - n), length_numbers f 0 n)) ∙ omega (arith, e, length_numbers f 0 n)
      go (inr l) =
          let p = ap first_true outcomes ∙ first_in (map f (numbers n)) (replicate (1024 - n) false) l in
          found.some (omega (arith, p, length_numbers f 0 n)) ∙ omega (arith, p)
