-- The words of a set after a number is put into it or taken out. Assumes nothing.
use Rattle.std.specs.Prelude.{◌≡◌, refl, Bool, true, false, cond, not, ◌&&◌, ◌||◌, List, ℕ, ◌+◌, ◌*◌, ◌/◌, ◌%◌, ◌^◌, ◌≤◌, ◌<◌, eqb, ltb}
use Rattle.std.specs.Prelude.{length, get_or, set, replicate}
use Rattle.std.proofs.Common.{sym, ◌∙◌, ap, ap₂, true≢false, zero-add, arith, length-set, get_or-set_same, get_or-set_other, eq-eqb, ne_eqb}
use Rattle.std.proofs.Common.{eqb-true, ltb-true}
use Rattle.std.specs.Int.Bits.{bit_xor}
use Rattle.std.proofs.lemmas.List.{length-replicate, get_or-replicate}
use Rattle.std.proofs.lemmas.Bool.{eqb-false}
use Rattle.bits.specs.Numbers.{below, below_true}
use Rattle.bits.specs.Word.{digit}
use Rattle.bits.specs.Tested.{word_of, word_never, word_same, word_bit, word_clear, word_flip, word_other}
use Rattle.ready_set.specs.Flags.{flag_words, used, tops, Level, Kept, put, word_flipped, flipped, turns}

-- ---- the set

pub put_same : (f : ℕ → Bool) (r : ℕ) (b : Bool) (x : ℕ) → x ≡ r → put f r b x ≡ b
put_same f r b x e = ap (λ (t : Bool). cond t b (f x)) (eq-eqb x r e)

pub put_other : (f : ℕ → Bool) (r : ℕ) (b : Bool) (x : ℕ) → (x ≡ r → ⊥) → put f r b x ≡ f x
put_other f r b x n = ap (λ (t : Bool). cond t b (f x)) (ne_eqb x r n)

-- ---- sets that agree

used_same : (f g : ℕ → Bool) (n : ℕ) → ((x : ℕ) → x < 64 * n → f x ≡ g x) → (k : ℕ) → k < n → used f k ≡ used g k
used_same f g n e k m = ap (λ (w : ℕ). not (eqb w 0)) (word_same f g k (λ x l u. e x (omega arith)))

below_same : (f g : ℕ → Bool) (n : ℕ) → ((x : ℕ) → x < n → f x ≡ g x) → (x : ℕ) → below n f x ≡ below n g x
below_same f g n e x = go (ltb x n) refl
  where
    go : (t : Bool) → ltb x n ≡ t → t && f x ≡ t && g x
    go true t = e x (ltb-true x n t)
    go false t = refl

tops_same : (f g : ℕ → Bool) → ((x : ℕ) → x < 512 → used f x ≡ used g x) → (x : ℕ) → tops f x ≡ tops g x
tops_same f g e = below_same (used (used f)) (used (used g)) 8 (used_same (used f) (used g) 8 e)

level_same : {f g : ℕ → Bool} {l : List ℕ} {from n : ℕ} → ((x : ℕ) → x < 64 * n → f x ≡ g x) → Level f l from n → Level g l from n
level_same {f} {g} e h = record { each = λ k m. h.each k m ∙ word_same f g k (λ x l u. e x (omega arith)) }

-- only the numbers below 32,768 count
pub kept_agree : (f g : ℕ → Bool) (l : List ℕ) → ((r : ℕ) → r < 32768 → f r ≡ g r) → Kept f l → Kept g l
kept_agree f g l e h =
    record {
      words = h.words;
      low = level_same e h.low;
      middle = level_same once h.middle;
      high = level_same (λ x m. tops_same f g once x) h.high;
    }
  where
    once : (x : ℕ) → x < 512 → used f x ≡ used g x
    once = used_same f g 512 e

-- no number is in the set
pub kept_none : Kept (λ r. false) (replicate flag_words 0)
kept_none =
    record {
      words = length-replicate {A = ℕ} flag_words 0;
      low = zeros 0 512 (λ r. false) (omega arith) (λ x. refl);
      middle = zeros 512 8 (used (λ r. false)) (omega arith) once;
      high = zeros 520 1 (tops (λ r. false)) (omega arith) (λ x. never 8 x (used_none (used (λ r. false)) once x));
    }
  where
    used_none : (f : ℕ → Bool) → ((x : ℕ) → f x ≡ false) → (k : ℕ) → used f k ≡ false
    used_none f e k = ap (λ (w : ℕ). not (eqb w 0)) (word_same f (λ x. false) k (λ x l u. e x) ∙ word_never k)

    once : (x : ℕ) → used (λ r. false) x ≡ false
    once = used_none (λ r. false) (λ x. refl)

    never : (n x : ℕ) {t : Bool} → t ≡ false → ltb x n && t ≡ false
    never n x {t} e = ap (λ (t : Bool). ltb x n && t) e ∙ go (ltb x n)
      where
        go : (s : Bool) → s && false ≡ false
        go true = refl
        go false = refl

    zeros : (from n : ℕ) (f : ℕ → Bool) → from + n ≤ flag_words → ((x : ℕ) → f x ≡ false) → Level f (replicate flag_words 0) from n
    zeros from n f h e =
        record {
          each = λ k m.
              get_or-replicate flag_words (from + k) 0 0 (omega arith) ∙ sym (word_never k)
              ∙ word_same (λ x. false) f k (λ x l u. sym (e x));
        }

-- ---- one number asked for

pub kept_bit : (f : ℕ → Bool) (l : List ℕ) (r : ℕ) → r < 32768 → Kept f l → eqb (get_or l (r / 64) 0 / 2 ^ (r % 64) % 2) 1 ≡ f r
kept_bit f l r h kept =
    let e = ap (λ (k : ℕ). get_or l k 0) (sym (zero-add (r / 64))) ∙ kept.low.each (r / 64) (omega arith) in
    ap (λ (w : ℕ). eqb (w / 2 ^ (r % 64) % 2) 1) e ∙ ap (λ (w : ℕ). eqb w 1) (word_bit f r) ∙ go (f r)
  where
    go : (d : Bool) → eqb (digit d) 1 ≡ d
    go true = refl
    go false = refl

-- ---- one number turned over

-- g is f, turned over at p
record Turned (f g : ℕ → Bool) (p : ℕ) : Type 0 where
  here : g p ≡ not (f p)
  other : (x : ℕ) → (x ≡ p → ⊥) → g x ≡ f x

put_turned : (f : ℕ → Bool) (r : ℕ) → Turned f (put f r (not (f r))) r
put_turned f r = record { here = put_same f r (not (f r)) r refl; other = put_other f r (not (f r)) }

below_turned : {f g : ℕ → Bool} {p : ℕ} (n : ℕ) → p < n → Turned f g p → Turned (below n f) (below n g) p
below_turned {f} {g} {p} n h t =
    record {
      here = below_true n g p h ∙ t.here ∙ ap not (sym (below_true n f p h));
      other = λ x m. ap (λ (b : Bool). ltb x n && b) (t.other x m);
    }

-- a word of a list after one is written, by whether it is that one
set_reads : (l : List ℕ) (i v j w : ℕ) → i < length l → (j ≡ i → v ≡ w) → ((j ≡ i → ⊥) → get_or l j 0 ≡ w) → get_or (set l i v) j 0 ≡ w
set_reads l i v j w h same other = go (eqb j i) refl
  where
    go : (b : Bool) → eqb j i ≡ b → get_or (set l i v) j 0 ≡ w
    go true t = let e = eqb-true j i t in ap (λ (j : ℕ). get_or (set l i v) j 0) e ∙ get_or-set_same l i v 0 h ∙ same e
    go false t = let n = eqb-false j i t in get_or-set_other l i j v 0 n ∙ other n

-- a word of another level is written
level_apart : {f : ℕ → Bool} {l : List ℕ} {from n : ℕ} (i v : ℕ) → ((k : ℕ) → k < n → from + k ≡ i → ⊥) → Level f l from n
    → Level f (set l i v) from n
level_apart {l = l} {from} i v a h = record { each = λ k m. get_or-set_other l i (from + k) v 0 (a k m) ∙ h.each k m }

-- the level in which p stands
module _ {f g : ℕ → Bool} {p : ℕ} (t : Turned f g p) {l : List ℕ} {from n : ℕ} (h : p / 64 < n) (old : Level f l from n) where
  word_new : word_flipped l from p ≡ word_of g (p / 64)
  word_new = ap (λ (w : ℕ). bit_xor w (2 ^ (p % 64))) (old.each (p / 64) h) ∙ word_flip f g p t.other t.here

  level_flip : from + n ≤ length l → Level g (flipped l from p) from n
  level_flip fits =
      record {
        each = λ k m.
            set_reads l (from + p / 64) (word_flipped l from p) (from + k) (word_of g k) (omega arith)
            (λ (e : from + k ≡ from + p / 64). let q : p / 64 ≡ k = omega arith in word_new ∙ ap (word_of g) q)
            (λ n. old.each k m ∙ sym (word_other f g p t.other k (λ (q : k ≡ p / 64). n (ap (λ (k : ℕ). from + k) q))));
      }

  -- ---- the words that are not 0 then

  zeros_are : turns l from p ≡ eqb (word_of f (p / 64)) 0 || eqb (word_of g (p / 64)) 0
  zeros_are = ap₂ (λ (v w : ℕ). eqb v 0 || eqb w 0) (old.each (p / 64) h) word_new

  used_other : (x : ℕ) → (x ≡ p / 64 → ⊥) → used g x ≡ used f x
  used_other x n = ap (λ (w : ℕ). not (eqb w 0)) (word_other f g p t.other x n)

  used_stays : turns l from p ≡ false → (x : ℕ) → used g x ≡ used f x
  used_stays e x = go (eqb x (p / 64)) refl
    where
      neither : (a b : Bool) → a || b ≡ false → not b ≡ not a
      neither true b e = absurd (true≢false e)
      neither false true e = absurd (true≢false e)
      neither false false e = refl

      go : (b : Bool) → eqb x (p / 64) ≡ b → used g x ≡ used f x
      go true q =
          rw (eqb-true x (p / 64) q) (neither (eqb (word_of f (p / 64)) 0) (eqb (word_of g (p / 64)) 0) (sym zeros_are ∙ e))
      go false q = used_other x (eqb-false x (p / 64) q)

  used_turned : turns l from p ≡ true → Turned (used f) (used g) (p / 64)
  used_turned e =
      record { here = one (eqb (word_of f (p / 64)) 0) (eqb (word_of g (p / 64)) 0) refl refl (sym zeros_are ∙ e); other = used_other }
    where
      differ : (a b : Bool) → b ≡ not a → a ≡ false → b ≡ false → ⊥
      differ a b e c d = true≢false (ap not (sym c) ∙ sym e ∙ d)

      one : (a b : Bool) → eqb (word_of f (p / 64)) 0 ≡ a → eqb (word_of g (p / 64)) 0 ≡ b → a || b ≡ true → not b ≡ not (not a)
      one true true c d e =
          absurd (differ (f p) (g p) t.here (word_clear f p (eqb-true (word_of f (p / 64)) 0 c))
          (word_clear g p (eqb-true (word_of g (p / 64)) 0 d)))
      one true false c d e = refl
      one false true c d e = refl
      one false false c d e = absurd (true≢false (sym e))

-- ---- the levels one after the other

module _ (f : ℕ → Bool) (l : List ℕ) (r : ℕ) (kept : Kept f l) (h : r < 32768) where
  abbrev g : ℕ → Bool
  g = put f r (not (f r))

  abbrev k : ℕ
  k = r / 64

  abbrev j : ℕ
  j = k / 64

  abbrev l₁ : List ℕ
  l₁ = flipped l 0 r

  abbrev l₂ : List ℕ
  l₂ = flipped l₁ 512 k

  abbrev l₃ : List ℕ
  l₃ = flipped l₂ 520 j

  length₁ : length l₁ ≡ flag_words
  length₁ = length-set l (0 + k) (word_flipped l 0 r) ∙ kept.words

  length₂ : length l₂ ≡ flag_words
  length₂ = length-set l₁ (512 + j) (word_flipped l₁ 512 k) ∙ length₁

  low₁ : Level g l₁ 0 512
  low₁ = level_flip (put_turned f r) (omega arith) kept.low (omega (arith, kept.words))

  middle₁ : Level (used f) l₁ 512 8
  middle₁ = level_apart (0 + k) (word_flipped l 0 r) (λ x m e. omega arith) kept.middle

  high₁ : Level (tops f) l₁ 520 1
  high₁ = level_apart (0 + k) (word_flipped l 0 r) (λ x m e. omega arith) kept.high

  low₂ : Level g l₂ 0 512
  low₂ = level_apart (512 + j) (word_flipped l₁ 512 k) (λ x m e. omega arith) low₁

  high₂ : Level (tops f) l₂ 520 1
  high₂ = level_apart (512 + j) (word_flipped l₁ 512 k) (λ x m e. omega arith) high₁

  -- the word of r has members before and after
  pub kept_low : turns l 0 r ≡ false → Kept g l₁
  kept_low t =
      record {
        words = length₁;
        low = low₁;
        middle = level_same (λ x m. sym (stays x)) middle₁;
        high = level_same (λ x m. tops_same f g (λ x m. sym (stays x)) x) high₁;
      }
    where
      stays : (x : ℕ) → used g x ≡ used f x
      stays = used_stays (put_turned f r) (omega arith) kept.low t

  module _ (t : turns l 0 r ≡ true) where
    once : Turned (used f) (used g) k
    once = used_turned (put_turned f r) (omega arith) kept.low t

    middle₂ : Level (used g) l₂ 512 8
    middle₂ = level_flip once (omega arith) middle₁ (omega (arith, length₁))

    -- it has not, and the word above has
    pub kept_middle : turns l₁ 512 k ≡ false → Kept g l₂
    kept_middle s =
        record {
          words = length₂;
          low = low₂;
          middle = middle₂;
          high = level_same (λ x m. ap (λ (b : Bool). ltb x 8 && b) (sym (used_stays once (omega arith) middle₁ s x))) high₂;
        }

    -- neither has
    pub kept_high : turns l₁ 512 k ≡ true → Kept g l₃
    kept_high s =
        record {
          words = length-set l₂ (520 + j / 64) (word_flipped l₂ 520 j) ∙ length₂;
          low = level_apart (520 + j / 64) (word_flipped l₂ 520 j) (λ x m e. omega arith) low₂;
          middle = level_apart (520 + j / 64) (word_flipped l₂ 520 j) (λ x m e. omega arith) middle₂;
          high = level_flip twice (omega arith) high₂ (omega (arith, length₂));
        }
      where
        twice : Turned (tops f) (tops g) j
        twice = below_turned 8 (omega arith) (used_turned once (omega arith) middle₁ s)

-- a number that is as it is to be
pub put_kept : (f : ℕ → Bool) (l : List ℕ) (r : ℕ) (b : Bool) → f r ≡ b → Kept f l → Kept (put f r b) l
put_kept f l r b e kept = kept_agree f (put f r b) l (λ x m. go x (eqb x r) refl) kept
  where
    go : (x : ℕ) (t : Bool) → eqb x r ≡ t → f x ≡ cond t b (f x)
    go x true t = ap f (eqb-true x r t) ∙ e
    go x false t = refl
