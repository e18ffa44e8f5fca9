-- Of a line Accept looks at its target, and whether its words are in range: two descriptions that differ in nothing else are answered
-- alike. Assumes nothing.
use Rattle.std.specs.Prelude.{◌≡◌, not, ltb, length, replicate, take, pos}
use Rattle.std.proofs.Math.Path.{refl, sym, ap}
use Rattle.std.proofs.Common.{◌∙◌, ap₂, arith, to_z}
use Rattle.std.proofs.Math.Bool.{Bool, true, false, cond}
use mathlib.Core.List.{List, [], ◌∷◌, ◌++◌, map}
use Prim.Native.Nat.{ℕ, zero, suc, ◌+◌, ◌-◌, ◌≤◌, ◌<◌}
use Rattle.std.proofs.Math.Dec.{eqb}
use Rattle.std.specs.Int.{w32}
use Rattle.integers.specs.Bytes.{bits_at, word_at}
use Rattle.meaning.specs.declared.Limits.{Limits}
use Rattle.meaning.specs.declared.Sizes.{Sizes}
use Rattle.meaning.specs.declared.Stream.{Stream}
use Rattle.meaning.specs.declared.Line.{Line}
use Rattle.meaning.specs.declared.Description.{Description}
use Rattle.meaning.specs.Answers.{Acceptance, Accepted, Refused}
use Rattle.meaning.specs.Tests.{◌if◌, refusal}
use Rattle.meaning.specs.Lists.{any, numbers_from}
use Rattle.meaning.specs.Description.{sizes_of, left_at, right_at, direction_at, step_at, place_at, line_at}
use Rattle.meaning.specs.Description.{words_of, in_range, nest_of, stream_of, body_line, no_stream}
use Rattle.meaning.specs.Description.{decoded, description_of, streams_of, written, refused1, refused2, refused3, refused4}
use Rattle.meaning.specs.Accept.{refused33, nest_tests, tests_from, refusal_of, figures, divisors, accept}
use Rattle.meaning.specs.Conditions.{SizesFit}
use Rattle.meaning.specs.Parts.{vector_same, matrix_same, stream_same}
use Rattle.lists.specs.Rows.{same_numbers, same_every}
use Rattle.abstract_network.specs.Cases.{Order, less, at_least, order}
use Rattle.network.specs.Decide.{Says, says_true}
use Rattle.guarantee.specs.Refusals.{Refuses, Refuses.met, Refuses.broken}
use Rattle.guarantee.specs.WordConditions.{refuses2}
use Rattle.requests.specs.BodyLines.{lines_are}

-- ---- what Accept makes of a description

module _ (l : Limits) where
  abbrev answered : List ℕ → Sizes → Description → Acceptance
  answered u z d =
      let k =
      refusal
      ((33 if refused33 l) ∷ (1 if refused1 u) ∷ (2 if refused2 z) ∷ (3 if refused3 u z) ∷ (4 if refused4 u z)
      ∷ (nest_tests l d.nest ++ tests_from l d 0 (streams_of d))) in
      cond (eqb k 0) (Accepted (figures d) (divisors d)) (Refused k)

  accept_is : (u : List ℕ) → accept l u ≡ answered u (sizes_of u) (decoded u (sizes_of u))
  unfolding accept refusal_of description_of
  accept_is u = refl

  -- sizes that do not fit are refused before anything is decoded
  by_sizes : (u : List ℕ) (z : Sizes) (d : Description) → refused2 z ≡ true
      → answered u z d ≡ Refused (cond (refused33 l) 33 (cond (refused1 u) 1 2))
  unfolding refusal
  by_sizes u z d e = rw e (go (refused33 l) (refused1 u))
    where
      go : (a b : Bool) → let k : ℕ = cond a 33 (cond b 1 2) in cond (eqb k 0) (Accepted (figures d) (divisors d)) (Refused k) ≡ Refused k
      go true b = refl
      go false true = refl
      go false false = refl

  -- descriptions with the same nest and streams, which write the same streams
  module _ (d d' : Description) (n : d.nest ≡ d'.nest) (w : (i : ℕ) → written d i ≡ written d' i) where
    tests_same : (i : ℕ) (ss : List Stream) → tests_from l d i ss ≡ tests_from l d' i ss
    unfolding tests_from
    tests_same i [] = refl
    tests_same i (s ∷ ss) = rw (tests_same (suc i) ss, n, w i)

    answered_same : (u u' : List ℕ) (z : Sizes) → streams_of d ≡ streams_of d' → length u ≡ length u' → refused4 u z ≡ refused4 u' z
        → answered u z d ≡ answered u' z d'
    answered_same u u' z e f g = rw (tests_same 0 (streams_of d), n, e, f, g)

-- ---- two tests that both hold

pub both_true : {A B : Type 0} {a b : Bool} → Says A a → Says B b → A → B → a ≡ b
both_true p q x y = says_true p x ∙ sym (says_true q y)

-- ---- two descriptions of one length, alike before their bodies and in targets, and where words of the body are in range

pub record OtherWords (s t : List ℕ) : Type 0 where
  pub long : length s ≡ length t
  pub before : (k : ℕ) → k < line_at (sizes_of s) 0 → bits_at s k ≡ bits_at t k
  pub targets : (i : ℕ) → bits_at s (line_at (sizes_of s) i + 1) ≡ bits_at t (line_at (sizes_of s) i + 1)
  pub ranges : (k : ℕ) → line_at (sizes_of s) 0 ≤ k → k < words_of (sizes_of s)
      → in_range (sizes_of s) k (word_at s k) ≡ in_range (sizes_of s) k (word_at t k)

module _ {s t : List ℕ} (o : OtherWords s t) where
  abbrev z : Sizes
  z = sizes_of s

  sizes_same : z ≡ sizes_of t
  sizes_same = rw (o.before 0 (omega arith), o.before 1 (omega arith), o.before 2 (omega arith))

  word : (k : ℕ) → k < line_at z 0 → word_at s k ≡ word_at t k
  unfolding word_at
  word k h = ap (to_z w32) (o.before k h)

  -- ---- 4

  range_same : (k : ℕ) → 3 ≤ k → k < words_of z → in_range z k (word_at s k) ≡ in_range z k (word_at t k)
  range_same k l m = go (order k (line_at z 0))
    where
      go : Order k (line_at z 0) → in_range z k (word_at s k) ≡ in_range z k (word_at t k)
      go (less a) = ap (in_range z k) (word k a)
      go (at_least a) = o.ranges k a m

  words_same : refused4 s z ≡ refused4 t z
  words_same =
      ap not
      (same_every (λ k. in_range z k (word_at s k)) (λ k. in_range z k (word_at t k)) 3 (words_of z - 3)
      (λ k l m. range_same k l (omega arith)))

  -- ---- what stands before the body

  module _ (h : SizesFit z) where
    nest_same : nest_of s z ≡ nest_of t z
    unfolding nest_of
    nest_same =
        rw (
          vector_same s t h (left_at z) (pos 0) (λ j _ m. word j (omega arith)),
          vector_same s t h (right_at z) (pos 0) (λ j _ m. word j (omega arith)),
          vector_same s t h (direction_at z) (pos 1) (λ j _ m. word j (omega arith)),
          vector_same s t h (step_at z) (pos 0) (λ j _ m. word j (omega arith)),
          matrix_same s t h (place_at z) (λ j _ m. word j (omega arith)),
        )

    streams_same : (decoded s z).streams ≡ (decoded t z).streams
    streams_same =
        ap (λ (l : List Stream). l ++ replicate (6 - z.streams) no_stream)
        (same_numbers (stream_of s z) (stream_of t z) 0 z.streams (λ i _ m. stream_same s t h i (omega arith) (λ j _ l. word j l)))

  -- ---- the streams that are written

  written_same : (i : ℕ) → written (decoded s z) i ≡ written (decoded t z) i
  unfolding any numbers_from body_line
  written_same i =
      ap (any is) (lines_are s z) ∙ go 0 z.lines ∙ sym (ap (any is) (lines_are t z))
    where
      is : Line → Bool
      is t = eqb t.target i

      go : (k n : ℕ) → any is (map (body_line s z) (numbers_from k n)) ≡ any is (map (body_line t z) (numbers_from k n))
      go k zero = refl
      go k (suc n) = ap₂ (λ (a b : Bool). cond a true b) (ap (λ (u : ℕ). eqb u i) (o.targets k)) (go (suc k) n)

  -- ---- Accept

  pub answered_alike : (l : Limits) → accept l s ≡ accept l t
  answered_alike l = go (refused2 z) refl (refuses2 z)
    where
      other : accept l t ≡ answered l t z (decoded t z)
      other = accept_is l t ∙ ap (λ (y : Sizes). answered l t y (decoded t y)) (sym sizes_same)

      go : (b : Bool) → refused2 z ≡ b → Refuses (SizesFit z) b → accept l s ≡ accept l t
      go true e (broken f) =
          accept_is l s ∙ by_sizes l s z (decoded s z) e ∙ ap (λ (n : ℕ). Refused (cond (refused33 l) 33 (cond (ltb n 12) 1 2))) o.long
          ∙ sym (by_sizes l t z (decoded t z) e) ∙ sym other
      go false e (met h) =
          accept_is l s
          ∙ answered_same l (decoded s z) (decoded t z) (nest_same h) written_same s t z (ap (take z.streams) (streams_same h))
          o.long words_same
          ∙ sym other
