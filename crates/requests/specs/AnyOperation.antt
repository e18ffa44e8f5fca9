-- Accept does not look at which of the operations a line has: two descriptions that differ in operation words alone are answered alike.
-- Assumes nothing.
use Rattle.std.specs.Prelude.{◌≡◌, List, ℕ, ◌+◌, ◌-◌, ◌/◌, ◌%◌, ◌≤◌, ◌<◌}
use Rattle.std.proofs.Math.Path.{ap, subst}
use native.Mathlib.Omega.{arith}
use Rattle.std.proofs.Math.Decide.{ℕ_discrete}
use mir.Syntax.{w32}
use Rattle.std.proofs.Common.{to_z}
use Rattle.integers.specs.Bytes.{bits_at, word_at}
use Rattle.meaning.specs.declared.Limits.{Limits}
use Rattle.meaning.specs.declared.Sizes.{Sizes}
use Rattle.meaning.specs.Description.{sizes_of, line_words, line_at, words_of, in_range}
use Rattle.meaning.specs.Accept.{accept}
use Rattle.meaning.specs.FixedPoint.{OtherOperations}
use Rattle.guarantee.specs.WordConditions.{operation_word}
use Rattle.requests.specs.OtherWords.{both_true, answered_alike}

module _ {s t : List ℕ} (o : OtherOperations s t) where
  abbrev z : Sizes
  z = sizes_of s

  -- the word is a line's operation, or another one
  ranges : (k : ℕ) → line_at z 0 ≤ k → k < words_of z → in_range z k (word_at s k) ≡ in_range z k (word_at t k)
  unfolding word_at
  ranges k a m = go (ℕ_discrete ((k - line_at z 0) % line_words) 0)
    where
      go : Dec ((k - line_at z 0) % line_words ≡ 0) → in_range z k (to_z w32 (bits_at s k)) ≡ in_range z k (to_z w32 (bits_at t k))
      go (no f) = ap (λ (u : ℕ). in_range z k (to_z w32 u)) (o.same k (λ i g e. f (omega arith)))
      go (yes e) =
          let i = (k - line_at z 0) / line_words in
          let at : line_at z i ≡ k = omega arith in
          let h = o.operations i (omega arith) in
          subst (λ (j : ℕ). in_range z j (to_z w32 (bits_at s j)) ≡ in_range z j (to_z w32 (bits_at t j))) at
          (both_true (operation_word s z i) (operation_word t z i) h.0 h.1)

  pub any_operation : (l : Limits) → accept l s ≡ accept l t
  any_operation =
      answered_alike
      (record {
        long = o.long;
        before = λ k h. o.same k (λ i g e. omega arith);
        targets = λ i. o.same (line_at z i + 1) (λ k g e. omega arith);
        ranges = ranges;
      })
