-- Accept does not look at which of the guards a line has: two descriptions that differ in guards alone are answered alike. Assumes nothing.
use Rattle.std.specs.Prelude.{◌≡◌, List, ℕ, zero, suc, ◌+◌, ◌-◌, ◌/◌, ◌%◌, ◌≤◌, ◌<◌}
use Rattle.std.proofs.Math.Path.{ap, subst}
use native.Mathlib.Omega.{arith}
use mir.Syntax.{w32}
use Rattle.std.proofs.Common.{to_z}
use Rattle.integers.specs.Bytes.{word_at}
use Rattle.meaning.specs.declared.Limits.{Limits}
use Rattle.meaning.specs.declared.Sizes.{Sizes}
use Rattle.meaning.specs.Description.{sizes_of, line_words, line_at, words_of, in_range}
use Rattle.meaning.specs.Accept.{accept}
use Rattle.meaning.specs.GuardedLines.{OtherGuards}
use Rattle.abstract_network.specs.Cases.{Order, less, at_least, order}
use Rattle.guarantee.specs.WordConditions.{index_word, comparison_word, bound_word}
use Rattle.requests.specs.OtherWords.{both_true, answered_alike}

module _ {s t : List ℕ} (o : OtherGuards s t) where
  abbrev z : Sizes
  z = sizes_of s

  -- word k of both is in range, or of neither
  abbrev Alike : ℕ → Type 0
  Alike k = in_range z k (word_at s k) ≡ in_range z k (word_at t k)

  -- word 4, 5 or 6 of line i
  in_guard : (i d : ℕ) → i < z.lines → d < 3 → Alike (line_at z i + (4 + d))
  in_guard i zero g b = let h = o.guards i g in both_true (index_word s z i) (index_word t z i) h.0.index h.1.index
  in_guard i (suc zero) g b = let h = o.guards i g in
      both_true (comparison_word s z i) (comparison_word t z i) h.0.comparison h.1.comparison
  in_guard i (suc (suc zero)) g b = let h = o.guards i g in both_true (bound_word s z i) (bound_word t z i) h.0.bound h.1.bound
  in_guard i (suc (suc (suc d))) g b = absurd (omega arith)

  -- the word is a guard's, or another one
  ranges : (k : ℕ) → line_at z 0 ≤ k → k < words_of z → Alike k
  unfolding word_at
  ranges k a m = go (order ((k - line_at z 0) % line_words) 4)
    where
      go : Order ((k - line_at z 0) % line_words) 4 → Alike k
      go (less b) = ap (λ (u : ℕ). in_range z k (to_z w32 u)) (o.same k (λ i j g c d e. omega arith))
      go (at_least b) =
          let i = (k - line_at z 0) / line_words in
          let d = (k - line_at z 0) % line_words - 4 in
          let at : line_at z i + (4 + d) ≡ k = omega arith in subst Alike at (in_guard i d (omega arith) (omega arith))

  pub any_guard : (l : Limits) → accept l s ≡ accept l t
  any_guard =
      answered_alike
      (record {
        long = o.long;
        before = λ k h. o.same k (λ i j g a b e. omega arith);
        targets = λ i. o.same (line_at z i + 1) (λ k j g a b e. omega arith);
        ranges = ranges;
      })
