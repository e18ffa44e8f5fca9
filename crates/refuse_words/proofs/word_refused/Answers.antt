-- `refuse_words::word_refused` meets its contract: what is left of the words has the answer of all. Assumes nothing.
use mathlib.Core.Path.{◌≡◌, refl, sym, ◌∙◌, ap}
use mathlib.Core.Bool.{Bool, not}
use mathlib.Core.List.{List}
use Prim.Native.Nat.{ℕ, ◌-◌}
use native.Mathlib.Omega.{arith}
use Rattle.meaning.specs.declared.Sizes.{Sizes}
use Rattle.meaning.specs.Lists.{every, numbers_from}
use Rattle.meaning.specs.Description.{words_of, refused4}
use Rattle.lists.specs.Loops.{every_turn, every_stop, every_end}
use Rattle.refuse_words.proofs.word_refused.Invariants.{test}
use Rattle.refuse_words.proofs.word_refused.Goals as goal

module _ (s : List ℕ) (z : Sizes) where
  -- the answer, where n is the number of words
  answer : {n : ℕ} {b : Bool} → n ≡ words_of z → b ≡ every (test s z) (numbers_from 3 (n - 3)) → not b ≡ refused4 s z
  answer e h = ap not h ∙ ap (λ (m : ℕ). not (every (test s z) (numbers_from 3 (m - 3)))) e

pub loop-k-init : goal.loop-k-init
loop-k-init c = refl

pub returns-then-not-in_range : goal.returns-then-not-in_range
returns-then-not-in_range c =
    answer _ _ (omega arith)
    (sym (every_stop _ _ _ (omega arith) (sym c.in_range.ensures ∙ c.if-not-in_range.true)) ∙ c.loop-k.invariant)

pub loop-k-preserved : goal.loop-k-preserved
loop-k-preserved c =
    sym (every_turn _ _ _ (omega arith) (sym c.in_range.ensures ∙ c.if-not-in_range.false))
    ∙ c.loop-k.invariant

pub returns : goal.returns
returns c = answer _ _ (omega arith) (sym (every_end _ _ _ (omega arith)) ∙ c.loop-k.invariant)
