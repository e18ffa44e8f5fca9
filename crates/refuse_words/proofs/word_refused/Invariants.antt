-- `refuse_words::word_refused` meets its contract: what is left of the words has the answer of all. Assumes nothing.
use mathlib.Core.Path.{◌≡◌}
use mathlib.Core.Bool.{Bool}
use mathlib.Core.List.{List}
use Prim.Native.Nat.{ℕ, ◌-◌}
use Rattle.integers.specs.Bytes.{word_at}
use Rattle.meaning.specs.declared.Sizes.{Sizes}
use Rattle.meaning.specs.Lists.{every, numbers_from}
use Rattle.meaning.specs.Description.{in_range}
use Rattle.refuse_words.proofs.word_refused.Given as goal

-- the test of the word k
abbrev pub test : List ℕ → Sizes → ℕ → Bool
test s z k = in_range z k (word_at s k)

abbrev pub invariant-loop-k : goal.invariant-loop-k
invariant-loop-k l =
    every (test l.s l.z.sizes) (numbers_from l.k (l.k-end - l.k)) ≡ every (test l.s l.z.sizes) (numbers_from 3 (l.k-end - 3))
