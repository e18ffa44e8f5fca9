-- `make::put_words` meets its contract: the state is that after k − 3 rounds, and the first k words are written. Assumes nothing.
use mathlib.Core.Path.{◌≡◌}
use mathlib.Core.List.{List}
use Prim.Native.Nat.{ℕ, ◌-◌}
use Rattle.meaning.specs.Generator.{after, made_words}
use Rattle.make.specs.Words.{words_to}
use Rattle.make.proofs.put_words.Given as goal

abbrev pub invariant-loop-k : goal.invariant-loop-k
invariant-loop-k l =
    (l.state ≡ after (l.k - 3) l.seed)
    × ((first : List ℕ) → l.initial.out ≡ words_to (made_words l.z.sizes l.seed) 3 first
    → l.out ≡ words_to (made_words l.z.sizes l.seed) l.k first)
