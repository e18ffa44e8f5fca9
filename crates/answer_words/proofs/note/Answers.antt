-- `answer_words::note` meets its contract: a list of at most k words has none of the answer's three places, and stays. Assumes nothing.
use mathlib.Core.Path.{sym, ◌∙◌, ap}
use mathlib.Core.List.{List}
use Prim.Native.Nat.{ℕ, ◌+◌, ◌*◌}
use native.Mathlib.Omega.{arith}
use lib.ListN.{set}
use Rattle.answer_words.specs.Words.{noted_out}
use Rattle.answer_words.proofs.note.Goals as goal

pub returns-then-k-list : goal.returns-then-k-list
returns-then-k-list c =
    let a = c.args in
    c.put-then-k-list-2.ensures
    ∙ ap (λ (l : List ℕ). set l (3 * a.k + 2) a.words.second)
    (c.put-then-k-list.ensures ∙ ap (λ (l : List ℕ). set l (3 * a.k + 1) a.words.first) c.put.ensures)

pub returns-else-k-list : goal.returns-else-k-list
returns-else-k-list c = let a = c.args in sym (noted_out a.list.now a.k a.words (omega arith))
