-- `answer_words::put` meets its contract: past its end a list stays. Assumes nothing.
use mathlib.Core.Path.{sym}
use native.Mathlib.Omega.{arith}
use lib.Seq.{set_out}
use Rattle.answer_words.proofs.put.Goals as goal

pub returns-else-at-list : goal.returns-else-at-list
returns-else-at-list c = let a = c.args in sym (set_out a.list.now a.at a.word (omega arith))
