-- `beqlanosh::beqlanosh_table` meets its contract. Assumes nothing.
use mathlib.Core.Path.{◌∙◌}
use borrow.Author.Rules.{rules}
use Rattle.beqlanosh.proofs.beqlanosh_table.Goals as goal

pub returns : goal.returns
returns c = let p = c.table_words-answer.ensures in (c.number_of.ensures ∙ p.0, p.1)
