-- `beqlanosh::beqlanosh_start` meets its contract. Assumes nothing.
use mathlib.Core.Path.{◌∙◌}
use Rattle.answer_words.specs.Kept.{number_is}
use borrow.Author.Rules.{rules}
use Rattle.beqlanosh.proofs.beqlanosh_start.Goals as goal

pub returns : goal.returns
returns c =
    let p = c.start-answer.ensures in
    (c.number_of.ensures ∙ number_is c.start-answer.result p.0, p.1)
