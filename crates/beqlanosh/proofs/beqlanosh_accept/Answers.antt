-- `beqlanosh::beqlanosh_accept` meets its contract: what its answer leaves in the lent words. Assumes nothing.
use mathlib.Core.Path.{◌∙◌}
use borrow.Author.Rules.{rules}
use Rattle.answer_words.specs.Kept.{number_is, accepted_left}
use Rattle.beqlanosh.proofs.beqlanosh_accept.Goals as goal

pub returns : goal.returns
returns c =
    let r = c.accept-answer.result in
    let e = c.accept-answer.ensures in
    let p = c.put_values.ensures in
    (p.0 ∙ number_is r e, p.1 ∙ accepted_left r c.args.figures.now e)
