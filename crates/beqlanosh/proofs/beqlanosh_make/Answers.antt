-- `beqlanosh::beqlanosh_make` meets its contract: what its answer leaves in the lent word. Assumes nothing.
use mathlib.Core.Path.{◌∙◌}
use borrow.Author.Rules.{rules}
use Rattle.answer_words.specs.Kept.{number_is, made_left}
use Rattle.beqlanosh.proofs.beqlanosh_make.Goals as goal

pub returns : goal.returns
returns c =
    let r = c.make-made.result in
    let e = c.make-made.ensures in
    let p = c.put_values.ensures in
    (p.0 ∙ number_is r e.0, e.1, p.1 ∙ made_left r c.args.answer.now e.0)
