-- `beqlanosh::beqlanosh_ready` meets its contract: what its answer leaves in the lent words. Assumes nothing.
use mathlib.Core.Path.{◌∙◌}
use borrow.Author.Rules.{rules}
use Rattle.answer_words.specs.Kept.{number_is, ready_left}
use Rattle.beqlanosh.proofs.beqlanosh_ready.Goals as goal

pub returns : goal.returns
returns c =
    let r = c.ready-found.result in
    let e = c.ready-found.ensures in
    let p = c.put_values.ensures in
    (p.0 ∙ number_is r e.0, e.1, p.1 ∙ ready_left r c.args.answer.now e.0)
