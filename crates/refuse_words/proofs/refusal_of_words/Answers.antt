-- `refuse_words::refusal_of_words` meets its contract: the first of the tests 4 and 5 that applies gives the number, and 0 is given where
-- neither does. Assumes nothing.
use mathlib.Core.Path.{sym, ◌∙◌, ap}
use Rattle.meaning.specs.Description.{refused5}
use Rattle.decode.specs.Refusals.{refuses, passes, accepts}
use Rattle.refuse_words.proofs.refusal_of_words.Goals as goal

pub returns-then-word_refused : goal.returns-then-word_refused
returns-then-word_refused c = refuses 4 _ (sym c.word_refused.ensures ∙ c.if-word_refused.true)

pub returns-then-bound_refused : goal.returns-then-bound_refused
returns-then-bound_refused c =
    passes 4 _ (sym c.word_refused.ensures ∙ c.if-word_refused.false)
    (refuses 5 _ (sym (c.bound_refused.ensures ∙ ap refused5 c.nest.ensures) ∙ c.if-bound_refused.true))

pub returns : goal.returns
returns c =
    passes 4 _ (sym c.word_refused.ensures ∙ c.if-word_refused.false)
    (passes 5 _ (sym (c.bound_refused.ensures ∙ ap refused5 c.nest.ensures) ∙ c.if-bound_refused.false) accepts)
