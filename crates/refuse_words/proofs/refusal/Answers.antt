-- `refuse_words::refusal` meets its contract: the tests 1, 2, 3 and then 4 and 5 in turn. Assumes nothing.
use mathlib.Core.Path.{◌∙◌, sym, ap}
use mathlib.Core.Bool.{not}
use borrow.Author.Tests.{lt-ltb, le-ltb, eq-eqb, ne_eqb}
use Rattle.meaning.specs.Description.{refused2}
use Rattle.decode.specs.Refusals.{refuses, passes}
use Rattle.refuse_words.proofs.refusal.Goals as goal

pub returns-then-s-lt12 : goal.returns-then-s-lt12
returns-then-s-lt12 c = refuses 1 _ (lt-ltb _ _ c.if-s-lt12.true)

pub returns-in_default : goal.returns-in_default
returns-in_default c =
    passes 1 _ (le-ltb _ _ c.if-s-lt12.false) (refuses 2 _ (sym (c.in_default.ensures.none ∙ ap refused2 c.sizes.ensures)))

pub returns-then-s-words : goal.returns-then-s-words
returns-then-s-words c =
    let z = c.in-Some.ensures.same ∙ c.sizes.ensures in
    passes 1 _ (le-ltb _ _ c.if-s-lt12.false)
    (passes 2 _ (sym (c.in-Some.ensures.none ∙ ap refused2 c.sizes.ensures))
    (refuses 3 _ (rw z at (ap not (ne_eqb _ _ (rw c.words.ensures.0 at c.if-s-words.true))))))

pub returns : goal.returns
returns c =
    let z = c.in-Some.ensures.same ∙ c.sizes.ensures in
    passes 1 _ (le-ltb _ _ c.if-s-lt12.false)
    (passes 2 _ (sym (c.in-Some.ensures.none ∙ ap refused2 c.sizes.ensures))
    (passes 3 _ (rw z at (ap not (eq-eqb _ _ (rw c.words.ensures.0 at c.if-s-words.false)))) (rw z at c.refusal_of_words.ensures)))
