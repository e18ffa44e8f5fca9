-- `survey::small2` meets its contract: a component within 4800 is read back from its word unchanged, so the tests on the words are
-- those on the components. Assumes nothing.
use mathlib.Core.Path.{◌∙◌, ap}
use Rattle.integers.specs.Words.{at}
use Rattle.meaning.specs.Accept.{small}
use Rattle.survey.specs.Small.{and_goes, and_stops}
use Rattle.survey.proofs.small2.Goals as goal

pub returns-then-small : goal.returns-then-small
returns-then-small c =
    and_goes (c.small.ensures ∙ ap small (at tt c.requires.first).eq) c.if-small.true
    (c.small-then-small.ensures ∙ ap small (at tt c.requires.second).eq)

pub returns-else-small : goal.returns-else-small
returns-else-small c =
    and_stops _ (c.small.ensures ∙ ap small (at tt c.requires.first).eq) c.if-small.false
