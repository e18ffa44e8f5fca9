-- `outlook::leaps` meets its contract. Assumes nothing.
use mathlib.Core.Path.{refl, ◌∙◌, ap}
use lib.Dec.{ltb}
use lib.IntN.{nat_abs}
use Rattle.integers.specs.Words.{at}
use Rattle.survey.specs.Small.{and_goes, and_stops}
use Rattle.outlook.proofs.leaps.Goals as goal

pub returns-then-moving : goal.returns-then-moving
returns-then-moving c =
    and_goes refl c.if-moving.true
    (ap (ltb c.args.hop) (c.magnitude.ensures ∙ ap nat_abs (at tt c.requires).eq))

pub returns-else-moving : goal.returns-else-moving
returns-else-moving c = and_stops _ refl c.if-moving.false
