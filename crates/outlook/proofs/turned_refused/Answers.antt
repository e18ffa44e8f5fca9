-- `outlook::turned_refused` meets its contract. Assumes nothing.
use mathlib.Core.Path.{refl, ◌∙◌, ap}
use Rattle.integers.specs.Vectors.{neg3}
use Rattle.meaning.specs.Accept.{against}
use Rattle.vectors.specs.Within.{directions_small}
use Rattle.survey.specs.Small.{and_goes, and_stops}
use Rattle.outlook.proofs.turned_refused.Goals as goal

pub negated-turned-requires : goal.negated-turned-requires
negated-turned-requires c = c.requires.flow.line_small

pub against-requires : goal.against-requires
against-requires c =
    (directions_small c.requires.in_range_lem.nest.directed, c.negated-turned.ensures.1)

pub returns-then-written : goal.returns-then-written
returns-then-written c =
    and_goes refl c.if-written.true
    (c.against.ensures
    ∙ ap (against c.args.f.nest.direction) (c.negated-turned.ensures.0 ∙ ap neg3 c.requires.flow.line_is))

pub returns-else-written : goal.returns-else-written
returns-else-written c = and_stops _ refl c.if-written.false
