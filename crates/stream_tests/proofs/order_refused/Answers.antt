-- `stream_tests::order_refused` meets its contract: a direction is 1 or −1 and a line's component at most 200 in size, as `against` asks;
-- a stream not written is never refused. Assumes nothing.
use mathlib.Core.Path.{refl, ◌∙◌, ap}
use Rattle.meaning.specs.Accept.{against}
use Rattle.vectors.specs.Within.{directions_small}
use Rattle.survey.specs.Small.{and_goes, and_stops}
use Rattle.stream_tests.proofs.order_refused.Goals as goal

pub against-requires : goal.against-requires
against-requires c =
    let p = c.requires in (directions_small p.in_range_lem.nest.directed, p.flow.line_small)

pub returns-then-written : goal.returns-then-written
returns-then-written c =
    and_goes refl c.if-written.true (c.against.ensures ∙ ap (against c.args.f.nest.direction) c.requires.flow.line_is)

pub returns-else-written : goal.returns-else-written
returns-else-written c = and_stops _ refl c.if-written.false
