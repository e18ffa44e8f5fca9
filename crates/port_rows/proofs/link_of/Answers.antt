-- `port_rows::link_of` meets its contract: where the reach is 0 the link out is the end of the pipe; elsewhere it is at least 1, so the
-- process one move on has a number. Assumes nothing.
use mathlib.Core.Path.{sym, ◌∙◌}
use native.Mathlib.Omega.{arith}
use Rattle.lanes.specs.Flow.{spanning, point_lt, going_on, reach_on}
use Rattle.port_rows.specs.Strands.{link_last, link_next}
use Rattle.port_rows.proofs.link_of.Goals as goal

pub point_at-y-requires : goal.point_at-y-requires
point_at-y-requires c = let p = c.requires in (spanning p.0, point_lt p.0 p.1)

pub reach_of-requires : goal.reach_of-requires
reach_of-requires c = let p = c.requires in going_on p.0 p.1 c.point_at-y.ensures

pub number_on-requires : goal.number_on-requires
number_on-requires c =
    let p = c.requires in (
      p.0,
      p.1,
      omega (arith, reach_on p.0 p.1 c.point_at-y.ensures c.reach_of.ensures.0, c.if-reach_of-eq0.false),
    )

pub returns-then-reach_of-eq0 : goal.returns-then-reach_of-eq0
returns-then-reach_of-eq0 c =
    link_last c.args.f.nest c.args.f.stream c.args.g c.args.sent c.args.p
    (sym (reach_on c.requires.0 c.requires.1 c.point_at-y.ensures c.reach_of.ensures.0) ∙ c.if-reach_of-eq0.true)

pub returns-else-reach_of-eq0 : goal.returns-else-reach_of-eq0
returns-else-reach_of-eq0 c =
    link_next c.args.f.nest c.args.f.stream c.args.g c.args.sent c.args.p
    (λ z. c.if-reach_of-eq0.false (reach_on c.requires.0 c.requires.1 c.point_at-y.ensures
    c.reach_of.ensures.0 ∙ z))
    c.number_on.ensures.0 c.port_at-at.ensures.0
