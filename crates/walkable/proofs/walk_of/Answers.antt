-- `walkable::walk_of` meets its contract. Assumes nothing.
use mathlib.Core.Path.{sym}
use native.Mathlib.Omega.{arith}
use Rattle.walkable.specs.Walkable.{walkable}
use borrow.Author.Rules.{rules}
use Rattle.walkable.proofs.walk_of.Goals as goal

pub survey_within-requires : goal.survey_within-requires
survey_within-requires c = c.limits_of.ensures.1

pub fill_walk-requires : goal.fill_walk-requires
fill_walk-requires c =
    let h = c.in_ok-v.ensures in
    let w = walkable c.limits_of.ensures.1 h.surveyed.0 (sym h.number) in
    record { walkable = w; ground = c.in_ok-v.v.surveyed.ground; held = h.surveyed.1; words = omega arith; room = omega arith }

pub returns-clause-surveyed : goal.returns-clause-surveyed
returns-clause-surveyed c =
    let h = c.in_ok-v.ensures in
    let w = walkable c.limits_of.ensures.1 h.surveyed.0 (sym h.number) in (
      h.surveyed.0,
      h.surveyed.1,
      record { layout = w.layout; walked = c.fill_walk.ensures; few = w.instances; room = search rules },
    )
