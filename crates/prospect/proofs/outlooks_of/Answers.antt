-- `prospect::outlooks_of` meets its contract: the words of the processes and of the walk are those of loops that are laid out.
-- Assumes nothing.
use native.Mathlib.Omega.{arith}
use Rattle.survey.specs.InRange.{nest_bounded}
use borrow.Author.Rules.{rules}
use Rattle.prospect.proofs.outlooks_of.Goals as goal

pub fill_processes-requires : goal.fill_processes-requires
fill_processes-requires c =
    let p = c.requires in
    (nest_bounded p.0.ranged.nest, c.args.v.surveyed.ground, p.0.layout, p.0.instances, p.1, omega arith)

pub fill_walk-requires : goal.fill_walk-requires
fill_walk-requires c =
    let p = c.requires in
    record {
      walkable =
          record { nest = nest_bounded p.0.ranged.nest; layout = p.0.layout; instances = p.0.instances; processes = p.1 };
      ground = c.args.v.surveyed.ground;
      held = c.fill_processes.ensures;
      words = search rules;
      room = omega arith;
    }

pub outlooks_along-requires : goal.outlooks_along-requires
outlooks_along-requires c =
    let p = c.requires in (
      p.0.ranged,
      record { layout = p.0.layout; walked = c.fill_walk.ensures; few = p.0.instances; room = search rules },
    )
