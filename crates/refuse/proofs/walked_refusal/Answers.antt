-- `refuse::walked_refusal` meets its contract. Assumes nothing.
use native.Mathlib.Omega.{arith}
use borrow.Author.Rules.{rules}
use Rattle.refuse.proofs.walked_refusal.Goals as goal

pub fill_walk-requires : goal.fill_walk-requires
fill_walk-requires c =
    let p = c.requires in
    record { walkable = p.1; ground = c.args.v.surveyed.ground; held = p.2; words = omega arith; room = omega arith }

pub streams_refusal-requires : goal.streams_refusal-requires
streams_refusal-requires c =
    let p = c.requires in (
      p.0,
      record { layout = p.1.layout; walked = c.fill_walk.ensures; few = p.1.instances; room = search rules },
    )
