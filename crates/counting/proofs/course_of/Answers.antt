-- `counting::course_of` meets its contract: the loops begin and end at the corners of the directions. Assumes nothing.
use Rattle.vectors.specs.Within.{wider, directions_small}
use Rattle.counting.proofs.course_of.Goals as goal

pub corner-requires : goal.corner-requires
corner-requires c = let p = c.requires in (wider tt (directions_small p.directed), p.left, p.right)

pub corner-requires-2 : goal.corner-requires-2
corner-requires-2 c = let p = c.requires in (wider tt (directions_small p.directed), p.right, p.left)

pub returns : goal.returns
returns c =
    let a = c.corner.ensures in
    let b = c.corner-2.ensures in (
      λ i. record { first = a.0 i; last = b.0 i; direction = c.args.n.direction },
      record { first = a.1; last = b.1; direction = directions_small c.requires.directed },
    )
