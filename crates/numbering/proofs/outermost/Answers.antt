-- `numbering::outermost` meets its contract. Assumes nothing.
use mathlib.Core.Path.{◌∙◌, ap}
use Rattle.integers.specs.Words.{held}
use Rattle.integers.specs.Vectors.{dot}
use Rattle.vectors.specs.Within.{wider}
use Rattle.numbering.proofs.outermost.Goals as goal

pub corner-requires : goal.corner-requires
corner-requires c = c.requires

pub dot_of-requires : goal.dot_of-requires
dot_of-requires c = (wider tt c.requires.0, wider tt c.corner.ensures.1)

pub returns : goal.returns
returns c = held c.dot_of.type_inv (c.dot_of.ensures.0 ∙ ap (dot c.args.row) c.corner.ensures.0)
