-- `make::bits_drawn` meets its contract. Assumes nothing.
use mathlib.Core.Path.{◌∙◌, ap}
use mir.Syntax.{w32}
use mir.Val.{of_z}
use Rattle.integers.specs.Words.{held}
use Rattle.make.proofs.bits_drawn.Goals as goal

pub returns : goal.returns
returns c = c.bits_of.ensures ∙ ap (of_z w32) (held c.drawn.type_inv c.drawn.ensures)
