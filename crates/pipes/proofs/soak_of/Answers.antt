-- `pipes::soak_of` meets its contract: a count of 0 is that of a null process, whose soak is its pipe's length. Assumes nothing.
use mathlib.Core.Path.{◌∙◌}
use Rattle.pipes.specs.Elements.{at_here, row_soak_lem}
use Rattle.pipes.proofs.soak_of.Goals as goal

pub own_soak-requires : goal.own_soak-requires
own_soak-requires c = let p = c.requires in (p, at_here p c.if-spans-p-eq0.false)

pub returns-else-spans-p-eq0 : goal.returns-else-spans-p-eq0
returns-else-spans-p-eq0 c = c.own_soak.ensures ∙ row_soak_lem c.requires c.if-spans-p-eq0.false
