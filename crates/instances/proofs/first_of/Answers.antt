-- `instances::first_of` meets its contract: the words of the processes hold the code of its first instance. Assumes nothing.
use mathlib.Core.Path.{◌∙◌, subst, sym}
use Rattle.vectors.specs.Within.{Within}
use Rattle.instances.proofs.first_of.Goals as goal

pub returns : goal.returns
returns c =
    let e = c.first_at.ensures in
    let h = c.requires.held in
    let l = c.requires.process in (e ∙ h.firsts c.args.p l, subst (Within 64) (sym e) (h.first_small c.args.p l))
