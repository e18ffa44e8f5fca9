-- `refuse_nest::instances_refused` meets its contract. Assumes nothing.
use mathlib.Core.Path.{refl}
use Rattle.refuse_nest.proofs.instances_refused.Goals as goal

pub returns : goal.returns
returns c = refl
