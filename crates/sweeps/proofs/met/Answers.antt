-- `sweeps::met` meets its contract. Assumes nothing.
use Rattle.std.proofs.Common.{arith}
use Rattle.std.proofs.lemmas.Grind.{common_steps}
use Rattle.sweeps.specs.Met.{met}
use Rattle.sweeps.proofs.met.Goals as goal

pub returns-then-old-eq0 : goal.returns-then-old-eq0
unfolding met
returns-then-old-eq0 c = grind (arith, common_steps)

pub returns-else-old-eq0 : goal.returns-else-old-eq0
unfolding met
returns-else-old-eq0 c = grind (arith, common_steps)
