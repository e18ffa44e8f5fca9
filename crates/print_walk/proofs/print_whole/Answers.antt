-- `print_walk::print_whole` is safe and ends. Assumes nothing.
use Rattle.walk.specs.Walked.{readable}
use Rattle.print_walk.proofs.print_whole.Goals as goal

pub print_visits-requires : goal.print_visits-requires
print_visits-requires g c = let p = c.requires in readable p.0 p.1 c.args.v.surveyed.ground.instances_is
