-- `ReadySet::has` meets its contract: the bit of r in its word. Assumes nothing.
use Rattle.ready_set.specs.Keeping.{kept_bit}
use Rattle.ready_set.proofs.ReadySet.has.Goals as goal

pub returns : goal.returns
returns c = λ f kept. kept_bit f c.args.self.now.words c.args.r c.requires kept
