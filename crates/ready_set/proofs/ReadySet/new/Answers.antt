-- `ReadySet::new` meets its contract: words of 0 are those of the empty set. Assumes nothing.
use Rattle.ready_set.specs.Keeping.{kept_none}
use Rattle.ready_set.proofs.ReadySet.new.Goals as goal

pub returns : goal.returns
returns c = kept_none
