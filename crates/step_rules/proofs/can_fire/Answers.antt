-- `step_rules::can_fire` meets its contract: there is at least one stream, and the row of the first has the firings and the count of the
-- process. Assumes nothing.
use Rattle.step_rules.proofs.can_fire.Goals as goal

pub word-requires : goal.word-requires
word-requires c =
    let p = c.requires in rw c.port-k.ensures (p.0.ports _ 0 p.1 p.0.some).fired
