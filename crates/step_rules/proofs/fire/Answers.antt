-- `step_rules::fire` meets its contract: a process that can fire has fired less often than it has instances, so there is a next one on its
-- line. Assumes nothing.
use Rattle.step_rules.specs.Fits.{process_fits, next_runs}
use Rattle.step_rules.proofs.fire.Goals as goal

pub word-f-requires : goal.word-f-requires
word-f-requires c =
    let p = c.requires in
    rw c.ports_of-own.ensures (p.0.ports _ 0 p.2 p.0.some).fired

pub instance_of-x-requires : goal.instance_of-x-requires
instance_of-x-requires c =
    let p = c.requires in
    rw (c.word-f.ensures.0, c.ports_of-own.ensures)
    (next_runs c.args.state.now c.args.p p.0 p.1 p.2 p.3)

pub fire-requires : goal.fire-requires
fire-requires c =
    let p = c.requires in
    rw c.ports_of-own.ensures (process_fits p.0 _ p.2, p.1.lines, p.3)
