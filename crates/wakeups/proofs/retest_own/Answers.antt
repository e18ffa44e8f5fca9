-- `wakeups::retest_own` meets its contract: the own steps of each step. Assumes nothing.
use Rattle.wakeups.specs.Renewed.{renewed_then, renewed_less}
use Rattle.wakeups.specs.Owned.{own_alone, own_fire, own_port}
use Rattle.wakeups.proofs.retest_own.Goals as goal

pub retest_port-requires : goal.retest_port-requires
retest_port-requires c =
    let p = c.requires in
    let f = own_port c.args.z c.args.r p.2 p.3 c.in-Take.is in (p.0, p.1, f.0, f.1)

pub returns-in-Send : goal.returns-in-Send
returns-in-Send c =
    let p = c.requires in renewed_less (own_alone c.args.z c.args.r p.2 p.3 c.in-Send.is) c.retest.ensures

pub returns-in-Fire : goal.returns-in-Fire
returns-in-Fire c =
    let p = c.requires in
    renewed_then (own_fire c.args.z c.args.r p.2 p.3 c.in-Fire.is).1 c.retest-in-Fire.ensures c.retest_gives.ensures

pub returns-in-Take : goal.returns-in-Take
returns-in-Take c =
    let p = c.requires in renewed_less (own_port c.args.z c.args.r p.2 p.3 c.in-Take.is).2 c.retest_port.ensures
