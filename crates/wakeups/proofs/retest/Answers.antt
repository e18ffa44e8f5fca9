-- `wakeups::retest` meets its contract: the flag becomes what the test says. Assumes nothing.
use Rattle.std.proofs.Common.{◌≡◌, sym, ◌∙◌}
use Rattle.step_order.proofs.Steps.{step_inside}
use Rattle.wakeups.specs.Wakeups.{can_at, flag_in}
use Rattle.wakeups.specs.Renewed.{renewed_one}
use Rattle.wakeups.proofs.retest.Goals as goal

pub can-requires : goal.can-requires
can-requires c =
    let p = c.requires in rw p.3 (p.0, step_inside c.args.z c.args.r p.2)

pub returns : goal.returns
returns c =
    let a = c.args in
    let e : c.can.result ≡ can_at a.ports.now a.state.now a.z a.r = rw c.requires.3 at c.can.ensures in
    renewed_one a.r c.can.result (e ∙ sym (flag_in _ _ a.z a.r c.requires.2)) c.put.ensures
