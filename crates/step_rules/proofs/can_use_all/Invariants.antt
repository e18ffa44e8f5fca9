-- `step_rules::can_use_all` meets its contract: the streams from i on say what all say. Assumes nothing.
use Rattle.std.proofs.Common.{◌≡◌, take, drop}
use Rattle.meaning.specs.Lists.{every}
use Rattle.fire.specs.Firing.{can_use}
use Rattle.port_table.specs.PortsOf.{ports_at}
use Rattle.step_rules.proofs.can_use_all.Given as goal

abbrev pub invariant-loop-i : goal.invariant-loop-i
invariant-loop-i l =
    let ks = take l.fn.z.streams (ports_at l.ports l.p) in every (can_use l.state) (drop l.i ks) ≡ every (can_use l.state) ks
