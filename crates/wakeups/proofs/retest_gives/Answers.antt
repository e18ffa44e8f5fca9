-- `wakeups::retest_gives` meets its contract: the flags of the first i gives are tested. Assumes nothing.
use Rattle.std.proofs.Common.{sym, arith}
use Rattle.step_order.specs.Steps.{give_step}
use Rattle.wakeups.specs.Renewed.{renewed_none, renewed_then, renewed_less, give_next}
use Rattle.wakeups.proofs.retest_gives.Goals as goal

pub loop-i-init : goal.loop-i-init
loop-i-init c = renewed_none (λ x (i, h, e). omega arith)

pub retest-requires : goal.retest-requires
retest-requires c =
    let p = c.requires in
    let r = c.give_rank.ensures in
    (p.0, p.1, r.1, rw r.0 (sym (give_step c.args.z c.args.p c.loop-i.i p.2 (omega arith))))

pub loop-i-preserved : goal.loop-i-preserved
loop-i-preserved c =
    let a = c.args in
    renewed_then (λ x. give_next a.z a.p c.loop-i.i c.give_rank.result x c.give_rank.ensures.0) c.loop-i.invariant c.retest.ensures

pub returns : goal.returns
returns c = renewed_less (λ x (i, h, e). (i, omega arith, e)) c.loop-i.invariant
