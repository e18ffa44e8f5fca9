-- `bits::count` meets its contract: n bits are set in the words counted. Assumes nothing.
use Rattle.std.proofs.Common.{sym, ◌^◌, ◌<◌, [], get_or, take, length-take, add-one, arith}
use Rattle.std.proofs.lemmas.List.{get_or-take}
use Rattle.lists.specs.Sums.{total_none, total_next}
use lib.Count.{ones, ones-le}
use Rattle.bits.proofs.count.Goals as goal

pub loop-w-init : goal.loop-w-init
loop-w-init c = (omega arith, sym (total_none ones []))

pub loop-w-preserved : goal.loop-w-preserved
loop-w-preserved c =
    let l = c.loop-w in
    let all = c.args.words.now in
    let below : l.w-index < 16 = omega (arith, length-take 16 all) in
    let fits : get_or (take 16 all) l.w-index 0 < 2 ^ 64 = rw get_or-take (c.type_inv.words l.w-index).fits in
    (omega (arith, ones-le 64 _ fits), rw (l.invariant.1, add-one) (sym (total_next ones (take 16 all) l.w-index 0 c.loop-w-test.true)))
