-- `bits::count` meets its contract: n bits are set in the words counted. Assumes nothing.
use Rattle.std.proofs.Common.{◌≡◌, ◌*◌, ◌≤◌, take}
use Rattle.bits.specs.Words.{ones_of}
use Rattle.bits.proofs.count.Given as goal

abbrev pub invariant-loop-w : goal.invariant-loop-w
invariant-loop-w l = (l.n ≤ l.w-index * 64) × (l.n ≡ ones_of (take l.w-index l.w-items))
