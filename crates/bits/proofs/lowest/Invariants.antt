-- `bits::lowest` meets its contract: the search among the words left finds what that among all sixteen does. Assumes nothing.
use Rattle.std.proofs.Common.{◌≡◌, drop}
use Rattle.bits.specs.Words.{lowest_from}
use Rattle.bits.proofs.lowest.Given as goal

abbrev pub invariant-loop-k : goal.invariant-loop-k
invariant-loop-k l = lowest_from l.none l.k (drop l.k l.w-items) ≡ lowest_from l.none 0 l.w-items
