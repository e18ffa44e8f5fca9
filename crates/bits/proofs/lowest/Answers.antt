-- `bits::lowest` meets its contract: the search among the words left finds what that among all sixteen does. Assumes nothing.
use Rattle.std.proofs.Common.{◌≡◌, sym, ◌∙◌, ℕ, suc, ◌<◌, List, ◌∷◌, length, get_or, drop, ap, add-one, drop-cons, drop_of_length-le}
use Rattle.bits.specs.Words.{lowest_from, lowest_past, lowest_here}
use Rattle.bits.proofs.lowest.Goals as goal

-- the words left, by the first of them
left : (none k : ℕ) (words : List ℕ) → k < length words
    → lowest_from none k (drop k words) ≡ lowest_from none k (get_or words k 0 ∷ drop (suc k) words)
left none k words h = ap (lowest_from none k) (drop-cons words k 0 h)

pub returns-then-w-ne0 : goal.returns-then-w-ne0
returns-then-w-ne0 c =
    sym (lowest_here _ _ _ _ c.if-w-ne0.true) ∙ sym (left _ _ _ c.loop-k-test.true) ∙ c.loop-k.invariant

pub loop-k-preserved : goal.loop-k-preserved
loop-k-preserved c =
    rw add-one (sym (lowest_past _ _ _ _ c.if-w-ne0.false) ∙ sym (left _ _ _ c.loop-k-test.true) ∙ c.loop-k.invariant)

pub returns : goal.returns
unfolding lowest_from
returns c =
    let l = c.loop-k in
    rw (drop_of_length-le _ c.loop-k-test.false) at l.invariant
