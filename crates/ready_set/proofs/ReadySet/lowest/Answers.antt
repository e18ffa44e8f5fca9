-- `ReadySet::lowest` meets its contract: the lowest bit of the top word leads to a word below it, and its lowest bit to that of a member.
-- Assumes nothing.
use mathlib.Core.Path.{◌∙◌, ap}
use Prim.Native.Nat.{ℕ, ◌+◌, ◌*◌}
use native.Mathlib.Omega.{arith}
use Rattle.ready_set.specs.Lowest.{lowest_none, lowest_some}
use Rattle.ready_set.proofs.ReadySet.lowest.Goals as goal

pub returns-then-j-ge-MIDDLE : goal.returns-then-j-ge-MIDDLE
returns-then-j-ge-MIDDLE c =
    let l = c.args.self.now.words in
    let h = c.lowest_bit-j.ensures.0 in
    λ f kept. lowest_none f l kept (omega (arith, h, c.if-j-ge-MIDDLE.true))

pub returns : goal.returns
returns c =
    let l = c.args.self.now.words in
    let t = c.lowest_bit-j in
    let m = c.lowest_bit in
    let k = 64 * t.result + m.result in
    λ f kept.
    ap (λ (b : ℕ). 64 * k + b) c.lowest_bit-2.ensures.0
    ∙ lowest_some f l kept t.result t.ensures.0 (omega arith) k (ap (λ (b : ℕ). 64 * t.result + b) m.ensures.0)
