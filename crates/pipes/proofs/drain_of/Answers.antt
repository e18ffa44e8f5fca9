-- `pipes::drain_of` meets its contract: of a stationary stream soak, one and drain make the number that compute on the line, so that
-- nothing underflows. Assumes nothing.
use mathlib.Core.Path.{sym, ◌∙◌, subst}
use native.Mathlib.Omega.{arith}
use lib.Dec.{T}
use Rattle.pipes.specs.Elements.{at_here, still_drain, row_drain_lem}
use Rattle.pipes.proofs.drain_of.Goals as goal

pub drain_at-requires : goal.drain_at-requires
drain_at-requires c = (at_here c.requires c.if-spans-p-eq0.false, subst T (sym c.if-f.true) tt)

pub rank_at-rank-requires : goal.rank_at-rank-requires
rank_at-rank-requires c = let p = c.requires in
    (p, (at_here p c.if-spans-p-eq0.false).computing, c.if-f.false)

pub overflow_sub-result : goal.overflow_sub-result
overflow_sub-result c =
    let p = c.requires in
    omega
    (arith, c.held_at.ensures, c.rank_at-rank.ensures, still_drain p (at_here p c.if-spans-p-eq0.false).computing c.if-f.false)

pub overflow_sub-result-else-f : goal.overflow_sub-result-else-f
overflow_sub-result-else-f c =
    let p = c.requires in
    omega
    (arith, c.held_at.ensures, c.rank_at-rank.ensures, still_drain p (at_here p c.if-spans-p-eq0.false).computing c.if-f.false)

pub returns-then-f : goal.returns-then-f
returns-then-f c = c.drain_at.ensures ∙ row_drain_lem c.requires c.if-spans-p-eq0.false

pub returns-else-f : goal.returns-else-f
returns-else-f c =
    let p = c.requires in
    let d = still_drain p (at_here p c.if-spans-p-eq0.false).computing c.if-f.false in
    omega (arith, c.held_at.ensures, c.rank_at-rank.ensures, d, row_drain_lem p c.if-spans-p-eq0.false)
