-- `pipes::total_at` meets its contract. Assumes nothing.
use mathlib.Core.Path.{sym, ◌∙◌, subst}
use native.Mathlib.Omega.{arith}
use lib.Dec.{T}
use Rattle.pipes.specs.Elements.{total_none, at_one, total_one, total_still, held_le}
use Rattle.pipes.proofs.total_at.Goals as goal

pub length_at-requires : goal.length_at-requires
length_at-requires c =
    let p = c.requires in
    let m = subst T (sym c.if-f.true) tt in (at_one p m (sym c.one_at-q.ensures) c.if-q-eq0.false, m)

pub returns-then-q-eq0 : goal.returns-then-q-eq0
returns-then-q-eq0 c =
    let m = subst T (sym c.if-f.true) tt in
    (total_none c.requires m (sym c.one_at-q.ensures ∙ c.if-q-eq0.true), omega arith)

pub returns-else-q-eq0 : goal.returns-else-q-eq0
returns-else-q-eq0 c =
    let p = c.requires in
    let m = subst T (sym c.if-f.true) tt in
    (total_one p m (sym c.one_at-q.ensures) c.if-q-eq0.false c.length_at.ensures.0, c.length_at.ensures.1)

pub returns-else-f : goal.returns-else-f
returns-else-f c =
    let p = c.requires in
    (c.held_at.ensures ∙ total_still p c.if-f.false, omega (arith, c.held_at.ensures, held_le p))
