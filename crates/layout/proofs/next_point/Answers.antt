-- `layout::next_point` meets its contract: coordinates are at most 768, and the test of the bits is that of the numbers. Assumes nothing.
use mathlib.Core.Path.{sym, ◌∙◌}
use borrow.Author.Tests.{eq-eqb, ne_eqb}
use Rattle.integers.specs.Words.{at, leaf, lit, box, add, fits, eq_test}
use Rattle.integers.specs.Vectors.{same2}
use Rattle.layout.proofs.next_point.Goals as goal

pub overflow_add-result : goal.overflow_add-result
overflow_add-result c =
    let p = c.requires in fits tt (add (at tt p.1.first) (lit _))

pub overflow_add-result-else-y-e : goal.overflow_add-result-else-y-e
overflow_add-result-else-y-e c =
    let p = c.requires in fits tt (add (at tt p.1.second) (lit _))

pub returns-then-y-e : goal.returns-then-y-e
returns-then-y-e c =
    let p = c.requires in
    rw (sym (eq_test tt tt (leaf p.1.second) (leaf p.0.second.high)) ∙ eq-eqb _ _ c.if-y-e.true)
    (same2 (box tt (add (at tt p.1.first) (lit _))).eq (at tt p.0.second.low).eq)

pub returns-else-y-e : goal.returns-else-y-e
returns-else-y-e c =
    let p = c.requires in
    rw (sym (eq_test tt tt (leaf p.1.second) (leaf p.0.second.high)) ∙ ne_eqb _ _ c.if-y-e.false)
    (same2 (at tt p.1.first).eq (box tt (add (at tt p.1.second) (lit _))).eq)
