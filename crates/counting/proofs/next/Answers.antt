-- `counting::next` meets its contract: the words are at most 65, and the tests of the bits are those of the numbers. Assumes nothing.
use mathlib.Core.Path.{sym, ◌∙◌}
use borrow.Author.Tests.{eq-eqb, ne_eqb}
use Rattle.integers.specs.Words.{at, leaf, box, add, fits, eq_test}
use Rattle.integers.specs.Vectors.{same3}
use Rattle.counting.proofs.next.Goals as goal

pub overflow_add-result : goal.overflow_add-result
overflow_add-result c =
    let p = c.requires in fits tt (add (at tt p.1.xs) (at tt p.0.direction.xs))

pub overflow_add-result-else-x-c-2 : goal.overflow_add-result-else-x-c-2
overflow_add-result-else-x-c-2 c =
    let p = c.requires in fits tt (add (at tt p.1.ys) (at tt p.0.direction.ys))

pub overflow_add-result-else-x-c : goal.overflow_add-result-else-x-c
overflow_add-result-else-x-c c =
    let p = c.requires in
    fits tt (add (at tt p.1.zs) (at tt p.0.direction.zs))

pub returns-then-x-c-2 : goal.returns-then-x-c-2
returns-then-x-c-2 c =
    let p = c.requires in
    rw (
      sym (eq_test tt tt (leaf p.1.zs) (leaf p.0.last.zs)) ∙ eq-eqb _ _ c.if-x-c.true,
      sym (eq_test tt tt (leaf p.1.ys) (leaf p.0.last.ys)) ∙ eq-eqb _ _ c.if-x-c-2.true,
    )
    (same3 (box tt (add (at tt p.1.xs) (at tt p.0.direction.xs))).eq (at tt p.0.first.ys).eq (at tt p.0.first.zs).eq)

pub returns-else-x-c-2 : goal.returns-else-x-c-2
returns-else-x-c-2 c =
    let p = c.requires in
    rw (
      sym (eq_test tt tt (leaf p.1.zs) (leaf p.0.last.zs)) ∙ eq-eqb _ _ c.if-x-c.true,
      sym (eq_test tt tt (leaf p.1.ys) (leaf p.0.last.ys)) ∙ ne_eqb _ _ c.if-x-c-2.false,
    )
    (same3 (at tt p.1.xs).eq (box tt (add (at tt p.1.ys) (at tt p.0.direction.ys))).eq (at tt p.0.first.zs).eq)

pub returns-else-x-c : goal.returns-else-x-c
returns-else-x-c c =
    let p = c.requires in
    rw (sym (eq_test tt tt (leaf p.1.zs) (leaf p.0.last.zs)) ∙ ne_eqb _ _ c.if-x-c.false)
    (same3 (at tt p.1.xs).eq (at tt p.1.ys).eq (box tt (add (at tt p.1.zs) (at tt p.0.direction.zs))).eq)
