-- `vectors::against` meets its contract: a direction times a component of at most 200 fits a word, and so small a component is 0
-- exactly if its bits are. Assumes nothing.
use mathlib.Core.Path.{sym, ◌∙◌, ap}
use lib.IntN.{ℤ, pos}
use lib.Signed.{lt_z}
use borrow.Author.Tests.{eq-eqb, ne_eqb}
use Rattle.integers.specs.Words.{at, box, mul, fits}
use Rattle.vectors.specs.Within.{zero_bits}
use Rattle.vectors.proofs.against.Goals as goal

pub overflow_mul-result : goal.overflow_mul-result
overflow_mul-result c =
    let p = c.requires in
    fits tt (mul (at tt p.0.zs) (at tt p.1.zs))

pub overflow_mul-result-else-v-eq0-2 : goal.overflow_mul-result-else-v-eq0-2
overflow_mul-result-else-v-eq0-2 c =
    let p = c.requires in
    fits tt (mul (at tt p.0.ys) (at tt p.1.ys))

pub overflow_mul-result-else-v-eq0 : goal.overflow_mul-result-else-v-eq0
overflow_mul-result-else-v-eq0 c =
    let p = c.requires in fits tt (mul (at tt p.0.xs) (at tt p.1.xs))

pub returns-then-v-eq0-2 : goal.returns-then-v-eq0-2
returns-then-v-eq0-2 c =
    let p = c.requires in
    rw (
      sym (zero_bits tt p.1.xs) ∙ eq-eqb _ _ c.if-v-eq0.true,
      sym (zero_bits tt p.1.ys) ∙ eq-eqb _ _ c.if-v-eq0-2.true,
    )
    (ap (λ (z : ℤ). lt_z z (pos 0)) (box tt (mul (at tt p.0.zs) (at tt p.1.zs))).eq)

pub returns-else-v-eq0-2 : goal.returns-else-v-eq0-2
returns-else-v-eq0-2 c =
    let p = c.requires in
    rw (
      sym (zero_bits tt p.1.xs) ∙ eq-eqb _ _ c.if-v-eq0.true,
      sym (zero_bits tt p.1.ys) ∙ ne_eqb _ _ c.if-v-eq0-2.false,
    )
    (ap (λ (z : ℤ). lt_z z (pos 0)) (box tt (mul (at tt p.0.ys) (at tt p.1.ys))).eq)

pub returns-else-v-eq0 : goal.returns-else-v-eq0
returns-else-v-eq0 c =
    let p = c.requires in
    rw (sym (zero_bits tt p.1.xs) ∙ ne_eqb _ _ c.if-v-eq0.false)
    (ap (λ (z : ℤ). lt_z z (pos 0)) (box tt (mul (at tt p.0.xs) (at tt p.1.xs))).eq)
