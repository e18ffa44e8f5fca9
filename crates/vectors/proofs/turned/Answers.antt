-- `vectors::turned` meets its contract: the word of the dot product has its sign, and the negated vector is as small as the vector.
-- Assumes nothing.
use mathlib.Core.Path.{refl, sym, ap, ◌∙◌}
use lib.IntN.{ℤ, pos}
use lib.Signed.{lt_z}
use Rattle.integers.specs.Words.{held}
use Rattle.vectors.proofs.turned.Goals as goal

pub returns-then-dot_of-lt0 : goal.returns-then-dot_of-lt0
returns-then-dot_of-lt0 c =
    let d = c.dot_of in
    let e = held d.type_inv d.ensures.0 in
    rw (sym (ap (λ (z : ℤ). lt_z z (pos 0)) e) ∙ c.if-dot_of-lt0.true) c.negated.ensures

pub returns-else-dot_of-lt0 : goal.returns-else-dot_of-lt0
returns-else-dot_of-lt0 c =
    let d = c.dot_of in
    let e = held d.type_inv d.ensures.0 in
    rw (sym (ap (λ (z : ℤ). lt_z z (pos 0)) e) ∙ c.if-dot_of-lt0.false) (refl, c.requires.1)
