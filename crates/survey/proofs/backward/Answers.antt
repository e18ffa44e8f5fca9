-- `survey::backward` meets its contract. Assumes nothing.
use mathlib.Core.Path.{sym, ◌∙◌, ap}
use lib.IntN.{ℤ, pos}
use lib.Signed.{lt_z}
use borrow.Author.Tests.{eq-eqb, ne_eqb}
use Rattle.integers.specs.Words.{at}
use Rattle.vectors.specs.Within.{zero_bits}
use Rattle.survey.specs.Small.{back_level, back_steep}
use Rattle.survey.proofs.backward.Goals as goal

pub returns-then-v-eq0 : goal.returns-then-v-eq0
returns-then-v-eq0 c =
    ap (λ (z : ℤ). lt_z z (pos 0)) (at tt c.requires.second).eq
    ∙ back_level c.args.v (sym (zero_bits tt c.requires.first) ∙ eq-eqb _ _ c.if-v-eq0.true)

pub returns-else-v-eq0 : goal.returns-else-v-eq0
returns-else-v-eq0 c =
    ap (λ (z : ℤ). lt_z z (pos 0)) (at tt c.requires.first).eq
    ∙ back_steep c.args.v (sym (zero_bits tt c.requires.first) ∙ ne_eqb _ _ c.if-v-eq0.false)
