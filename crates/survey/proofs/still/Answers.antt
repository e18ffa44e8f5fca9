-- `survey::still` meets its contract. Assumes nothing.
use mathlib.Core.Path.{◌∙◌, ap}
use lib.IntN.{ℤ, pos}
use Rattle.integers.specs.Words.{eq_z}
use Rattle.vectors.specs.Within.{zero_bits}
use Rattle.survey.proofs.still.Goals as goal

pub returns : goal.returns
returns c =
    let t = c.dot_of in
    zero_bits tt t.ensures.1 ∙ ap (λ (z : ℤ). eq_z z (pos 0)) t.ensures.0
