-- `survey::hop_of` meets its contract. Assumes nothing.
use mathlib.Core.Path.{◌∙◌, ap}
use lib.IntN.{nat_abs}
use Rattle.integers.specs.Words.{held}
use Rattle.survey.proofs.hop_of.Goals as goal

pub returns-else-stationary : goal.returns-else-stationary
returns-else-stationary c =
    let t = c.dot_of in
    rw c.if-stationary.false (c.magnitude.ensures ∙ ap nat_abs (held t.type_inv t.ensures.0))
