-- `survey::small` meets its contract. Assumes nothing.
use mathlib.Core.Path.{◌∙◌, ap}
use Prim.Native.Nat.{ℕ}
use lib.Dec.{leb}
use lib.IntN.{nat_abs}
use Rattle.integers.specs.Words.{tower}
use Rattle.geometry.specs.Numbers.{small_is}
use Rattle.survey.proofs.small.Goals as goal

pub returns : goal.returns
returns c =
    ap (λ (n : ℕ). leb n 1) (c.magnitude.ensures ∙ ap nat_abs (tower c.args.c c.ranges.c.sfits)) ∙ small_is c.args.c
