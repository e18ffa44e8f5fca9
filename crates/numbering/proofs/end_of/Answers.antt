-- `numbering::end_of` meets its contract. Assumes nothing.
use mathlib.Core.Path.{◌∙◌, ap, sym, subst}
use mathlib.Core.Bool.{Bool, cond}
use lib.IntN.{pos}
use lib.Signed.{lt_z}
use mir.Facts.{to_z-of_z}
use Rattle.integers.specs.Differences.{Abs}
use Rattle.numbering.proofs.end_of.Goals as goal

pub returns-then-weight-lt0 : goal.returns-then-weight-lt0
returns-then-weight-lt0 c =
    let e = ap (λ (w : _). lt_z w (pos 0)) (sym (to_z-of_z c.ranges.weight)) ∙ c.if-weight-lt0.true in (
      to_z-of_z c.ranges.to ∙ ap (λ (t : Bool). cond t c.args.to c.args.from) (sym e),
      subst (λ z. Abs z 64) (sym (to_z-of_z c.ranges.to)) c.requires.1,
    )

pub returns-else-weight-lt0 : goal.returns-else-weight-lt0
returns-else-weight-lt0 c =
    let e = ap (λ (w : _). lt_z w (pos 0)) (sym (to_z-of_z c.ranges.weight)) ∙ c.if-weight-lt0.false in (
      to_z-of_z c.ranges.from ∙ ap (λ (t : Bool). cond t c.args.to c.args.from) (sym e),
      subst (λ z. Abs z 64) (sym (to_z-of_z c.ranges.from)) c.requires.0,
    )
