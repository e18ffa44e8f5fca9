-- `numbering::distance` meets its contract. Assumes nothing.
use mathlib.Core.Path.{◌∙◌, ap, subst, sym}
use Prim.Native.Nat.{ℕ, ◌≤◌}
use lib.IntN.{nat_abs}
use Rattle.integers.specs.Words.{at, box, sub, fits, cast_of}
use Rattle.geometry.specs.Numbers.{up_abs}
use Rattle.numbering.specs.Ranges.{not_below}
use Rattle.numbering.proofs.distance.Goals as goal

pub overflow_sub-result : goal.overflow_sub-result
overflow_sub-result c = fits tt (sub (at tt c.requires.high) (at tt c.requires.low))

pub overflow_cast-result : goal.overflow_cast-result
overflow_cast-result c = cast_of tt (box tt (sub (at tt c.requires.high) (at tt c.requires.low))) (not_below _ _ c.requires.ordered)

pub returns : goal.returns
returns c =
    let h = box tt (sub (at tt c.requires.high) (at tt c.requires.low)) in
    let e = ap nat_abs h.eq in (e ∙ up_abs _ (not_below _ _ c.requires.ordered), subst (λ (x : ℕ). x ≤ 1536) (sym e) h.le.abs)
