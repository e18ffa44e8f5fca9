-- `numbering::corner` meets its contract, component by component. Assumes nothing.
use mathlib.Core.Path.{◌≡◌, ◌∙◌}
use lib.IntN.{ℤ}
use mir.Syntax.{w32}
use mir.Val.{to_z, of_z}
use Rattle.integers.specs.Differences.{Abs}
use Rattle.integers.specs.Words.{at, bounded, held, held_abs}
use Rattle.integers.specs.Vectors.{same3}
use Rattle.numbering.specs.Corners.{end_of}
use Rattle.numbering.proofs.corner.Goals as goal

-- the end by words is that of the numbers they hold
of : {w f t r : ℤ} → Abs w 4 → Abs f 64 → Abs t 64 → r ≡ end_of (to_z w32 (of_z w32 w)) (to_z w32 (of_z w32 f)) (to_z w32 (of_z w32 t))
    → r ≡
    end_of w f t
of h k l e =
    e ∙ λ i. end_of ((at tt h).eq i) ((at tt k).eq i) ((at tt l).eq i)

pub end_of-requires : goal.end_of-requires
end_of-requires c = let p = c.requires in (bounded (at tt p.1.xs), bounded (at tt p.2.xs))

pub end_of-requires-2 : goal.end_of-requires-2
end_of-requires-2 c =
    let p = c.requires in (bounded (at tt p.1.ys), bounded (at tt p.2.ys))

pub end_of-requires-3 : goal.end_of-requires-3
end_of-requires-3 c =
    let p = c.requires in
    (bounded (at tt p.1.zs), bounded (at tt p.2.zs))

pub returns : goal.returns
returns c =
    let p = c.requires in
    let e =
    same3 (held c.end_of.type_inv (of p.0.xs p.1.xs p.2.xs c.end_of.ensures.0))
    (held c.end_of-2.type_inv (of p.0.ys p.1.ys p.2.ys c.end_of-2.ensures.0))
    (held c.end_of-3.type_inv (of p.0.zs p.1.zs p.2.zs c.end_of-3.ensures.0)) in (
      e,
      record {
        xs = held_abs c.end_of.type_inv c.end_of.ensures.1;
        ys = held_abs c.end_of-2.type_inv c.end_of-2.ensures.1;
        zs = held_abs c.end_of-3.type_inv c.end_of-3.ensures.1;
      },
    )
