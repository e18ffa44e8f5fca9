-- `counting::form_of` meets its contract, word by word. Assumes nothing.
use mathlib.Core.Path.{◌≡◌, ◌∙◌}
use lib.IntN.{ℤ, ◌+ℤ◌, ◌*ℤ◌}
use mir.Syntax.{w32}
use mir.Val.{to_z, of_z}
use Rattle.integers.specs.Differences.{Abs}
use Rattle.integers.specs.Bounds.{Abs-wider}
use Rattle.integers.specs.Words.{at, bounded, held}
use Rattle.integers.specs.Vectors.{same3}
use Rattle.numbering.specs.Ranges.{apart_words}
use Rattle.counting.specs.Forms.{columns_held, columns_are, same_form}
use Rattle.counting.proofs.form_of.Goals as goal

pub distance-requires : goal.distance-requires
distance-requires c = apart_words c.requires.1.second

pub weight_of-requires : goal.weight_of-requires
weight_of-requires c =
    let p = c.requires in (
      columns_held p.1.second c.distance.ensures.0,
      bounded (at tt (Abs-wider tt p.0.top.xs)),
      bounded (at tt
          (Abs-wider tt p.0.low.xs)),
    )

pub weight_of-requires-2 : goal.weight_of-requires-2
weight_of-requires-2 c =
    let p = c.requires in (
      columns_held p.1.second c.distance.ensures.0,
      bounded (at tt (Abs-wider tt p.0.top.ys)),
      bounded (at tt (Abs-wider tt p.0.low.ys)),
    )

pub weight_of-requires-3 : goal.weight_of-requires-3
weight_of-requires-3 c =
    let p = c.requires
    in (
      columns_held p.1.second c.distance.ensures.0,
      bounded (at tt
          (Abs-wider tt p.0.top.zs)),
      bounded (at tt (Abs-wider tt p.0.low.zs)),
    )

pub weight_of-requires-4 : goal.weight_of-requires-4
weight_of-requires-4 c =
    let p = c.requires in (
      columns_held p.1.second c.distance.ensures.0,
      bounded (at tt p.1.first.low),
      bounded (at tt p.1.second.low),
    )

pub returns : goal.returns
returns c =
    let p = c.requires in
    let k = columns_are p.1.second c.distance.ensures.0 in
    same_form
    (same3 (held c.weight_of.type_inv (of k (Abs-wider tt p.0.top.xs) (Abs-wider tt p.0.low.xs) c.weight_of.ensures))
    (held c.weight_of-2.type_inv (of k (Abs-wider tt p.0.top.ys) (Abs-wider tt p.0.low.ys) c.weight_of-2.ensures))
    (held c.weight_of-3.type_inv (of k (Abs-wider tt p.0.top.zs) (Abs-wider tt p.0.low.zs) c.weight_of-3.ensures)))
    (held c.weight_of-4.type_inv (of k p.1.first.low p.1.second.low c.weight_of-4.ensures))
  where
    of : {c d u w r : ℤ} → c ≡ d → Abs u 768 → Abs w 768 → r ≡ c *ℤ to_z w32 (of_z w32 u) +ℤ to_z w32 (of_z w32 w) → r ≡ d *ℤ u +ℤ w
    of k h l e = e ∙ λ i. k i *ℤ (at tt h).eq i +ℤ (at tt l).eq i
