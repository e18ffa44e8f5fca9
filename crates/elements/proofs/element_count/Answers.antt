-- `elements::element_count` meets its contract: the elements of all streams are those before where a further one would begin; at most six
-- streams have at most 4,096 each. Assumes nothing.
use mathlib.Core.Path.{◌∙◌}
use native.Mathlib.Omega.{arith}
use Rattle.elements.specs.Counts.{start_most, start_all}
use Rattle.elements.proofs.element_count.Goals as goal

pub returns : goal.returns
returns c =
    let d = c.args.v.description in
    let u = c.args.v.surveyed.in_use in (
      c.elements_in.ensures ∙ start_all d u c.requires,
      omega (
        arith,
        c.elements_in.ensures,
        start_most d u c.requires d.sizes.streams (omega arith),
        c.requires.ranged.sized.most_streams,
      ),
    )
