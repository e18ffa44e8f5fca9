-- `vectors::line_of` meets its contract. Assumes nothing.
use mathlib.Core.Path.{ap, ◌∙◌}
use Rattle.lattice.specs.declared.Short.{Short}
use Rattle.meaning.specs.Loops.{turn, line_of}
use Rattle.vectors.proofs.line_of.Goals as goal

pub turned-requires : goal.turned-requires
turned-requires c = (c.requires.0, c.short_of-short.ensures.1)

pub returns : goal.returns
unfolding line_of
returns c =
    let n = c.args.n in (
      c.turned.ensures.0 ∙ ap (λ (r : Short). turn n.step r.vector) c.short_of-short.ensures.0,
      c.turned.ensures.1,
      ap (λ (r : Short). r.divisor) c.short_of-short.ensures.0,
    )
