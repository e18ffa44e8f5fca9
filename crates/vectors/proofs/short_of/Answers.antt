-- `vectors::short_of` meets its contract. Assumes nothing.
use mathlib.Core.Path.{ap, ◌∙◌, subst, sym}
use Rattle.lattice.specs.declared.Short.{Short}
use Rattle.lattice.specs.Shorten.{divisor_of, shortened}
use Rattle.lattice.proofs.Shortening.{shortens_one}
use Rattle.vectors.specs.Within.{Within, wider, over_within}
use Rattle.vectors.proofs.short_of.Goals as goal

pub returns : goal.returns
returns c =
    let s = shortens_one c.shorten.ensures in
    let v = c.cross_of in (
      s ∙ ap shortened v.ensures.0,
      subst (λ (r : Short). Within 200 r.vector) (sym s) (wider tt (over_within (divisor_of v.result) v.ensures.1)),
    )
