-- `lattice::divisor` meets its contract. Assumes nothing.
use mathlib.Core.Path.{◌∙◌, ap, ap₂}
use lib.IntN.{nat_abs}
use Rattle.integers.specs.Words.{tower}
use Rattle.lattice.specs.Gcd.{gcd_of}
use Rattle.lattice.proofs.divisor.Goals as goal

pub returns : goal.returns
returns c =
    let v = c.args.v in
    let x = c.magnitude.ensures
    ∙ ap nat_abs (tower v.x c.struct_told-1.given.0.1) in
    let y = c.magnitude-2.ensures
    ∙ ap nat_abs (tower v.y c.struct_told-2-1.given.1.0.1) in
    let z = c.magnitude-3.ensures
    ∙ ap nat_abs (tower v.z c.struct_told-3-1.given.1.1.0.1) in
    c.gcd-2.ensures ∙ ap₂ gcd_of x (c.gcd.ensures ∙ ap₂ gcd_of y z)
