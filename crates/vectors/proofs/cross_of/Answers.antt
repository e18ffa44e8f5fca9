-- `vectors::cross_of` meets its contract: the components of a cross product are the minors of the vectors rolled once, twice and not at
-- all. Assumes nothing.
use Rattle.integers.specs.Vectors.{same3}
use Rattle.integers.specs.Words.{held, held_abs}
use Rattle.vectors.proofs.cross_of.Goals as goal

pub returns : goal.returns
returns c =
    let u = c.rolled-u1.ensures in
    let v = c.rolled-v1.ensures in
    let u2 = c.rolled.ensures in
    let v2 = c.rolled-2.ensures in
    let x = c.minor in
    let y = c.minor-2 in
    let z = c.minor-3 in (
      same3 (held x.type_inv (rw (u.0, u.1, v.0, v.1) at x.ensures.0))
          (held y.type_inv (rw (u2.0, u2.1, v2.0, v2.1, u.1, u.2, v.1, v.2) at y.ensures.0)) (held z.type_inv z.ensures.0),
      record { xs = held_abs x.type_inv x.ensures.1; ys = held_abs y.type_inv y.ensures.1; zs = held_abs z.type_inv z.ensures.1 },
    )
