-- `vectors::image_of` meets its contract. Assumes nothing.
use Rattle.integers.specs.Vectors.{same2}
use Rattle.integers.specs.Words.{held, held_abs}
use Rattle.vectors.proofs.image_of.Goals as goal

pub returns : goal.returns
returns c =
    let a = c.dot_of in
    let b = c.dot_of-2 in (
      same2 (held a.type_inv a.ensures.0) (held b.type_inv b.ensures.0),
      record { first = held_abs a.type_inv a.ensures.1; second = held_abs b.type_inv b.ensures.1 },
    )
