-- `decode_nest::nest` meets its contract. Assumes nothing.
use Rattle.meaning.specs.Description.{nest_of}
use Rattle.decode_nest.proofs.nest.Goals as goal

pub returns : goal.returns
unfolding nest_of
returns c =
    rw (
      c.vector.ensures,
      c.vector-2.ensures,
      c.vector-3.ensures,
      c.vector-4.ensures,
      c.matrix.ensures,
    )
