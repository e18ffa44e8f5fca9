-- `integers::bits_at` meets its contract: four bytes, each below 256, at their places make less than 2^32. Assumes nothing.
use Rattle.integers.specs.Bytes.{bits_at}
use Rattle.integers.proofs.bits_at.Goals as goal

pub returns : goal.returns
unfolding bits_at
returns c =
    rw (
      c.byte_at.ensures.0,
      c.byte_at-2.ensures.0,
      c.byte_at-3.ensures.0,
      c.byte_at-4.ensures.0,
    )
