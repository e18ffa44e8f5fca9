-- `divisors::divisors_of` meets its contract. Assumes nothing.
use Rattle.divisors.proofs.divisors_of.Goals as goal

pub returns : goal.returns
returns c =
    rw (
      c.args.v.surveyed.ground.divisor_is,
      c.stream_divisor.ensures,
      c.stream_divisor-2.ensures,
      c.stream_divisor-3.ensures,
      c.stream_divisor-4.ensures,
      c.stream_divisor-5.ensures,
      c.stream_divisor-6.ensures,
    )
