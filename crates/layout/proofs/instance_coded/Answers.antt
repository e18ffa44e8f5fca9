-- `layout::instance_coded` meets its contract: the digits of a word are at most 65,535 and 255. Assumes nothing.
use Prim.Native.Nat.{◌/◌}
use native.Mathlib.Omega.{arith}
use Rattle.integers.specs.Words.{at, bits, box, add, fits}
use Rattle.integers.specs.Vectors.{same3}
use Rattle.layout.specs.Codes.{high_small, low_small, least_small}
use Rattle.layout.proofs.instance_coded.Goals as goal

pub overflow_cast-result : goal.overflow_cast-result
overflow_cast-result c = record { sfits = omega (arith, high_small c.args.w c.ranges.w.fits) }

pub overflow_add-result : goal.overflow_add-result
overflow_add-result c = fits tt (add (bits tt (high_small c.args.w c.ranges.w.fits)) (at tt least_small))

pub overflow_cast-result-2 : goal.overflow_cast-result-2
overflow_cast-result-2 c = record { sfits = omega (arith, low_small (c.args.w / 256)) }

pub overflow_add-result-2 : goal.overflow_add-result-2
overflow_add-result-2 c = fits tt (add (bits tt (low_small (c.args.w / 256))) (at tt least_small))

pub overflow_cast-result-3 : goal.overflow_cast-result-3
overflow_cast-result-3 c = record { sfits = omega (arith, low_small c.args.w) }

pub overflow_add-result-3 : goal.overflow_add-result-3
overflow_add-result-3 c = fits tt (add (bits tt (low_small c.args.w)) (at tt least_small))

pub returns : goal.returns
returns c =
    same3 (box tt (add (bits tt (high_small c.args.w c.ranges.w.fits)) (at tt least_small))).eq
    (box tt (add (bits tt (low_small (c.args.w / 256))) (at tt least_small))).eq
    (box tt (add (bits tt (low_small c.args.w)) (at tt least_small))).eq
