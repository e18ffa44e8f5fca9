-- `step_vectors::entry` meets its contract: the difference of two numbers up to 6 fits. Assumes nothing.
use native.Mathlib.Omega.{arith}
use Rattle.integers.specs.Words.{fits, box, sub, bits}
use Rattle.step_vectors.proofs.entry.Goals as goal

pub overflow_sub-result : goal.overflow_sub-result
overflow_sub-result c =
    let h = c.requires in fits tt (sub (bits {m = c.args.i} {n = 6} tt (omega (arith, h.0, h.1))) (bits {n = 3} tt h.0))

pub returns : goal.returns
returns c =
    let h = c.requires in (box tt (sub (bits {m = c.args.i} {n = 6} tt (omega (arith, h.0, h.1))) (bits {n = 3} tt h.0))).eq
