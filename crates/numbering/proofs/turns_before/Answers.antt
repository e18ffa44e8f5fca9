-- `numbering::turns_before` meets its contract: quotients and remainders by the turns of the inner loops split k, and no loop is empty, so
-- that no divisor is 0. Assumes nothing.
use native.Mathlib.Omega.{arith}
use Rattle.numbering.specs.Turns.{turning, plane_some, plane_most, turned}
use Rattle.numbering.proofs.turns_before.Goals as goal

pub overflow_mul-plane : goal.overflow_mul-plane
overflow_mul-plane c =
    record { fits = omega (arith, plane_most (turning c.args.n c.turns_of-t.ensures c.requires.0)) }

pub nonzero_rem-rest : goal.nonzero_rem-rest
nonzero_rem-rest c = plane_some (turning c.args.n c.turns_of-t.ensures c.requires.0)

pub nonzero_div-result : goal.nonzero_div-result
nonzero_div-result c = plane_some (turning c.args.n c.turns_of-t.ensures c.requires.0)

pub nonzero_div-result-2 : goal.nonzero_div-result-2
nonzero_div-result-2 c = (turning c.args.n c.turns_of-t.ensures c.requires.0).some_inner

pub nonzero_rem-result : goal.nonzero_rem-result
nonzero_rem-result c = (turning c.args.n c.turns_of-t.ensures c.requires.0).some_inner

pub returns : goal.returns
returns c =
    turned c.args.n c.args.k c.turns_of-t.ensures c.requires.0 c.requires.1
