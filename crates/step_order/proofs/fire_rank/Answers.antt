-- `step_order::fire_rank` meets its contract: the rank lies among the steps of its process. Assumes nothing.
use mathlib.Core.Path.{refl}
use native.Mathlib.Omega.{arith}
use Rattle.step_order.specs.Ranks.{steps_most, steps_inside}
use Rattle.step_order.proofs.fire_rank.Goals as goal

pub overflow_mul-result-2 : goal.overflow_mul-result-2
overflow_mul-result-2 c = record { fits = omega (arith, steps_most c.requires.0, steps_inside c.args.z c.requires.1) }

pub overflow_add-result-2 : goal.overflow_add-result-2
overflow_add-result-2 c = record { fits = omega (arith, steps_most c.requires.0, steps_inside c.args.z c.requires.1) }

pub overflow_add-result-3 : goal.overflow_add-result-3
overflow_add-result-3 c = record { fits = omega (arith, steps_most c.requires.0, steps_inside c.args.z c.requires.1) }

pub returns : goal.returns
returns c = (refl, omega (arith, steps_most c.requires.0, steps_inside c.args.z c.requires.1))
