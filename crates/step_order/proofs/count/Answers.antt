-- `step_order::count` meets its contract: the products are bounded. Assumes nothing.
use mathlib.Core.Path.{refl}
use native.Mathlib.Omega.{arith}
use Rattle.step_order.specs.Ranks.{steps_most}
use Rattle.step_order.proofs.count.Goals as goal

pub overflow_mul-result-3 : goal.overflow_mul-result-3
overflow_mul-result-3 c = record { fits = omega (arith, steps_most c.requires) }

pub overflow_add-result-2 : goal.overflow_add-result-2
overflow_add-result-2 c = record { fits = omega (arith, steps_most c.requires) }

pub returns : goal.returns
returns c = (refl, omega (arith, steps_most c.requires))
