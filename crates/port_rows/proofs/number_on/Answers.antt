-- `port_rows::number_on` meets its contract: k is within the reach, so the process k moves on has a number, k steps from p.
-- Assumes nothing.
use mathlib.Core.Path.{◌∙◌, ap}
use native.Mathlib.Omega.{arith}
use lib.IntN.{nat_abs}
use Rattle.integers.specs.Words.{at, bits, box, mul, add, fits, cast_of}
use Rattle.lanes.specs.Flow.{step_small}
use Rattle.port_rows.specs.Strands.{process_few, on_far, on_number, on_some, on_lt}
use Rattle.port_rows.proofs.number_on.Goals as goal

pub overflow_cast-result-2 : goal.overflow_cast-result-2
overflow_cast-result-2 c = let p = c.requires in record { sfits = omega (arith, on_far p.0 p.1 p.2) }

pub overflow_mul-result : goal.overflow_mul-result
overflow_mul-result c =
    let p = c.requires in fits tt (mul (bits tt (on_far p.0 p.1 p.2)) (at tt (step_small p.0)))

pub overflow_add-result : goal.overflow_add-result
overflow_add-result c =
    let p = c.requires in
    let far = mul (bits tt (on_far p.0 p.1 p.2)) (at tt (step_small p.0)) in
    fits tt (add (bits tt (process_few p.0 p.1)) (box tt far))

pub overflow_cast-result-3 : goal.overflow_cast-result-3
overflow_cast-result-3 c =
    let p = c.requires in
    let far = mul (bits tt (on_far p.0 p.1 p.2)) (at tt (step_small p.0)) in
    cast_of tt (box tt (add (bits tt (process_few p.0 p.1)) (box tt far))) (on_some p.0 p.1 p.2)

pub returns : goal.returns
returns c =
    let p = c.requires in
    let far = mul (bits tt (on_far p.0 p.1 p.2)) (at tt (step_small p.0)) in
    let e = ap nat_abs ((box tt (add (bits tt (process_few p.0 p.1)) (box tt far))).eq ∙ on_number p.0 p.1 p.2) in
    (e, omega (arith, e, on_lt p.0 p.1 p.2))
