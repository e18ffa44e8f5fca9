-- `port_rows::number_back` meets its contract: the process before p has a number, one step back. Assumes nothing.
use mathlib.Core.Path.{◌∙◌, ap}
use native.Mathlib.Omega.{arith}
use lib.IntN.{nat_abs}
use Rattle.integers.specs.Words.{at, bits, box, sub, fits, cast_of}
use Rattle.lanes.specs.Flow.{step_small}
use Rattle.port_rows.specs.Strands.{process_few, back_number, back_some, back_lt}
use Rattle.port_rows.proofs.number_back.Goals as goal

pub overflow_sub-result : goal.overflow_sub-result
overflow_sub-result c = let p = c.requires in fits tt (sub (bits tt (process_few p.0 p.1)) (at tt (step_small p.0)))

pub overflow_cast-result-2 : goal.overflow_cast-result-2
overflow_cast-result-2 c =
    let p = c.requires in
    cast_of tt (box tt (sub (bits tt (process_few p.0 p.1)) (at tt (step_small p.0)))) (back_some p.0 p.1 p.2)

pub returns : goal.returns
returns c =
    let p = c.requires in
    let e = ap nat_abs ((box tt (sub (bits tt (process_few p.0 p.1)) (at tt (step_small p.0)))).eq
    ∙ back_number p.0 p.1 p.2) in
    (e, omega (arith, e, back_lt p.0 p.1 p.2))
