-- `lanes::entry_number` meets its contract: the point as far back on the line as the box allows is its entry, and each step back changes
-- the number by that of the stream. Assumes nothing.
use mathlib.Core.Path.{◌∙◌, ap}
use lib.IntN.{nat_abs}
use Rattle.integers.specs.Words.{at, bits, box, mul, sub, fits, cast_of}
use Rattle.lanes.specs.Flow.{step_small, going_back, process_few, entry_back, entry_some, entry_number_lem}
use Rattle.lanes.proofs.entry_number.Goals as goal

pub reach_of-k-requires : goal.reach_of-k-requires
reach_of-k-requires c = let p = c.requires in going_back p.0 p.1 p.2

pub overflow_mul-result : goal.overflow_mul-result
overflow_mul-result c =
    fits tt (mul (bits tt c.reach_of-k.ensures.1) (at tt (step_small c.requires.0)))

pub overflow_sub-result : goal.overflow_sub-result
overflow_sub-result c =
    let p = c.requires in
    let far = mul (bits tt c.reach_of-k.ensures.1) (at tt (step_small p.0)) in
    fits tt (sub (bits tt (process_few p.0 p.1 p.2)) (box tt far))

pub overflow_cast-result-3 : goal.overflow_cast-result-3
overflow_cast-result-3 c =
    let p = c.requires in
    let far = mul (bits tt c.reach_of-k.ensures.1) (at tt (step_small p.0)) in
    cast_of tt (box tt (sub (bits tt (process_few p.0 p.1 p.2)) (box tt far)))
    (entry_some p.0 p.1 p.2 c.reach_of-k.ensures.0)

pub returns : goal.returns
returns c =
    let p = c.requires in
    let r = c.reach_of-k.ensures in
    let far = mul (bits tt r.1) (at tt (step_small p.0)) in
    entry_number_lem p.0 p.1 p.2 r.0
    (ap nat_abs ((box tt (sub (bits tt (process_few p.0 p.1 p.2)) (box tt far))).eq ∙ entry_back p.0 p.1 p.2 r.0))
