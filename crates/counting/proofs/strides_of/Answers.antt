-- `counting::strides_of` meets its contract: a direction is 1 or −1. Assumes nothing.
use Rattle.integers.specs.Words.{at, box, mul, fits, bounded}
use Rattle.integers.specs.Vectors.{same3}
use Rattle.counting.proofs.strides_of.Goals as goal

pub overflow_mul-result : goal.overflow_mul-result
overflow_mul-result c = let p = c.requires in fits tt (mul (at tt p.0.weight.xs) (at tt p.1.xs))

pub overflow_mul-result-2 : goal.overflow_mul-result-2
overflow_mul-result-2 c =
    let p = c.requires in
    fits tt (mul (at tt p.0.weight.ys) (at tt p.1.ys))

pub overflow_mul-result-3 : goal.overflow_mul-result-3
overflow_mul-result-3 c =
    let p = c.requires in
    fits tt (mul (at tt p.0.weight.zs) (at tt p.1.zs))

pub returns : goal.returns
returns c =
    let p = c.requires in
    let x = box tt (mul (at tt p.0.weight.xs) (at tt p.1.xs)) in
    let y = box tt (mul (at tt p.0.weight.ys) (at tt p.1.ys)) in
    let z = box tt (mul (at tt p.0.weight.zs) (at tt p.1.zs)) in
    (same3 x.eq y.eq z.eq, record { xs = bounded x; ys = bounded y; zs = bounded z })
