-- `vectors::minor` meets its contract. Assumes nothing.
use Rattle.integers.specs.Words.{at, box, mul, sub, fits, bounded}
use Rattle.vectors.proofs.minor.Goals as goal

pub overflow_mul-result : goal.overflow_mul-result
overflow_mul-result c = let p = c.requires in fits tt (mul (at tt p.0.xs) (at tt p.1.ys))

pub overflow_mul-result-2 : goal.overflow_mul-result-2
overflow_mul-result-2 c = let p = c.requires in
    fits tt (mul (at tt p.0.ys) (at tt p.1.xs))

pub overflow_sub-result : goal.overflow_sub-result
overflow_sub-result c =
    let p = c.requires in
    fits tt (sub (box tt (mul (at tt p.0.xs) (at tt p.1.ys))) (box tt (mul (at tt p.0.ys) (at tt p.1.xs))))

pub returns : goal.returns
returns c =
    let p = c.requires in
    let h = box tt (sub (box tt (mul (at tt p.0.xs) (at tt p.1.ys))) (box tt (mul (at tt p.0.ys) (at tt p.1.xs)))) in
    (h.eq, bounded h)
