-- `vectors::later` meets its contract: 4096 times 200, and 64 more, is below 2^31, so no component leaves its word. Assumes nothing.
use Rattle.integers.specs.Words.{at, bits, box, add, mul, fits}
use Rattle.integers.specs.Vectors.{same3}
use Rattle.vectors.proofs.later.Goals as goal

pub overflow_mul-result : goal.overflow_mul-result
overflow_mul-result c = let p = c.requires in fits tt (mul (bits tt p.2) (at tt p.1.xs))

pub overflow_add-result : goal.overflow_add-result
overflow_add-result c =
    let p = c.requires in fits tt (add (at tt p.0.xs) (box tt (mul (bits tt p.2) (at tt p.1.xs))))

pub overflow_mul-result-2 : goal.overflow_mul-result-2
overflow_mul-result-2 c = let p = c.requires in fits tt (mul (bits tt p.2) (at tt p.1.ys))

pub overflow_add-result-2 : goal.overflow_add-result-2
overflow_add-result-2 c =
    let p = c.requires in
    fits tt (add (at tt p.0.ys) (box tt (mul (bits tt p.2) (at tt p.1.ys))))

pub overflow_mul-result-3 : goal.overflow_mul-result-3
overflow_mul-result-3 c =
    let p = c.requires in
    fits tt (mul (bits tt p.2) (at tt p.1.zs))

pub overflow_add-result-3 : goal.overflow_add-result-3
overflow_add-result-3 c =
    let p = c.requires in
    fits tt (add (at tt p.0.zs) (box tt (mul (bits tt p.2) (at tt p.1.zs))))

pub returns : goal.returns
returns c =
    let p = c.requires in
    same3 (box tt (add (at tt p.0.xs) (box tt (mul (bits tt p.2) (at tt p.1.xs))))).eq
    (box tt (add (at tt p.0.ys) (box tt (mul (bits tt p.2) (at tt p.1.ys))))).eq
    (box tt (add (at tt p.0.zs) (box tt (mul (bits tt p.2) (at tt p.1.zs))))).eq
