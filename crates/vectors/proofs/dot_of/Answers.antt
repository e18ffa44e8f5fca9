-- `vectors::dot_of` meets its contract: three products of at most 8 · 200 add up to at most 4800, so nothing leaves its word.
-- Assumes nothing.
use Rattle.integers.specs.Words.{at, box, mul, add, fits, bounded}
use Rattle.vectors.proofs.dot_of.Goals as goal

pub overflow_mul-result : goal.overflow_mul-result
overflow_mul-result c = let p = c.requires in fits tt (mul (at tt p.0.xs) (at tt p.1.xs))

pub overflow_mul-result-2 : goal.overflow_mul-result-2
overflow_mul-result-2 c = let p = c.requires in
    fits tt (mul (at tt p.0.ys) (at tt p.1.ys))

pub overflow_add-result : goal.overflow_add-result
overflow_add-result c =
    let p = c.requires in
    let x = box tt (mul (at tt p.0.xs) (at tt p.1.xs)) in
    let y = box tt (mul (at tt p.0.ys) (at tt p.1.ys)) in
    fits tt (add x y)

pub overflow_mul-result-3 : goal.overflow_mul-result-3
overflow_mul-result-3 c = let p = c.requires in
    fits tt (mul (at tt p.0.zs) (at tt p.1.zs))

pub overflow_add-result-2 : goal.overflow_add-result-2
overflow_add-result-2 c =
    let p = c.requires in
    let x = box tt (mul (at tt p.0.xs) (at tt p.1.xs)) in
    let y = box tt (mul (at tt p.0.ys) (at tt p.1.ys)) in
    let z = box tt (mul (at tt p.0.zs) (at tt p.1.zs)) in fits tt (add (box tt (add x y)) z)

pub returns : goal.returns
returns c =
    let p = c.requires in
    let x = box tt (mul (at tt p.0.xs) (at tt p.1.xs)) in
    let y = box tt (mul (at tt p.0.ys) (at tt p.1.ys)) in
    let z = box tt (mul (at tt p.0.zs) (at tt p.1.zs)) in
    let h = box tt (add (box tt (add x y)) z) in (h.eq, bounded h)
