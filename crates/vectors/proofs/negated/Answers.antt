-- `vectors::negated` meets its contract. Assumes nothing.
use Rattle.integers.specs.Vectors.{same3}
use Rattle.integers.specs.Words.{at, box, minus, fits, bounded}
use Rattle.vectors.proofs.negated.Goals as goal

pub overflow_sub-result : goal.overflow_sub-result
overflow_sub-result c = fits tt (minus (at tt c.requires.xs))

pub overflow_sub-result-2 : goal.overflow_sub-result-2
overflow_sub-result-2 c = fits tt (minus (at tt c.requires.ys))

pub overflow_sub-result-3 : goal.overflow_sub-result-3
overflow_sub-result-3 c = fits tt (minus (at tt c.requires.zs))

pub returns : goal.returns
returns c =
    let p = c.requires in
    let x = box tt (minus (at tt p.xs)) in
    let y = box tt (minus (at tt p.ys)) in
    let z = box tt (minus (at tt p.zs)) in
    (same3 x.eq y.eq z.eq, record { xs = bounded x; ys = bounded y; zs = bounded z })
