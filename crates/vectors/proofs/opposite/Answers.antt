-- `vectors::opposite` meets its contract. Assumes nothing.
use Rattle.integers.specs.Vectors.{same2}
use Rattle.integers.specs.Words.{at, box, minus, fits, bounded}
use Rattle.vectors.proofs.opposite.Goals as goal

pub overflow_sub-result : goal.overflow_sub-result
overflow_sub-result c = fits tt (minus (at tt c.requires.first))

pub overflow_sub-result-2 : goal.overflow_sub-result-2
overflow_sub-result-2 c = fits tt (minus (at tt c.requires.second))

pub returns : goal.returns
returns c =
    let p = c.requires in
    let x = box tt (minus (at tt p.first)) in
    let y = box tt (minus (at tt p.second)) in
    (same2 x.eq y.eq, record { first = bounded x; second = bounded y })
