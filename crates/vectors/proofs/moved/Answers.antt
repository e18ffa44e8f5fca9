-- `vectors::moved` meets its contract: 1536 times 1, and 768 more, is below 2^31, so no component leaves its word. Assumes nothing.
use Rattle.integers.specs.Words.{at, bits, box, add, mul, fits}
use Rattle.integers.specs.Vectors.{same2}
use Rattle.vectors.proofs.moved.Goals as goal

pub overflow_mul-result : goal.overflow_mul-result
overflow_mul-result c = let p = c.requires in fits tt (mul (bits tt p.2) (at tt p.1.first))

pub overflow_add-result : goal.overflow_add-result
overflow_add-result c =
    let p = c.requires in
    fits tt (add (at tt p.0.first) (box tt (mul (bits tt p.2) (at tt p.1.first))))

pub overflow_mul-result-2 : goal.overflow_mul-result-2
overflow_mul-result-2 c =
    let p = c.requires in fits tt (mul (bits tt p.2) (at tt p.1.second))

pub overflow_add-result-2 : goal.overflow_add-result-2
overflow_add-result-2 c =
    let p = c.requires in
    fits tt (add (at tt p.0.second) (box tt (mul (bits tt p.2) (at tt p.1.second))))

pub returns : goal.returns
returns c =
    let p = c.requires in
    same2 (box tt (add (at tt p.0.first) (box tt (mul (bits tt p.2) (at tt p.1.first))))).eq
    (box tt (add (at tt p.0.second) (box tt (mul (bits tt p.2) (at tt p.1.second))))).eq
