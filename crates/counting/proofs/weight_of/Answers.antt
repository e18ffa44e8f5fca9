-- `counting::weight_of` meets its contract. Assumes nothing.
use Rattle.integers.specs.Words.{at, box, mul, add, fits}
use Rattle.counting.proofs.weight_of.Goals as goal

pub overflow_mul-result : goal.overflow_mul-result
overflow_mul-result c = fits tt (mul (at tt c.requires.0) (at tt c.requires.1))

pub overflow_add-result : goal.overflow_add-result
overflow_add-result c = fits tt (add (box tt (mul (at tt c.requires.0) (at tt c.requires.1))) (at tt c.requires.2))

pub returns : goal.returns
returns c = (box tt (add (box tt (mul (at tt c.requires.0) (at tt c.requires.1))) (at tt c.requires.2))).eq
