-- `element_places::number_after` meets its contract: so many strides on from a number below 24,576 one is at another such number.
-- Assumes nothing.
use mathlib.Core.Path.{◌∙◌, ap}
use lib.IntN.{nat_abs}
use Rattle.integers.specs.Words.{at, box, add, fits, cast_of}
use Rattle.geometry.specs.Numbers.{up_abs}
use Rattle.element_places.specs.Runs.{strides}
use Rattle.element_places.proofs.number_after.Goals as goal

pub overflow_mul-result : goal.overflow_mul-result
overflow_mul-result c = fits tt (strides c.requires c.struct_told-1.given.1.0.1)

pub overflow_add-result : goal.overflow_add-result
overflow_add-result c =
    let p = c.requires in
    fits tt (add (at tt p.first) (box tt (strides p c.struct_told-1.given.1.0.1)))

pub overflow_cast-result-2 : goal.overflow_cast-result-2
overflow_cast-result-2 c =
    let p = c.requires in
    cast_of tt (box tt (add (at tt p.first) (box tt (strides p c.struct_told-1.given.1.0.1)))) p.some

pub returns : goal.returns
returns c =
    let p = c.requires in
    ap nat_abs (box tt (add (at tt p.first) (box tt (strides p c.struct_told-1.given.1.0.1)))).eq
    ∙ up_abs _ p.some
