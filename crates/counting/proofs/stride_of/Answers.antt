-- `counting::stride_of` meets its contract: at most 1,537 columns times 4,800. Assumes nothing.
use mathlib.Core.Path.{◌∙◌, ap}
use lib.IntN.{ℤ, ◌+ℤ◌, ◌*ℤ◌}
use Rattle.integers.specs.Words.{leaf, at, box, mul, add, fits}
use Rattle.numbering.specs.Ranges.{apart_words}
use Rattle.counting.specs.Forms.{columns_are, columns_held}
use Rattle.counting.proofs.stride_of.Goals as goal

pub distance-requires : goal.distance-requires
distance-requires c = apart_words c.requires.0.second

pub overflow_mul-result : goal.overflow_mul-result
overflow_mul-result c =
    let p = c.requires in
    fits tt (mul (leaf (columns_held p.0.second c.distance.ensures.0)) (at tt p.1.first))

pub overflow_add-result-2 : goal.overflow_add-result-2
overflow_add-result-2 c =
    let p = c.requires in
    let columns = leaf (columns_held p.0.second c.distance.ensures.0) in
    fits tt (add (box tt (mul columns (at tt p.1.first))) (at tt p.1.second))

pub returns : goal.returns
returns c =
    let p = c.requires in
    let v = c.args.v in
    let e = c.distance.ensures.0 in
    let columns = leaf (columns_held p.0.second e) in
    let sum = add (box tt (mul columns (at tt p.1.first))) (at tt p.1.second) in
    (box tt sum).eq ∙ ap (λ (k : ℤ). k *ℤ v.a +ℤ v.b) (columns_are p.0.second e)
