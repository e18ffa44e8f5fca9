-- `counting::number_by` meets its contract: weights of at most 6,916 times indices of at most 64. Assumes nothing.
use mathlib.Core.Path.{◌∙◌, ap}
use lib.IntN.{nat_abs}
use Rattle.integers.specs.Words.{at, box, mul, add, sub, fits, cast_of}
use Rattle.geometry.specs.Numbers.{up_abs}
use Rattle.counting.proofs.number_by.Goals as goal

pub overflow_mul-result : goal.overflow_mul-result
overflow_mul-result c = let p = c.requires in fits tt (mul (at tt p.weight.xs) (at tt p.point.xs))

pub overflow_mul-result-2 : goal.overflow_mul-result-2
overflow_mul-result-2 c =
    let p = c.requires in
    fits tt (mul (at tt p.weight.ys) (at tt p.point.ys))

pub overflow_add-result : goal.overflow_add-result
overflow_add-result c =
    let p = c.requires in
    let x = mul (at tt p.weight.xs) (at tt p.point.xs) in
    let y = mul (at tt p.weight.ys) (at tt p.point.ys) in
    let z = mul (at tt p.weight.zs) (at tt p.point.zs) in
    fits tt (add (box tt x) (box tt y))

pub overflow_mul-result-3 : goal.overflow_mul-result-3
overflow_mul-result-3 c =
    let p = c.requires in
    fits tt (mul (at tt p.weight.zs) (at tt p.point.zs))

pub overflow_add-result-2 : goal.overflow_add-result-2
overflow_add-result-2 c =
    let p = c.requires in
    let x = mul (at tt p.weight.xs) (at tt p.point.xs) in
    let y = mul (at tt p.weight.ys) (at tt p.point.ys) in
    let z = mul (at tt p.weight.zs) (at tt p.point.zs) in
    fits tt (add (box tt (add (box tt x) (box tt y))) (box tt z))

pub overflow_sub-result : goal.overflow_sub-result
overflow_sub-result c =
    let p = c.requires
    in
    let x = mul (at tt p.weight.xs) (at tt p.point.xs) in
    let y = mul (at tt p.weight.ys) (at tt p.point.ys) in
    let z = mul (at tt p.weight.zs) (at tt p.point.zs) in
    fits tt (sub (box tt (add (box tt (add (box tt x) (box tt y))) (box tt z))) (at tt p.base))

pub overflow_cast-result : goal.overflow_cast-result
overflow_cast-result c =
    let p = c.requires
    in
    let x = mul (at tt p.weight.xs) (at tt p.point.xs) in
    let y = mul (at tt p.weight.ys) (at tt p.point.ys) in
    let z = mul (at tt p.weight.zs) (at tt p.point.zs) in
    cast_of tt (box tt (sub (box tt (add (box tt (add (box tt x) (box tt y))) (box tt z))) (at tt p.base))) p.some

pub returns : goal.returns
returns c =
    let p = c.requires
    in
    let x = mul (at tt p.weight.xs) (at tt p.point.xs) in
    let y = mul (at tt p.weight.ys) (at tt p.point.ys) in
    let z = mul (at tt p.weight.zs) (at tt p.point.zs) in
    ap nat_abs (box tt (sub (box tt (add (box tt (add (box tt x) (box tt y))) (box tt z))) (at tt p.base))).eq ∙ up_abs _ p.some
