-- `make::size_of` meets its contract: the difference of two numbers from −64 to 64 fits. Assumes nothing.
use mathlib.Core.Path.{◌∙◌, ap}
use Prim.Native.Nat.{suc}
use native.Mathlib.Numerals.{add-one}
use native.Mathlib.Omega.{arith}
use lib.IntN.{ℤ, nat_abs}
use Rattle.integers.specs.Words.{fits, box, sub, at, cast_of}
use Rattle.make.specs.Ranges.{apart}
use Rattle.make.proofs.size_of.Goals as goal

pub overflow_sub-result : goal.overflow_sub-result
overflow_sub-result c = let d = c.requires in fits tt (sub (at tt d.greatest) (at tt d.least))

pub overflow_cast-result : goal.overflow_cast-result
overflow_cast-result c =
    let d = c.requires in cast_of tt (box tt (sub (at tt d.greatest) (at tt d.least))) (apart _ _ d.ordered)

pub overflow_add-result : goal.overflow_add-result
overflow_add-result c =
    let d = c.requires in
    let h = box tt (sub (at tt d.greatest) (at tt d.least)) in
    record { fits = omega (arith, ap nat_abs h.eq, h.le.abs) }

pub returns : goal.returns
returns c =
    let d = c.requires in
    let h = box tt (sub (at tt d.greatest) (at tt d.least)) in
    (add-one _ ∙ ap (λ (z : ℤ). suc (nat_abs z)) h.eq, omega (arith, ap nat_abs h.eq, h.le.abs))
