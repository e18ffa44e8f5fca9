-- `numbering::value_after` meets its contract: by the direction, from the right bound down or from the left bound up. Assumes nothing.
use mathlib.Core.Path.{refl, ◌∙◌}
use Prim.Native.Nat.{ℕ, ◌≤◌, ◌<◌}
use native.Mathlib.Omega.{arith}
use Rattle.integers.specs.Words.{at, bits, box, add, sub, fits, tower, less_of, not_less_of}
use Rattle.numbering.specs.declared.Loop.{Loop}
use Rattle.numbering.specs.Ranges.{turns, Ranged, size_most}
use Rattle.numbering.specs.Turns.{value_back, value_onward}
use Rattle.numbering.proofs.value_after.Goals as goal

few : {l : Loop} {i : ℕ} → Ranged l → i < turns l → i ≤ 128
few {l} h k = omega (arith, size_most l.left l.right h.left h.right)

pub overflow_cast-result : goal.overflow_cast-result
overflow_cast-result c = record { sfits = omega (arith, few c.requires.0 c.requires.1) }

pub overflow_sub-result : goal.overflow_sub-result
overflow_sub-result c =
    let p = c.requires in fits tt (sub (at tt p.0.right) (bits tt (few p.0 p.1)))

pub overflow_cast-result-else-l-lt0 : goal.overflow_cast-result-else-l-lt0
overflow_cast-result-else-l-lt0 c = record { sfits = omega (arith, few c.requires.0 c.requires.1) }

pub overflow_add-result : goal.overflow_add-result
overflow_add-result c =
    let p = c.requires in fits tt (add (at tt p.0.left) (bits tt (few p.0 p.1)))

pub returns-then-l-lt0 : goal.returns-then-l-lt0
returns-then-l-lt0 c =
    let p = c.requires in
    let d = less_of (tower _ c.struct_told-1.given.1.1.0.1) refl c.if-l-lt0.true in
    (box tt (sub (at tt p.0.right) (bits tt (few p.0 p.1)))).eq ∙ value_back p.0.direction d _ _ _ p.1

pub returns-else-l-lt0 : goal.returns-else-l-lt0
returns-else-l-lt0 c =
    let p = c.requires in
    let d = not_less_of (tower _ c.struct_told-1.given.1.1.0.1) refl c.if-l-lt0.false in
    (box tt (add (at tt p.0.left) (bits tt (few p.0 p.1)))).eq ∙ value_onward p.0.direction d _ _ _ p.1
