-- `numbering::size_of` meets its contract: rows times columns, of which there are at most 1,537 each. Assumes nothing.
use mathlib.Core.Path.{◌∙◌, ap₂, sym}
use Prim.Native.Nat.{ℕ, ◌+◌, ◌*◌, ◌≤◌}
use native.Mathlib.Nat.{mul-le-mul}
use native.Mathlib.Omega.{arith}
use Rattle.geometry.specs.RowOrder.{points_length}
use Rattle.numbering.specs.Ranges.{apart_words, size_words}
use Rattle.numbering.proofs.size_of.Goals as goal

most : {r s : ℕ} → r ≤ 1536 → s ≤ 1536 → (r + 1) * (s + 1) ≤ 2362369
most h k = mul-le-mul {n₂ = 1537} {m₂ = 1537} (omega arith) (omega arith)

pub distance-requires : goal.distance-requires
distance-requires c = apart_words c.requires.first

pub distance-requires-2 : goal.distance-requires-2
distance-requires-2 c = apart_words c.requires.second

pub overflow_mul-result : goal.overflow_mul-result
overflow_mul-result c =
    record { fits = omega (arith, most c.distance.ensures.1 c.distance-2.ensures.1) }

pub returns : goal.returns
returns c =
    let p = c.requires in
    let a = c.distance.ensures in
    let b = c.distance-2.ensures in
    (ap₂ ◌*◌ (size_words p.first a.0) (size_words p.second b.0) ∙ sym (points_length _), most a.1 b.1)
