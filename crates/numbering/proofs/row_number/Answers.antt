-- `numbering::row_number` meets its contract: a point of the box is at most 1,536 from its corner either way, so that the rows before it
-- and the rest fit 32 bits. Assumes nothing.
use mathlib.Core.Path.{ap₂}
use Prim.Native.Nat.{ℕ, ◌+◌, ◌*◌, ◌≤◌}
use native.Mathlib.Nat.{mul-le-mul}
use native.Mathlib.Omega.{arith}
use Rattle.numbering.specs.Ranges.{apart_words, words_up, size_words, between_apart}
use Rattle.numbering.proofs.row_number.Goals as goal

most : {r s : ℕ} → r ≤ 1536 → s ≤ 1536 → r * (s + 1) ≤ 2360832
most h k = mul-le-mul {n₂ = 1536} {m₂ = 1537} (omega arith) (omega arith)

pub distance-requires : goal.distance-requires
distance-requires c = let p = c.requires in apart_words (between_apart p.0.first p.1.ina)

pub distance-requires-2 : goal.distance-requires-2
distance-requires-2 c = apart_words c.requires.0.second

pub overflow_mul-result : goal.overflow_mul-result
overflow_mul-result c =
    record { fits = omega (arith, most c.distance.ensures.1 c.distance-2.ensures.1) }

pub distance-requires-3 : goal.distance-requires-3
distance-requires-3 c =
    let p = c.requires in
    apart_words (between_apart p.0.second p.1.inb)

pub overflow_add-result-2 : goal.overflow_add-result-2
overflow_add-result-2 c =
    record {
      fits = omega (arith, most c.distance.ensures.1 c.distance-2.ensures.1, c.distance-3.ensures.1);
    }

pub returns : goal.returns
returns c =
    let p = c.requires in
    let x = words_up (between_apart p.0.first p.1.ina) c.distance.ensures.0 in
    ap₂ ◌+◌ (ap₂ ◌*◌ x (size_words p.0.second c.distance-2.ensures.0))
    (words_up (between_apart p.0.second p.1.inb) c.distance-3.ensures.0)
