-- `layout::code_of` meets its contract: no coordinate lies more than 64 from 0, so each is a digit. Assumes nothing.
use mathlib.Core.Path.{ap₂}
use Prim.Native.Nat.{ℕ, ◌+◌, ◌*◌}
use Rattle.numbering.specs.Ranges.{apart_words, words_up}
use Rattle.layout.specs.Codes.{above}
use Rattle.layout.proofs.code_of.Goals as goal

pub distance-requires : goal.distance-requires
distance-requires c = apart_words (above c.requires.xs)

pub distance-requires-2 : goal.distance-requires-2
distance-requires-2 c = apart_words (above c.requires.ys)

pub distance-requires-3 : goal.distance-requires-3
distance-requires-3 c = apart_words (above c.requires.zs)

pub returns : goal.returns
returns c =
    let h = c.requires in
    let x = words_up (above h.xs) c.distance.ensures.0 in
    let y = words_up (above h.ys) c.distance-2.ensures.0 in
    let z = words_up (above h.zs) c.distance-3.ensures.0 in
    ap₂ (λ (q d : ℕ). q * 256 + d) (ap₂ (λ (q d : ℕ). q * 256 + d) x y) z
