-- `ReadySet::flip` meets its contract: 1 shifted so far is a power of two that a word holds. Assumes nothing.
use mathlib.Core.Path.{sym, ◌∙◌, ap}
use mathlib.Core.Bool.{Bool, ◌||◌}
use Prim.Native.Nat.{ℕ, ◌+◌, ◌/◌, ◌%◌}
use lib.Bits.{bit_xor}
use lib.Dec.{eqb}
use lib.ListN.{get_or, set}
use borrow.Author.Tests.{eq-eqb, ne_eqb}
use Rattle.bits.specs.Word.{one_shifted}
use Rattle.bits.specs.Tested.{low}
use Rattle.ready_set.specs.Flags.{word_flipped}
use Rattle.ready_set.proofs.ReadySet.flip.Goals as goal

pub returns-then-old-eq0 : goal.returns-then-old-eq0
returns-then-old-eq0 c =
    let a = c.args in
    let l = a.self.now.words in
    let i = a.from + a.r / 64 in
    let e = eq-eqb (get_or l i 0) 0 c.if-old-eq0.true in (
      ap (λ (v : ℕ). set l i (bit_xor (get_or l i 0) v)) (one_shifted (a.r % 64) (low a.r)),
      e ∙ sym (ap (λ (b : Bool). b || eqb (word_flipped l a.from a.r) 0) e),
    )

pub returns-else-old-eq0 : goal.returns-else-old-eq0
returns-else-old-eq0 c =
    let a = c.args in
    let l = a.self.now.words in
    let i = a.from + a.r / 64 in
    let e = one_shifted (a.r % 64) (low a.r) in (
      ap (λ (v : ℕ). set l i (bit_xor (get_or l i 0) v)) e,
      ap (λ (v : ℕ). eqb (bit_xor (get_or l i 0) v) 0) e
          ∙ sym (ap (λ (b : Bool). b || eqb (word_flipped l a.from a.r) 0) (ne_eqb (get_or l i 0) 0 c.if-old-eq0.false)),
    )
