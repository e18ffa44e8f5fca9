-- `table_words::vector_words` meets its contract: a component fits its word and is read back unchanged, so the bits are its own.
-- Assumes nothing.
use mathlib.Core.Path.{ap, ap₂}
use mathlib.Core.List.{[], ◌∷◌}
use Prim.Native.Nat.{ℕ}
use Rattle.table_words.specs.Words.{bits_held}
use borrow.Author.Rules.{rules}
use Rattle.table_words.proofs.vector_words.Goals as goal

pub returns : goal.returns
returns c =
    let v = c.args.v in
    ap₂ ◌∷◌ (bits_held v.x c.struct_told-1.given.0.1 c.bits_of.ensures)
    (ap₂ ◌∷◌ (bits_held v.y c.struct_told-2-1.given.1.0.1 c.bits_of-2.ensures)
    (ap (λ (k : ℕ). k ∷ []) (bits_held v.z c.struct_told-3-1.given.1.1.0.1 c.bits_of-3.ensures)))
