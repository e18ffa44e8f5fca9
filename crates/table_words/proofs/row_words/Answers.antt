-- `table_words::row_words` meets its contract: the components of the point fit their words and are read back unchanged, so the bits are
-- their own; the rest comes in its order. Assumes nothing.
use Rattle.table_words.specs.Words.{bits_held, row_made}
use borrow.Author.Rules.{rules}
use Rattle.table_words.proofs.row_words.Goals as goal

pub returns : goal.returns
returns c =
    let r = c.args.r in
    row_made r (bits_held r.point.a c.struct_told-1.given.0.1 c.bits_of.ensures)
    (bits_held r.point.b c.struct_told-2-1.given.1.0.1 c.bits_of-2.ensures) c.vector_words-first.ensures
    c.vector_words-last.ensures
