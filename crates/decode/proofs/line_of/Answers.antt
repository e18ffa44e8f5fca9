-- `decode::line_of` meets its contract. Assumes nothing.
use Rattle.integers.specs.Words.{held}
use Rattle.meaning.specs.Description.{body_line}
use Rattle.decode.proofs.line_of.Goals as goal

pub returns : goal.returns
unfolding body_line
returns c =
    let at = c.line_at-k.ensures.0 in
    rw (
      c.bits_at.ensures,
      c.bits_at-2.ensures,
      c.bits_at-3.ensures,
      c.bits_at-4.ensures,
      c.bits_at-5.ensures,
      c.bits_at-6.ensures,
      held c.word_at.type_inv c.word_at.ensures,
      at,
    )
