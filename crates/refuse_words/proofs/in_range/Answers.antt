-- `refuse_words::in_range` meets its contract. Assumes nothing.
use mathlib.Core.Path.{◌∙◌, ap}
use Rattle.integers.specs.Words.{held}
use Rattle.meaning.specs.Description.{in_range}
use Rattle.refuse_words.proofs.in_range.Goals as goal

pub returns : goal.returns
returns c =
    let a = c.args in
    c.in_range.ensures ∙ ap (in_range a.z.sizes a.k) (held c.word_at.type_inv c.word_at.ensures)
