-- `make::put_sizes` meets its contract. Assumes nothing.
use mathlib.Core.Path.{◌∙◌, ap}
use Rattle.meaning.specs.Description.{bytes_of}
use Rattle.words.specs.Stored.{stored}
use Rattle.make.proofs.put_sizes.Goals as goal

pub returns : goal.returns
returns c =
    let z = c.args.z in
    c.put_word-3.ensures
    ∙ ap (stored (bytes_of z.lines) 8 4) (c.put_word-2.ensures ∙ ap (stored (bytes_of z.streams) 4 4) c.put_word.ensures)
