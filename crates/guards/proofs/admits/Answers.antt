-- `guards::admits` meets its contract. Assumes nothing.
use mathlib.Core.Path.{◌∙◌, ap₂}
use Rattle.integers.specs.Words.{tower, held}
use Rattle.meaning.specs.Guards.{compares}
use Rattle.guards.proofs.admits.Goals as goal

pub returns : goal.returns
returns c =
    let a = c.args in
    let i = c.index_of in
    c.compares.ensures
    ∙ ap₂ (compares a.l.comparison) (held i.type_inv i.ensures)
    (tower a.l.bound c.struct_told-1.given.1.1.1.1.1.1.0.1)
