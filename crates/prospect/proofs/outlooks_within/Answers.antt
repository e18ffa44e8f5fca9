-- `prospect::outlooks_within` meets its contract. Assumes nothing.
use mathlib.Core.Path.{sym, ◌∙◌, subst}
use lib.Dec.{T}
use Rattle.prospect.proofs.outlooks_within.Goals as goal

pub outlooks_of-requires : goal.outlooks_of-requires
outlooks_of-requires c = (c.requires.0, c.requires.1 c.if-crowded.false)

pub returns-then-crowded : goal.returns-then-crowded
returns-then-crowded c = λ e. absurd (subst T (sym c.if-crowded.true ∙ e) tt)
