-- `body::run_line` meets its contract: a target or an operand is at most 7, and so is one of the eight registers. Assumes nothing.
use mathlib.Core.Path.{refl, sym, ◌∙◌}
use Rattle.body.proofs.run_line.Goals as goal

pub returns-then-admits : goal.returns-then-admits
returns-then-admits c =
    let t = sym c.admits.ensures ∙ c.if-admits.true in
    rw (t, c.operate.ensures) refl

pub returns-else-admits : goal.returns-else-admits
returns-else-admits c = let t = sym c.admits.ensures ∙ c.if-admits.false in rw t refl
