-- `window::part_of` meets its contract. Assumes nothing.
use mathlib.Core.Path.{refl}
use borrow.Author.Tests.{eq-eqb, ne_eqb}
use Rattle.window.proofs.part_of.Goals as goal

pub returns-then-side-eq0 : goal.returns-then-side-eq0
returns-then-side-eq0 c = rw (eq-eqb c.args.side 0 c.if-side-eq0.true) refl

pub returns-else-side-eq0 : goal.returns-else-side-eq0
returns-else-side-eq0 c = rw (ne_eqb c.args.side 0 c.if-side-eq0.false) refl
