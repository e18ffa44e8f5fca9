-- `survey::zero2` meets its contract. Assumes nothing.
use borrow.Author.Tests.{eq-eqb, ne_eqb}
use Rattle.vectors.specs.Within.{zero_bits}
use Rattle.survey.specs.Small.{and_goes, and_stops}
use Rattle.survey.proofs.zero2.Goals as goal

pub returns-then-p-eq0 : goal.returns-then-p-eq0
returns-then-p-eq0 c =
    let p = c.requires in
    and_goes (zero_bits tt p.first) (eq-eqb _ _ c.if-p-eq0.true) (zero_bits tt p.second)

pub returns-else-p-eq0 : goal.returns-else-p-eq0
returns-else-p-eq0 c = and_stops _ (zero_bits tt c.requires.first) (ne_eqb _ _ c.if-p-eq0.false)
