-- `pipes::entry_at` meets its contract. Assumes nothing.
use native.Mathlib.Omega.{arith}
use Rattle.pipes.specs.Elements.{entry_lt, few}
use Rattle.pipes.proofs.entry_at.Goals as goal

pub returns : goal.returns
returns c = (c.from.ensures, omega (arith, c.from.ensures, entry_lt c.requires, few c.requires))
