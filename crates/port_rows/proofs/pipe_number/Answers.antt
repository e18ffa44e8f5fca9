-- `port_rows::pipe_number` meets its contract. Assumes nothing.
use mathlib.Core.Path.{◌∙◌}
use native.Mathlib.Omega.{arith}
use Rattle.port_rows.specs.Strands.{number_is}
use Rattle.port_rows.proofs.pipe_number.Goals as goal

pub returns : goal.returns
returns c =
    let k = number_is c.requires c.entry_at-e.ensures.0 in
    (c.from.ensures ∙ k.0, omega (arith, c.from.ensures, k.1))
