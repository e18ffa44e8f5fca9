-- `port_fill::fill_streams` meets its contract: the rows of the first i streams are written, and the sums are those of these streams.
-- Assumes nothing.
use mathlib.Core.Path.{◌≡◌}
use Rattle.port_fill.specs.Filled.{Filled, sums_of}
use Rattle.port_fill.proofs.fill_streams.Given as goal

abbrev pub invariant-loop-i : goal.invariant-loop-i
invariant-loop-i l = (l.sums ≡ sums_of l.v.description l.i) × (Filled l.v.description l.i l.ports)
