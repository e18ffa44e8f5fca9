-- `result::put_in_order` meets its contract: the first e values are put. Assumes nothing.
use mathlib.Core.Path.{◌≡◌}
use Rattle.integers.specs.Fill.{fill_by}
use Rattle.result.specs.Order.{placed}
use Rattle.result.proofs.put_in_order.Given as goal

abbrev pub invariant-loop-e : goal.invariant-loop-e
invariant-loop-e l = l.output ≡ fill_by (placed l.received l.places) l.e l.initial.output
