-- `start::put_values` meets its contract: the first e values are put. Assumes nothing.
use mathlib.Core.Path.{◌≡◌}
use Rattle.start.specs.Values.{put}
use Rattle.start.proofs.put_values.Given as goal

abbrev pub invariant-loop-e : goal.invariant-loop-e
invariant-loop-e l = l.waiting ≡ put l.values l.places l.e l.initial.waiting
