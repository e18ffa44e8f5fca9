-- `written_order::run_instances` meets its contract: what is left of the instances leads to the final values. Assumes nothing.
use mathlib.Core.Path.{◌≡◌}
use lib.ListN.{drop}
use Rattle.meaning.specs.Loops.{instances}
use Rattle.meaning.specs.Body.{execute_all, final_values}
use Rattle.counting.specs.Course.{after}
use Rattle.written_order.proofs.run_instances.Given as goal

abbrev pub invariant-loop-k : goal.invariant-loop-k
invariant-loop-k l = let d = l.v.description in
    (execute_all d (drop l.k (instances d.nest)) l.store ≡ final_values d l.initial.store) × (l.x ≡ after l.course l.k)
