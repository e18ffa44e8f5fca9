-- `element_places::put_run` meets its contract: the first k elements have their places. Assumes nothing.
use mathlib.Core.Path.{◌≡◌}
use Prim.Native.Nat.{◌+◌}
use Rattle.integers.specs.Differences.{up}
use Rattle.element_places.specs.Spread.{spread}
use Rattle.element_places.specs.Runs.{number_after}
use Rattle.element_places.proofs.put_run.Given as goal

abbrev pub invariant-loop-k : goal.invariant-loop-k
invariant-loop-k l = l.places ≡ spread (λ k. up (number_after l.r k)) (λ k. l.r.place + k) l.k l.initial.places
