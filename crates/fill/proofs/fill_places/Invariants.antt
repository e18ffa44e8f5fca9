-- `fill::fill_places` meets its contract: the state is that after i rounds, and the first i places have those before it. Assumes nothing.
use mathlib.Core.Path.{◌≡◌}
use Prim.Native.Nat.{suc}
use Rattle.integers.specs.Fill.{fill_by}
use Rattle.meaning.specs.Generator.{after}
use Rattle.fill.proofs.fill_places.Given as goal

abbrev pub invariant-loop-i : goal.invariant-loop-i
invariant-loop-i l = let i = l.i in
    (l.state ≡ after i l.seed) × (l.list ≡ fill_by (λ i. after (suc i) l.seed) i l.initial.list)
