-- `stream_tests::hop_refused` meets its contract. Assumes nothing.
use mathlib.Core.Path.{ap}
use Prim.Native.Nat.{ℕ}
use lib.Dec.{ltb}
use Rattle.survey.specs.Small.{and_goes, and_stops}
use Rattle.stream_tests.proofs.hop_refused.Goals as goal

pub returns-then-f : goal.returns-then-f
returns-then-f c =
    and_goes c.requires.flow.moving_is c.if-f.true
    (ap (λ (h : ℕ). ltb c.args.limits.hop h) c.requires.flow.hop_is)

pub returns-else-f : goal.returns-else-f
returns-else-f c = and_stops _ c.requires.flow.moving_is c.if-f.false
