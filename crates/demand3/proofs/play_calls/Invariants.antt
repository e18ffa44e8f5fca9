-- `demand3::play_calls` meets its contract: after k turns k calls are played. Assumes nothing.
use mathlib.Core.Path.{◌≡◌}
use Prim.Native.Nat.{◌-◌}
use Rattle.demand3.specs.Play.{lent_of, play_from}
use Rattle.demand3.proofs.play_calls.Given as goal

abbrev pub invariant-loop-k : goal.invariant-loop-k
invariant-loop-k l =
    play_from l.s l.calls 0 l.n
    (lent_of l.waiting l.initial.received l.initial.state l.initial.words l.initial.output l.initial.part l.initial.answers)
    ≡ play_from l.s l.calls l.k (l.n - l.k) (lent_of l.waiting l.received l.state l.words l.output l.part l.answers)
