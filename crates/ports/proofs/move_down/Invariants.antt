-- `ports::move_down` meets its contract: what is left to move from turn i on gives the whole. Assumes nothing.
use mathlib.Core.Path.{◌≡◌}
use Prim.Native.Nat.{◌+◌, ◌-◌}
use Rattle.ports.specs.Links.{moved_down}
use Rattle.ports.proofs.move_down.Given as goal

abbrev pub invariant-loop-i : goal.invariant-loop-i
invariant-loop-i l = moved_down l.state (l.first + l.i) (l.n - l.i) ≡ moved_down l.initial.state l.first l.n
