-- `sound::sound_ports` meets its contract: the ports from i on say what all say. Assumes nothing.
use mathlib.Core.Path.{◌≡◌}
use mathlib.Core.Bool.{Bool}
use mathlib.Core.List.{List}
use Prim.Native.Nat.{ℕ}
use Rattle.sound_rows.specs.Sound.{port_sound}
use Rattle.port_table.specs.PortsOf.{port_at}
use Rattle.lists.specs.Loops.{every_left}
use Rattle.sound.specs.States.{ports_sound}
use Rattle.sound.proofs.sound_ports.Given as goal

-- whether port i is sound
abbrev pub one : List ℕ → List ℕ → ℕ → ℕ → Bool
one b st p i = port_sound st (port_at b p i)

abbrev pub invariant-loop-i : goal.invariant-loop-i
invariant-loop-i l =
    ports_sound l.ports l.state l.fn.z.streams l.p ≡ every_left (one l.ports l.state l.p) l.fn.z.streams l.i
