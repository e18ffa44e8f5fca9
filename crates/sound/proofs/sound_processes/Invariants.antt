-- `sound::sound_processes` meets its contract: the processes from p on say what all say. Assumes nothing.
use mathlib.Core.Path.{◌≡◌}
use Rattle.meaning.specs.Lists.{every, numbers}
use Rattle.lists.specs.Loops.{every_left}
use Rattle.sound.specs.States.{process_sound}
use Rattle.sound.proofs.sound_processes.Given as goal

abbrev pub invariant-loop-p : goal.invariant-loop-p
invariant-loop-p l =
    every (process_sound l.ports l.state l.z.streams) (numbers l.z.processes)
    ≡ every_left (process_sound l.ports l.state l.z.streams) l.z.processes l.p
