-- `sound::sound_pipes` meets its contract: the pipes from q on say what all say. Assumes nothing.
use mathlib.Core.Path.{◌≡◌}
use Rattle.meaning.specs.Lists.{every, numbers}
use Rattle.lists.specs.Loops.{every_left}
use Rattle.sound.specs.States.{pipe_sound}
use Rattle.sound.proofs.sound_pipes.Given as goal

abbrev pub invariant-loop-q : goal.invariant-loop-q
invariant-loop-q l =
    every (pipe_sound l.ports l.state) (numbers l.fn.z.pipes) ≡ every_left (pipe_sound l.ports l.state) l.fn.z.pipes l.q
