-- `ready_words::can_move` meets its contract: the streams from i on say what all say. Assumes nothing.
use mathlib.Core.Path.{◌≡◌}
use Rattle.meaning.specs.Lists.{any, numbers}
use Rattle.lists.specs.Loops.{any_left}
use Rattle.ready_words.specs.Moves.{passes_by}
use Rattle.ready_words.proofs.can_move.Given as goal

abbrev pub invariant-loop-i : goal.invariant-loop-i
invariant-loop-i l =
    any_left (passes_by l.ports l.state l.p) l.z.streams l.i ≡ any (passes_by l.ports l.state l.p) (numbers l.z.streams)
