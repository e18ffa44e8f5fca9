-- `ready_words::mark_ready` meets its contract: the words are those of the processes below p. Assumes nothing.
use mathlib.Core.Path.{◌≡◌}
use Rattle.bits.specs.Ready.{marked_to}
use Rattle.ready_words.specs.Moves.{moves_by}
use Rattle.ready_words.proofs.mark_ready.Given as goal

abbrev pub invariant-loop-p : goal.invariant-loop-p
invariant-loop-p l = l.words ≡ marked_to (moves_by l.ports l.state l.z.streams) l.p l.initial.words
