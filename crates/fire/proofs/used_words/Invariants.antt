-- `fire::used_words` meets its contract: after s turns the first s words stand there. Assumes nothing.
use mathlib.Core.Path.{◌≡◌}
use lib.ListN.{replicate}
use Rattle.fire.specs.Firing.{used_in}
use Rattle.integers.specs.Fill.{fill_by}
use Rattle.fire.proofs.used_words.Given as goal

abbrev pub invariant-loop-s : goal.invariant-loop-s
invariant-loop-s l = l.out ≡ fill_by (used_in l.ports) l.s (replicate 6 0)
