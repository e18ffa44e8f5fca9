-- `plain::fill_output` meets its contract: the first i values are there. Assumes nothing.
use Rattle.std.proofs.Common.{◌≡◌}
use Rattle.words.specs.Stored.{stored}
use Rattle.plain.proofs.fill_output.Given as goal

abbrev pub invariant-loop-i : goal.invariant-loop-i
invariant-loop-i l = l.output ≡ stored l.values 0 l.i l.initial.output
