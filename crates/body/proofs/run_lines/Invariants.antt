-- `body::run_lines` meets its contract: after i turns the first i lines have run. Assumes nothing.
use mathlib.Core.Path.{◌≡◌}
use lib.ListN.{take}
use Rattle.meaning.specs.Body.{run_lines}
use Rattle.body.proofs.run_lines.Given as goal

abbrev pub invariant-loop-i : goal.invariant-loop-i
invariant-loop-i l = l.registers ≡ run_lines l.x (take l.i l.lines) l.initial.registers
