-- `decode::lines` meets its contract, as the loop that stores. Assumes nothing.
use Rattle.std.proofs.Common.{◌≡◌, replicate}
use Rattle.integers.specs.Fill.{fill_by}
use Rattle.meaning.specs.Description.{body_line, no_line}
use Rattle.decode.proofs.lines.Given as goal

abbrev pub invariant-loop-i : goal.invariant-loop-i
invariant-loop-i l = l.out ≡ fill_by (body_line l.s l.z.sizes) l.i (replicate 8 no_line)
