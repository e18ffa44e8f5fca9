-- `prospect::streams_answer` meets its contract: what is left of the streams has the first refusal of all. Assumes nothing.
use mathlib.Core.Path.{◌≡◌}
use lib.ListN.{drop}
use Rattle.prospect.specs.Prospects.{first_by, used}
use Rattle.prospect.proofs.streams_answer.Given as goal

abbrev pub invariant-loop-i : goal.invariant-loop-i
invariant-loop-i l = first_by l.p.hop l.v (drop l.i (used l.p)) ≡ first_by l.p.hop l.v (used l.p)
