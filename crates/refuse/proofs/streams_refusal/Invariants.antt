-- `refuse::streams_refusal` meets its contract: what is left of the streams has the refusal of all. Assumes nothing.
use mathlib.Core.Path.{◌≡◌}
use Rattle.meaning.specs.Tests.{refusal}
use Rattle.meaning.specs.Description.{streams_of}
use Rattle.meaning.specs.Accept.{tests_from}
use Rattle.survey.specs.Stages.{from}
use Rattle.refuse.proofs.streams_refusal.Given as goal

abbrev pub invariant-loop-i : goal.invariant-loop-i
invariant-loop-i l = let v = l.v in let limits = l.limits in
    from limits v.description l.i ≡ refusal (tests_from limits v.description 0 (streams_of v.description))
