-- `step_vectors::tally` meets its contract: the counts are those of the first j answers. Assumes nothing.
use Rattle.step_vectors.specs.Tally.{answers_by, Counted}
use Rattle.step_vectors.proofs.tally.Given as goal

abbrev pub invariant-loop-j : goal.invariant-loop-j
invariant-loop-j l = Counted (answers_by l.p l.k l.loops) l.j l.counts
