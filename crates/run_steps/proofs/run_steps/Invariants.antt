-- `run_steps::run_steps` meets its contract: after so many turns so many of Run's steps are done. Assumes nothing.
use Rattle.meaning.specs.Rules.{memory_of}
use Rattle.run_steps.specs.Runs.{Partly}
use Rattle.run_steps.proofs.run_steps.Given as goal

abbrev pub invariant-loop-done : goal.invariant-loop-done
invariant-loop-done l =
    Partly l.s l.ports l.z l.steps (memory_of l.waiting l.initial.received l.initial.state) l.done
    (memory_of l.waiting l.received l.state) l.set.words
