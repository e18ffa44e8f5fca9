-- `element_places::put_still` meets its contract: the processes passed so far have said where their elements wait. Assumes nothing.
use Rattle.layout.specs.Spans.{process_of}
use Rattle.element_places.specs.Walked.{Gone}
use Rattle.element_places.proofs.put_still.Given as goal

abbrev pub invariant-loop-k : goal.invariant-loop-k
invariant-loop-k l =
    let f = l.f in Gone f.nest f.stream l.first l.start (process_of f.nest l.p) l.initial.places l.k l.places l.place
