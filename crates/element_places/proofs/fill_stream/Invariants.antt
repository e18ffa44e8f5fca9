-- `element_places::fill_stream` meets its contract: the pipes that enter at the first p processes have said where their elements wait, and
-- the next one's part begins at the start. Assumes nothing.
use mathlib.Core.Path.{◌≡◌}
use Rattle.pipe_parts.specs.Starts.{start_at}
use Rattle.element_places.specs.Order.{said}
use Rattle.element_places.proofs.fill_stream.Given as goal

abbrev pub invariant-loop-p : goal.invariant-loop-p
invariant-loop-p l =
    (l.places ≡ said l.f.nest l.f.stream l.first l.p l.initial.places) × (l.start ≡ start_at l.f.nest l.f.stream l.first l.p)
