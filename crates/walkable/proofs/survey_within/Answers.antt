-- `walkable::survey_within` meets its contract: what is not refused leaves loops that are laid out, with instances and processes within the
-- limits, as the filling asks. Assumes nothing.
use mathlib.Core.Path.{sym}
use native.Mathlib.Omega.{arith}
use Rattle.walkable.specs.Walkable.{walkable}
use Rattle.walkable.proofs.survey_within.Goals as goal

pub fill_processes-requires : goal.fill_processes-requires
fill_processes-requires c =
    let h = c.in_ok-v.ensures in
    let w = walkable c.requires h.surveyed (sym h.number) in
    (w.nest, c.in_ok-v.v.surveyed.ground, w.layout, w.instances, w.processes, omega arith)
