-- `survey::ground_of` meets its contract: the processes are the points of their box. Assumes nothing.
use mathlib.Core.Path.{◌∙◌, ap}
use lib.ListN.{length}
use Rattle.meaning.specs.Space.{Box, points}
use Rattle.survey.proofs.ground_of.Goals as goal

pub returns : goal.returns
returns c =
    let e = c.extent_of-space.ensures.0 in
    let l = c.line_of-short.ensures in
    record {
      instances_is = c.instance_count.ensures.0;
      processes_is = c.size_of.ensures.0 ∙ ap (λ (k : Box). length (points k)) e;
      increment_is = l.0;
      increment_small = l.1;
      divisor_is = l.2;
      space_is = e;
    }
