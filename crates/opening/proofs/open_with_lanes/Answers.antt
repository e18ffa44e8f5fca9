-- `opening::open_with_lanes` meets its contract: no board's limits are above the gauge's. Assumes nothing.
use mathlib.Core.Path.{◌∙◌, ap}
use Rattle.meaning.specs.declared.Limits.{Limits}
use Rattle.meaning.specs.Rules.{memory_of}
use Rattle.meaning.specs.Description.{description_of}
use Rattle.meaning.specs.Calls.{memory_tests, refused_by}
use Rattle.opening.proofs.open_with_lanes.Goals as goal

pub open_within-requires : goal.open_within-requires
open_within-requires c =
    (c.limits_of-limits.ensures.1, c.requires)

pub returns : goal.returns
returns c =
    let a = c.args in
    let s = a.s.now in
    let e = c.open_within.ensures in
    record {
      number = e.number
          ∙ ap (λ (l : Limits). refused_by l s (memory_tests (description_of s) (memory_of a.waiting.now a.received.now a.state.now)))
          c.limits_of-limits.ensures.0;
      opened = e.opened;
      lanes = e.lanes;
    }
