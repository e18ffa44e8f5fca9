-- `figures::figures_of` meets its contract: the limits on the processes and on the words of each keep their product within 32 bits. Assumes
-- nothing.
use mathlib.Core.Path.{refl, sym, ◌∙◌}
use Prim.Native.Nat.{◌≤◌}
use native.Mathlib.Omega.{arith}
use Rattle.lanes.specs.All.{zero_words}
use Rattle.figures.specs.Shares.{figures_are}
use Rattle.survey.specs.StateWords.{process_words_lem}
use Rattle.figures.proofs.figures_of.Goals as goal

pub totals_of-t-requires : goal.totals_of-t-requires
totals_of-t-requires c = c.requires

pub element_count-requires : goal.element_count-requires
element_count-requires c = c.requires.0.few

pub overflow_mul-result : goal.overflow_mul-result
overflow_mul-result c =
    let p = c.args.v.loops.processes in
    let few : p ≤ 1024 = omega (arith, c.args.v.surveyed.ground.processes_is, c.requires.0.processes) in
    record { fits = omega (arith, process_words_lem few c.totals_of-t.ensures.1.words) }

pub overflow_add-result-2 : goal.overflow_add-result-2
overflow_add-result-2 c =
    let p = c.args.v.loops.processes in
    let few : p ≤ 1024 = omega (arith, c.args.v.surveyed.ground.processes_is, c.requires.0.processes) in
    let r = c.totals_of-t.ensures.1 in
    record { fits = omega (arith, process_words_lem few r.words, r.ends) }

pub overflow_add-result-3 : goal.overflow_add-result-3
overflow_add-result-3 c =
    record { fits = omega (arith, c.totals_of-t.ensures.1.steps, c.args.v.surveyed.ground.instances_is, c.requires.0.instances) }

pub shape_of-lanes : goal.shape_of-lanes
shape_of-lanes c =
    c.totals_of-t.ensures.2.words ∙ sym (zero_words c.requires.3)

pub returns : goal.returns
returns c =
    let g = c.args.v.surveyed.ground in (
      figures_are c.requires.0 c.totals_of-t.ensures.0 g.processes_is g.instances_is
          c.element_count.ensures.0 refl refl refl,
      c.totals_of-t.ensures.2,
    )
