-- `layout::room` meets its contract: the way to the side that the step points to, over the size of the step, which is not 0.
-- Assumes nothing.
use mathlib.Core.Path.{refl, sym, ◌∙◌, ap₂}
use Prim.Native.Nat.{◌/◌}
use native.Mathlib.Omega.{arith}
use borrow.Author.Tests.{eq-eqb, ne_eqb}
use Rattle.integers.specs.Words.{at, less_of, not_less_of}
use Rattle.numbering.specs.Ranges.{apart_words, words_up}
use Rattle.vectors.specs.Within.{zero_bits}
use Rattle.layout.specs.Rays.{room_free, room_down, room_up, some_step, step_size}
use Rattle.layout.proofs.room.Goals as goal

pub returns-then-r-eq0 : goal.returns-then-r-eq0
returns-then-r-eq0 c =
    room_free c.args.r (sym (zero_bits tt c.requires.by) ∙ eq-eqb _ _ c.if-r-eq0.true)

pub distance-requires : goal.distance-requires
distance-requires c = apart_words c.requires.low

pub steps_in-requires : goal.steps_in-requires
steps_in-requires c =
    omega (
      arith,
      step_size c.requires.by c.magnitude-steps.ensures,
      some_step c.args.r.by (sym (zero_bits tt c.requires.by) ∙ ne_eqb _ _ c.if-r-eq0.false),
    )

pub distance-requires-else-r-lt0 : goal.distance-requires-else-r-lt0
distance-requires-else-r-lt0 c = apart_words c.requires.high

pub steps_in-requires-else-r-lt0 : goal.steps_in-requires-else-r-lt0
steps_in-requires-else-r-lt0 c =
    omega (
      arith,
      step_size c.requires.by c.magnitude-steps.ensures,
      some_step c.args.r.by (sym (zero_bits tt c.requires.by) ∙ ne_eqb _ _ c.if-r-eq0.false),
    )

pub returns-then-r-lt0 : goal.returns-then-r-lt0
returns-then-r-lt0 c =
    c.steps_in.ensures
    ∙ ap₂ ◌/◌ (words_up c.requires.low c.distance.ensures.0) (step_size c.requires.by c.magnitude-steps.ensures)
    ∙ room_down c.args.r (less_of (at tt c.requires.by).eq refl c.if-r-lt0.true)

pub returns-else-r-lt0 : goal.returns-else-r-lt0
returns-else-r-lt0 c =
    c.steps_in-else-r-lt0.ensures
    ∙ ap₂ ◌/◌ (words_up c.requires.high c.distance-else-r-lt0.ensures.0) (step_size c.requires.by c.magnitude-steps.ensures)
    ∙ room_up c.args.r (sym (zero_bits tt c.requires.by) ∙ ne_eqb _ _ c.if-r-eq0.false)
    (not_less_of (at tt c.requires.by).eq refl c.if-r-lt0.false)
