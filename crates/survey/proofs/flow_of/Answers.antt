-- `survey::flow_of` meets its contract: a stream is stationary exactly if place sends its line to zero, by which document 01 chooses move
-- and hop; the step of a line is not negative, so its magnitude is the step itself. Assumes nothing.
use mathlib.Core.Path.{refl, sym, ◌∙◌, ap, ap₂, subst}
use mathlib.Core.Bool.{Bool, not, cond}
use lib.IntN.{nat_abs}
use Rattle.integers.specs.Words.{held}
use Rattle.integers.specs.Vectors.{zero2, neg2, image}
use Rattle.integers.specs.declared.V2.{V2}
use Rattle.integers.specs.declared.V3.{V3}
use Rattle.meaning.specs.Loops.{step_of}
use Rattle.meaning.specs.Space.{Box, eq2}
use Rattle.meaning.specs.Streams.{stationary}
use Rattle.meaning.specs.Pipes.{backward}
use Rattle.vectors.specs.Within.{rows_wider}
use Rattle.numbering.specs.Extents.{Spanning, box_spanning}
use Rattle.counting.specs.Forms.{weigh}
use Rattle.survey.specs.Small.{step_up}
use Rattle.survey.proofs.flow_of.Goals as goal

pub image_of-across-requires : goal.image_of-across-requires
image_of-across-requires c =
    (rows_wider tt c.requires.0.nest.place, c.line_of-short.ensures.1)

pub image_of-pass-requires : goal.image_of-pass-requires
image_of-pass-requires c =
    let p = c.requires in
    (rows_wider tt p.0.map, p.1.increment_small)

pub stride_of-requires : goal.stride_of-requires
stride_of-requires c =
    let p = c.requires in (
      subst Spanning (sym p.1.space_is) (box_spanning p.0.nest p.0.nest.place),
      c.way_of-way.ensures.1,
    )

pub returns : goal.returns
returns c =
    let b = c in
    let n = c.args.n in
    let r = c.args.s in
    let on = c.line_of-short.ensures.0 in
    let across = c.image_of-across.ensures.0 ∙ ap (image n.place) on in
    let still = c.zero2-stationary.ensures ∙ ap (λ (v : V2). eq2 v zero2) across in
    let way = c.way_of-way.ensures.0 ∙ ap₂ (λ (b : Bool) (v : V2). cond b r.loading v) still across in
    let pass = c.image_of-pass.ensures.0 ∙ ap (image r.map) c.requires.1.increment_is in
    let weighs = ap₂ (λ (k : Box) (v : V2). weigh k v.a v.b) c.requires.1.space_is way in
    record {
      nest_is = refl;
      stream_is = refl;
      line_is = on;
      line_small = c.line_of-short.ensures.1;
      divisor_is = c.line_of-short.ensures.2;
      hop_is = c.hop_of.ensures ∙ ap₂ (λ (b : Bool) (v : V3). cond b 1 (nat_abs (step_of n v))) still on
          ∙ ap (cond (stationary n r) 1) (step_up n r.map);
      space_is = c.requires.1.space_is;
      elements_is = c.extent_of.ensures.0;
      way_is = way;
      way_small = c.way_of-way.ensures.1;
      back_is = b.opposite.ensures.0 ∙ ap neg2 way;
      pass_is = pass;
      pass_small = c.image_of-pass.ensures.1;
      against_is = c.opposite-2.ensures.0 ∙ ap neg2 pass;
      against_small = c.opposite-2.ensures.1;
      step_is = held c.stride_of.type_inv (c.stride_of.ensures ∙ weighs);
      moving_is = ap not still;
      turned_is = c.backward.ensures ∙ ap backward way;
    }
