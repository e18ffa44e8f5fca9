-- `refuse_stream::elements_refused` meets its contract: with more elements than instances one is untouched; else there are at most 4096, so
-- each has its mark. Assumes nothing.
use mathlib.Core.Bool.{false}
use Prim.Native.Nat.{◌≤◌}
use native.Mathlib.Omega.{arith}
use lib.ListN.{get_or-replicate}
use Rattle.untouched.specs.Search.{box_sized, size_is, searching_by, refusal_by, too_many}
use Rattle.survey.specs.Surveys.{spans}
use Rattle.refuse_stream.proofs.elements_refused.Goals as goal

pub size_of-elements-requires : goal.size_of-elements-requires
size_of-elements-requires c = spans c.requires.0

pub returns-then-instances-elements : goal.returns-then-instances-elements
returns-then-instances-elements c =
    let f = c.args.f in
    let z = box_sized f.stream c.requires.0.flow.elements_is c.requires.1.instances_is c.size_of-elements.ensures.0 in
    too_many f.stream c.requires.0.in_range_lem.nest.directed (omega (arith, size_is z, z.counted, c.if-instances-elements.true))

pub form_of-form-requires : goal.form_of-form-requires
form_of-form-requires c = let p = c.requires.0 in (p.in_range_lem.map, spans p)

pub untouched-requires : goal.untouched-requires
untouched-requires c =
    let f = c.args.f in
    let p = c.requires.0.in_range_lem in
    let z = box_sized f.stream c.requires.0.flow.elements_is c.requires.1.instances_is c.size_of-elements.ensures.0 in
    let b : c.size_of-elements.result ≤ 4096 = omega (arith, z.counted, c.requires.2.few, c.if-instances-elements.false) in
    searching_by z c.form_of-form.ensures p.nest c.requires.2 p.map b
    (λ e h. get_or-replicate 4096 e false false (omega (arith, b, h)))

pub returns : goal.returns
returns c =
    let z = box_sized c.args.f.stream c.requires.0.flow.elements_is c.requires.1.instances_is c.size_of-elements.ensures.0 in
    refusal_by z c.form_of-form.ensures c.requires.0.in_range_lem.nest c.requires.2 c.untouched.ensures
