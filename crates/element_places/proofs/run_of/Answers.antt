-- `element_places::run_of` meets its contract: the first element of the pipe lies as far back as one can go, and its number is below 24,576
-- as well, so that the product fits. Assumes nothing.
use mathlib.Core.Path.{refl, ◌∙◌}
use Prim.Native.Nat.{◌+◌, ◌≤◌}
use native.Mathlib.Omega.{arith}
use Rattle.integers.specs.Words.{bits, held, box, sub, fits}
use Rattle.pipes.specs.Elements.{going_against, going_first, length_moving}
use Rattle.element_places.specs.Lent.{elements_spanning, stride_is, inside_elements, number_fits, back_holds, run_is}
use Rattle.element_places.proofs.run_of.Goals as goal

pub first_element-e-requires : goal.first_element-e-requires
first_element-e-requires c = c.requires.at

pub reach_of-before-requires : goal.reach_of-before-requires
reach_of-before-requires c =
    let p = c.requires in
    going_against p.at p.moves c.first_element-e.ensures

pub stride_of-stride-requires : goal.stride_of-stride-requires
stride_of-stride-requires c =
    let h = c.requires.at.flows in (elements_spanning h, h.flow.pass_small)

pub row_number-requires : goal.row_number-requires
row_number-requires c =
    let p = c.requires in
    (elements_spanning p.at.flows, inside_elements p.at c.first_element-e.ensures)

pub overflow_add-result : goal.overflow_add-result
overflow_add-result c =
    let e = c.first_element-e.ensures in
    record { fits = omega (arith, number_fits c.requires.at e c.args.first c.requires.fits c.row_number.ensures) }

pub overflow_cast-result : goal.overflow_cast-result
overflow_cast-result c =
    let e = c.first_element-e.ensures in
    omega (arith, number_fits c.requires.at e c.args.first c.requires.fits c.row_number.ensures)

pub overflow_cast-result-2 : goal.overflow_cast-result-2
overflow_cast-result-2 c = omega (arith, c.reach_of-before.ensures.1)

pub overflow_mul-result : goal.overflow_mul-result
overflow_mul-result c =
    let r = c.reach_of-before.ensures in
    let t = c.stride_of-stride in
    fits tt (back_holds c.requires c.first_element-e.ensures r.0 r.1
    (t.ensures ∙ stride_is c.requires.at.flows) t.type_inv)

pub overflow_sub-result : goal.overflow_sub-result
overflow_sub-result c =
    let e = c.first_element-e.ensures in
    let r = c.reach_of-before.ensures in
    let t = c.stride_of-stride in
    let small : c.args.first + c.row_number.result ≤ 24576 =
    omega (arith, number_fits c.requires.at e c.args.first c.requires.fits c.row_number.ensures) in
    fits tt (sub (bits tt small) (box tt (back_holds c.requires e r.0 r.1 (t.ensures ∙ stride_is c.requires.at.flows) t.type_inv)))

pub reach_of-requires : goal.reach_of-requires
reach_of-requires c =
    let p = c.requires in
    going_first p.at p.moves c.first_element-e.ensures

pub returns : goal.returns
returns c =
    let e = c.first_element-e.ensures in
    let r = c.reach_of-before.ensures in
    let t = c.stride_of-stride in
    let i = c.row_number in
    let small : c.args.first + i.result ≤ 24576 =
    omega (arith, number_fits c.requires.at e c.args.first c.requires.fits i.ensures) in
    run_is c.requires e r.0 i.ensures
    (box tt (sub (bits tt small) (box tt (back_holds c.requires e r.0 r.1 (t.ensures ∙ stride_is c.requires.at.flows) t.type_inv)))).eq
    (held t.type_inv (t.ensures ∙ stride_is c.requires.at.flows)) refl
    (length_moving c.requires.at c.requires.moves e r.0 c.reach_of.ensures.0)
    (omega (arith, r.1, c.reach_of.ensures.1))
