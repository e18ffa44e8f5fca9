-- `written_order::fill_column` meets its contract: the first k entries of the column are set. Assumes nothing.
use mathlib.Core.Path.{◌≡◌, refl, sym, ◌∙◌, ap}
use Prim.Native.Nat.{ℕ, ◌+◌}
use native.Mathlib.Omega.{arith}
use lib.ListN.{length}
use Rattle.integers.specs.Differences.{up}
use Rattle.integers.specs.declared.V3.{V3}
use Rattle.meaning.specs.Loops.{instances}
use Rattle.geometry.specs.RowOrder.{row_lt}
use Rattle.numbering.specs.Extents.{image_inside}
use Rattle.counting.specs.Course.{next_of, after, after_zero, after_next, reached, reached_small}
use Rattle.counting.specs.Forms.{form_at, form_ready, form_is}
use Rattle.survey.specs.Surveys.{spans}
use Rattle.written_order.specs.Columns.{column, column_zero, column_step, column_same}
use Rattle.written_order.specs.Places.{number_from, numbered}
use Rattle.written_order.proofs.fill_column.Goals as goal

pub form_of-form-requires : goal.form_of-form-requires
form_of-form-requires c = let h = c.requires.charted in (h.in_range_lem.map, spans h)

pub course_of-course-requires : goal.course_of-course-requires
course_of-course-requires c = c.requires.charted.in_range_lem.nest

pub loop-k-init : goal.loop-k-init
loop-k-init c = (sym (column_zero _ _ _), sym (after_zero _))

pub number_by-requires : goal.number_by-requires
number_by-requires c =
    let p = c.requires in
    let h = numbered p (omega arith) in
    form_ready h p.charted.flow.elements_is c.form_of-form.ensures
    (reached h.bounded c.course_of-course.ensures.0 c.loop-k.invariant.1 h.lt)

pub overflow_add-table : goal.overflow_add-table
overflow_add-table c =
    let p = c.requires in
    let h = numbered p (omega arith) in
    let e = form_is h p.charted.flow.elements_is c.form_of-form.ensures
    (reached h.bounded c.course_of-course.ensures.0 c.loop-k.invariant.1 h.lt) c.number_by.ensures in
    record { fits = omega (arith, e, row_lt _ _ (image_inside h), p.fits) }

pub next-x-requires : goal.next-x-requires
next-x-requires c =
    let h = numbered c.requires (omega arith) in
    (c.course_of-course.ensures.1, reached_small h.bounded c.course_of-course.ensures.0 c.loop-k.invariant.1 h.lt)

pub loop-k-preserved : goal.loop-k-preserved
loop-k-preserved c =
    let l = c.loop-k in
    let f = c.form_of-form.result in (
      rw (column_step, c.number_by.ensures ∙ ap (λ (x : V3). up (form_at f x)) l.invariant.1, l.invariant.0),
      c.next-x.ensures ∙ ap (next_of c.course_of-course.result) l.invariant.1 ∙ sym (after_next c.course_of-course.result l.k),
    )

pub returns : goal.returns
returns c =
    let l = c.loop-k in
    let a = c.args in
    let p = c.requires in
    let count = length (instances a.f.nest) in
    let e : l.k ≡ count = omega (arith, p.counted) in
    let f : (ℕ → ℕ) = λ k. a.start + up (form_at c.form_of-form.result (after c.course_of-course.result k)) in
    l.invariant.0 ∙ ap (λ (k : ℕ). column a.i f k a.table.now) e
    ∙ column_same a.i f (number_from a.f.nest a.f.stream.map a.start) count a.table.now
    (λ k l.
    let h = numbered p (omega (arith, p.counted)) in
    ap (λ (r : ℕ). a.start + r)
    (form_is h p.charted.flow.elements_is c.form_of-form.ensures
    (reached h.bounded c.course_of-course.ensures.0 refl h.lt) refl))
