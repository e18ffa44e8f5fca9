-- `table::fill_columns` meets its contract: what the limits of a board accept the gauge's accept too, so that the columns can be drawn.
-- Assumes nothing.
use mathlib.Core.Path.{◌≡◌, sym, ◌∙◌, ap}
use Rattle.refusals.specs.Numbers.{number_of, refusal_number}
use Rattle.meaning.specs.declared.Limits.{Limits}
use Rattle.geometry.specs.UpTo.{by_gauge}
use Rattle.table.specs.Columns.{refused_for}
use Rattle.table.specs.Drawable.{drawable, none_refused, columns_drawn}
use borrow.Author.Rules.{rules}
use Rattle.table.proofs.fill_columns.Goals as goal

pub survey_for-requires : goal.survey_for-requires
survey_for-requires c = c.limits_of.ensures.1

pub draw-requires : goal.draw-requires
draw-requires c =
    let h = c.in_ok-v.ensures in
    let k = h.surveyed in (
      drawable k.0 (by_gauge c.limits_of.ensures.1 _ (none_refused _ _ _ (sym h.number)).0),
      k.1,
      c.requires,
    )

pub returns : goal.returns
returns c =
    let a = c.args in
    let h = c.in_ok-v.ensures in
    let e = h.number ∙ ap (λ (l : Limits). refused_for l a.s.now a.room) c.limits_of.ensures.0 in
    record { number = e; drawn = columns_drawn _ a.s.now a.room (sym e) h.surveyed.0.description_is c.draw.ensures }

pub returns-in_err-v-clause-number : goal.returns-in_err-v-clause-number
returns-in_err-v-clause-number c =
    let a = c.args in
    let r : refusal_number c.from_residual.result ≡ number_of c.in_err-v.field-0.0 = search rules in
    r ∙ c.in_err-v.ensures.number ∙ ap (λ (l : Limits). refused_for l a.s.now a.room) c.limits_of.ensures.0
