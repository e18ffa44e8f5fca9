-- `table::survey_for` meets its contract: the call's own test counts only where the description is accepted, and then the survey has the
-- number of its processes. Assumes nothing.
use mathlib.Core.Path.{◌≡◌, sym, ◌∙◌, ap}
use native.Mathlib.Omega.{arith}
use lib.ListN.{length}
use Rattle.refusals.specs.Numbers.{number_of, refusal_number, number-positive}
use Rattle.meaning.specs.declared.Description.{Description}
use Rattle.meaning.specs.Space.{processes}
use Rattle.table.specs.Drawable.{refused_own, refused_first}
use borrow.Author.Rules.{rules}
use Rattle.table.proofs.survey_for.Goals as goal

pub returns : goal.returns
returns c =
    let h = c.in_ok-v.ensures in
    let k = h.surveyed in
    let n = c.in_ok-v.v.surveyed.ground.processes_is ∙ ap (λ (d : Description). length (processes d.nest)) k.0.description_is in
    record { number = refused_own _ _ _ (sym h.number) n c.in_ok-of_table.ensures; surveyed = k }

pub returns-in_err-v-clause-number : goal.returns-in_err-v-clause-number
returns-in_err-v-clause-number c =
    let e = c.in_err-v.field-0.0 in
    let k : refusal_number c.from_residual.result ≡ number_of e = search rules in
    k ∙ refused_first c.args.limits c.args.s.now c.args.room c.in_err-v.ensures.number (λ z. omega (arith, number-positive e))

pub returns-in_err-of_table-clause-number : goal.returns-in_err-of_table-clause-number
returns-in_err-of_table-clause-number c =
    let h = c.in_ok-v.ensures in
    let k = h.surveyed in
    let e = c.in_err-of_table.field-0.0 in
    let n = c.in_ok-v.v.surveyed.ground.processes_is ∙ ap (λ (d : Description). length (processes d.nest)) k.0.description_is in
    let r : refusal_number c.from_residual-in_err-of_table.result ≡ number_of e = search rules in
    r ∙ refused_own c.args.limits c.args.s.now c.args.room (sym h.number) n c.in_err-of_table.ensures
