-- `table::table` meets its contract: the columns are ready for as many rows as are filled. Assumes nothing.
use mathlib.Core.Path.{◌≡◌, sym, ◌∙◌}
use native.Mathlib.Omega.{arith}
use borrow.Author.Rules.{rules}
use Rattle.refusals.specs.Numbers.{number_of, numbered, number-positive}
use Rattle.meaning.specs.Answers.{Refused}
use Rattle.meaning.specs.Limits.{limits_of}
use Rattle.table.specs.Columns.{columns_ready, columns_rows, rows_declined}
use Rattle.table.proofs.table.Goals as goal

pub fill_rows-requires : goal.fill_rows-requires
fill_rows-requires c = let g = c.in_ok-shape.ensures.drawn in (g.enough, columns_ready c.args.s.now g)

pub returns : goal.returns
returns c =
    let h = c.in_ok-shape.ensures in
    columns_rows (limits_of c.args.board) c.args.s.now c.args.rows.now (sym h.number) h.drawn c.fill_rows.ensures

pub returns-in_err-shape : goal.returns-in_err-shape
returns-in_err-shape c =
    let e = c.in_err-shape.field-0.0 in
    let k : numbered c.from_residual.result ≡ Refused (number_of e) = search rules in
    let d = rows_declined (limits_of c.args.board) c.args.s.now c.args.rows.now c.in_err-shape.ensures.number
    (λ z. omega (arith, number-positive e)) in
    (k ∙ d.0, d.1)
