-- `table_words::table_words` meets its contract: the columns are those of a call that is lent as many rows as fit into the words, so the
-- words of its rows have room there. Assumes nothing.
use mathlib.Core.Path.{◌≡◌, sym, ◌∙◌}
use native.Mathlib.Omega.{arith}
use lib.ListN.{length}
use Rattle.refusals.specs.Numbers.{number_of, refusal_number, number-positive}
use Rattle.meaning.specs.Limits.{limits_of}
use Rattle.table.specs.Columns.{columns_ready}
use Rattle.table_words.specs.Lent.{number_for, none_left, columns_fit, columns_left}
use borrow.Author.Rules.{rules}
use Rattle.table_words.proofs.table_words.Goals as goal

pub put_rows-requires : goal.put_rows-requires
put_rows-requires c =
    let a = c.args in
    let g = c.in_ok-shape.ensures.drawn in
    (columns_fit (limits_of a.board) a.bytes.now (length a.words.now) g, columns_ready a.bytes.now g)

pub returns : goal.returns
returns c =
    let a = c.args in
    let n = length a.words.now in
    let h = c.in_ok-shape.ensures in (
      h.number ∙ number_for (limits_of a.board) a.bytes.now n,
      columns_left (limits_of a.board) a.bytes.now n h.drawn (sym h.number) a.words.now c.put_rows.ensures,
    )

pub returns-in_err-shape : goal.returns-in_err-shape
returns-in_err-shape c =
    let a = c.args in
    let n = length a.words.now in
    let e = c.in_err-shape.field-0.0 in
    let h = c.in_err-shape.ensures.number in
    let k : refusal_number c.from_residual.result ≡ number_of e = search rules in (
      k ∙ h ∙ number_for (limits_of a.board) a.bytes.now n,
      none_left (limits_of a.board) a.bytes.now n (λ z. omega (arith, number-positive e, h ∙ z)) a.words.now,
    )
