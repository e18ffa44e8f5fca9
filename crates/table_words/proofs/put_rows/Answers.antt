-- `table_words::put_rows` meets its contract: the words of the first p rows are there. Assumes nothing.
use mathlib.Core.Path.{◌≡◌, sym, ◌∙◌, ap}
use mathlib.Core.List.{List}
use Prim.Native.Nat.{ℕ}
use native.Mathlib.Omega.{arith}
use lib.ListN.{length}
use borrow.Author.Rules.{rules}
use Rattle.words.specs.Stored.{stored_paste}
use Rattle.process_row.specs.Rows.{row_from}
use Rattle.table_words.specs.Words.{laid, row_words, words_of, words_none, rows_next}
use Rattle.table_words.proofs.put_rows.Goals as goal

pub loop-p-init : goal.loop-p-init
loop-p-init c =
    let a = c.args in
    sym (ap (λ (ws : List ℕ). laid ws a.words.now) (words_none (row_from a.shape a.columns.now)))

pub row_at-requires : goal.row_at-requires
row_at-requires c = c.requires.1 _ (omega arith)

pub slice_bounds-store-end : goal.slice_bounds-store-end
slice_bounds-store-end c = sym (ap length c.row_words-row.ensures)

pub store-requires : goal.store-requires
store-requires c =
    let e : length c.row_words-row.result ≡ 21 = ap length c.row_words-row.ensures in omega (arith, e, c.loop-p.auto.words)

pub loop-p-preserved : goal.loop-p-preserved
loop-p-preserved c =
    let l = c.loop-p in
    let a = c.args in
    rows_next (row_from a.shape a.columns.now) l.p a.words.now l.invariant
    (c.row_words-row.ensures ∙ ap row_words c.row_at.ensures)
    (c.store.ensures ∙ stored_paste _ _ _ _ (omega arith) (omega arith))

pub returns : goal.returns
returns c =
    let l = c.loop-p in
    let a = c.args in
    let e : l.p ≡ a.shape.rows = omega arith in
    l.invariant ∙ ap (λ (p : ℕ). laid (words_of (row_from a.shape a.columns.now) p) a.words.now) e
