-- `table_words::put_rows` meets its contract: the words of the first p rows are there. Assumes nothing.
use mathlib.Core.Path.{◌≡◌}
use Rattle.process_row.specs.Rows.{row_from}
use Rattle.table_words.specs.Words.{laid, words_of}
use Rattle.table_words.proofs.put_rows.Given as goal

abbrev pub invariant-loop-p : goal.invariant-loop-p
invariant-loop-p l = l.words ≡ laid (words_of (row_from l.shape l.columns) l.p) l.initial.words
