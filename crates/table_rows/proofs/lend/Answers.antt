-- `table_rows::lend` meets its contract: the rows that are not lent stay as they were. Assumes nothing.
use Rattle.std.proofs.Common.{◌≡◌, ◌++◌, ◌-◌, ◌≤◌, ℕ, List, replicate, take, drop, ◌∙◌, ap, ap₂}
use Rattle.std.proofs.lemmas.List.{take-replicate, drop-replicate}
use Rattle.meaning.specs.declared.Limits.{Limits}
use Rattle.meaning.specs.declared.Row.{Row}
use Rattle.meaning.specs.Answers.{Answer}
use Rattle.meaning.specs.Limits.{limits_of}
use Rattle.meaning.specs.Calls.{table}
use Rattle.table_rows.specs.Marked.{marked}
use Rattle.table_rows.proofs.lend.Goals as goal

-- a call on the first n of 1,024 rows m
module _ (l : Limits) (s : List ℕ) (n : ℕ) {m : Row} (e : m ≡ marked) (h : n ≤ 1024) where
  front : take n (replicate 1024 m) ≡ replicate n marked
  front = take-replicate n 1024 m h ∙ ap (replicate n) e

  back : drop n (replicate 1024 m) ≡ replicate (1024 - n) marked
  back = drop-replicate n 1024 m ∙ ap (replicate (1024 - n)) e

  answer_is : {a : Answer} → a ≡ (table l s (take n (replicate 1024 m))).answer → a ≡ (table l s (replicate n marked)).answer
  answer_is g = g ∙ ap (λ (rows : List Row). (table l s rows).answer) front

  rows_are : {rows : List Row} → rows ≡ (table l s (take n (replicate 1024 m))).rows
      → rows ++ drop n (replicate 1024 m) ≡ (table l s (replicate n marked)).rows ++ replicate (1024 - n) marked
  rows_are g = ap₂ ◌++◌ (g ∙ ap (λ (rows : List Row). (table l s rows).rows) front) back

pub returns : goal.returns
returns c =
    let l = limits_of c.args.board in
    let s = c.args.s.now in
    let e = c.mark-m.ensures in
    let t = c.table-answer.ensures in
    (answer_is l s c.args.n e c.requires t.0, rows_are l s c.args.n e c.requires t.1)
