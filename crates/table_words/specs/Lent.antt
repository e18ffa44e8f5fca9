-- What Table leaves in lent words. It is lent as many rows as fit into them. Assumes nothing.
use Rattle.std.specs.Prelude.{◌≡◌, refl, Bool, cond, List, [], map, ℕ, zero, suc, ◌*◌, ◌/◌, ◌≤◌, eqb, length, replicate}
use Rattle.std.proofs.Common.{sym, ◌∙◌, ap, arith, eq-eqb, ne_eqb}
use Rattle.std.proofs.lemmas.List.{length-map, length-replicate}
use Rattle.integers.specs.Vectors.{zero2}
use Rattle.integers.specs.declared.V2.{V2}
use Rattle.meaning.specs.declared.Row.{Row}
use Rattle.meaning.specs.declared.Limits.{Limits}
use Rattle.meaning.specs.Space.{processes}
use Rattle.meaning.specs.Description.{description_of}
use Rattle.meaning.specs.Answers.{answer_number, Done, Refused}
use Rattle.meaning.specs.Calls.{answer, row_of, table}
use Rattle.lists.specs.Members.{map_at}
use Rattle.process_row.specs.declared.Shape.{Shape}
use Rattle.process_row.specs.Rows.{row_from}
use Rattle.table.specs.Columns.{refused_for, Columns, columns_row}
use Rattle.table_rows.specs.Marked.{marked}
use Rattle.table_words.specs.Words.{laid, rows_words, words_of, words_none, words_rows}

-- the number of the call on n words; what stands in the rows before it is nothing to it
abbrev pub table_number : Limits → List ℕ → ℕ → ℕ
table_number l s n = answer_number (table l s (replicate (n / 21) marked)).answer

-- a row for each process
abbrev pub rows_for : Limits → List ℕ → List Row
rows_for l s = map (row_of l s) (processes (description_of s).nest)

-- the words that the call writes: those of the rows, or none
abbrev pub table_words : Limits → List ℕ → ℕ → List ℕ
table_words l s n = cond (eqb (table_number l s n) 0) (rows_words (rows_for l s)) []

number_is : (n : ℕ) → answer_number (answer n) ≡ n
number_is zero = refl
number_is (suc n) =
    ap (λ (b : Bool). answer_number (cond b Done (Refused (suc n)))) (ne_eqb (suc n) 0 (omega arith))

table_number_lem : (l : Limits) (s : List ℕ) (k : ℕ) → answer_number (table l s (replicate k marked)).answer ≡ refused_for l s k
unfolding table
table_number_lem l s k =
    number_is (refused_for l s (length (replicate k marked))) ∙ ap (refused_for l s) (length-replicate {A = Row} k marked)

module _ (l : Limits) (s : List ℕ) (n : ℕ) where
  pub number_for : refused_for l s (n / 21) ≡ table_number l s n
  number_for = sym (table_number_lem l s (n / 21))

  -- a declined call leaves the words as they were
  pub none_left : (refused_for l s (n / 21) ≡ 0 → ⊥) → (words : List ℕ) → words ≡ laid (table_words l s n) words
  none_left f words =
      let e : table_words l s n ≡ [] =
      ap (λ (b : Bool). cond b (rows_words (rows_for l s)) []) (ne_eqb (table_number l s n) 0 (λ z. f (number_for ∙ z))) in
      ap (λ (ws : List ℕ). laid ws words) (sym e)

  -- the columns for as many rows as fit, where it is not declined
  module _ {h : Shape} {w : List ℕ} (g : Columns (description_of s) (n / 21) h w) where
    pub columns_fit : 21 * h.rows ≤ n
    columns_fit = omega (arith, g.enough)

    -- a row for each process
    words_are : refused_for l s (n / 21) ≡ 0 → words_of (row_from h w) h.rows ≡ table_words l s n
    words_are z =
        let many : h.rows ≡ length (rows_for l s) = g.drawn.shaped.rows ∙ sym (length-map ps (row_of l s)) in
        ap (words_of (row_from h w)) many
        ∙ words_rows (row_from h w) (rows_for l s) (row_of l s zero2)
        (λ p k. columns_row s g l p (omega (arith, many))
        ∙ sym (map_at (row_of l s) ps p zero2 (row_of l s zero2) (omega (arith, length-map ps (row_of l s)))))
        ∙ sym (ap (λ (b : Bool). cond b (rows_words (rows_for l s)) []) (eq-eqb (table_number l s n) 0 (sym number_for ∙ z)))
      where
        ps : List V2
        ps = processes (description_of s).nest

    -- the words afterwards, as the code comes by them
    pub columns_left : refused_for l s (n / 21) ≡ 0 → {out : List ℕ} (words : List ℕ)
        → out ≡ laid (words_of (row_from h w) h.rows) words → out ≡ laid (table_words l s n) words
    columns_left z words e = e ∙ ap (λ (ws : List ℕ). laid ws words) (words_are z)
