-- All values are out: of every pipe as many values are received as it has elements. Assumes nothing.
use Rattle.std.specs.Prelude.{◌≡◌, Bool, List, ℕ, ◌≤◌, ◌<◌, eqb, length}
use Rattle.std.proofs.Common.{sym, ◌∙◌, ap, arith}
use Rattle.meaning.specs.declared.Limits.{Limits}
use Rattle.meaning.specs.Lists.{every, numbers}
use Rattle.meaning.specs.Array.{pipe_number}
use Rattle.meaning.specs.Calls.{A, is_out, all_out}
use Rattle.lists.specs.Rows.{same_every}
use Rattle.ports.specs.declared.End.{End}
use Rattle.ports.specs.Links.{word}
use Rattle.port_table.specs.declared.Size.{Size}
use Rattle.port_table.specs.PortsOf.{port_table_words, end_at, SizeOf, PortsOf, RowsFit}

-- of pipe q, by the rows of a port table
abbrev out_of : List ℕ → End → Bool
out_of st e = eqb (word st e.received) e.total

abbrev pub out_by : List ℕ → List ℕ → ℕ → Bool
out_by b st q = out_of st (end_at b q)

-- a port table whose rows of so many pipes say where their counts are in a state of n words
pub record Asked (b : List ℕ) (n pipes : ℕ) : Type 0 where
  pub words : length b ≡ port_table_words
  pub most : pipes ≤ 6144
  pub received : (q : ℕ) → q < pipes → (end_at b q).received < n

pub asked : {n : ℕ} {b : List ℕ} {z : Size} → RowsFit n b z → Asked b n z.pipes
asked f = record { words = f.words; most = f.pipes; received = λ q h. (f.ends q h).received }

-- a row and its count as they are read
pub out_read : (b st : List ℕ) (q : ℕ) {e : End} {w : ℕ} → e ≡ end_at b q → w ≡ word st e.received → out_by b st q ≡ eqb w e.total
out_read b st q {e} h g = ap (out_of st) (sym h) ∙ ap (λ (w : ℕ). eqb w e.total) (sym g)

-- by the port table of an array they are those of document 01
pub all_out_lem : (l : Limits) (s : List ℕ) {b : List ℕ} {z : Size} → PortsOf (A l s) b → SizeOf (A l s) z → (st : List ℕ)
    → every (out_by b st) (numbers z.pipes) ≡ all_out l s st
all_out_lem l s {b} table size st =
    ap (λ (n : ℕ). every (out_by b st) (numbers n)) size.pipes
    ∙ same_every (out_by b st) (is_out l s st) 0 (pipe_number (A l s)) (λ q _ h. ap (out_of st) (table.ends q (omega arith)))
