-- The rows as they are read off the columns: word p is the count of process p, word 1024 + p the code of its first instance, that of zero
-- for none, word 2048 + p the number plus one of its last instance, 0 for none, and words 3072 + 2048 i + p and 4096 + 2048 i + p its soak
-- and drain on stream i. Assumes nothing.
use Rattle.std.specs.Prelude.{List, [], ◌∷◌, ℕ, ◌+◌, ◌≤◌, ◌<◌, ◌*◌, length, get_or}
use Rattle.meaning.specs.Limits.{gauge_limits}
use Rattle.integers.specs.Vectors.{zero2}
use Rattle.meaning.specs.declared.Row.{Row}
use Rattle.meaning.specs.Loops.{instances}
use Rattle.meaning.specs.Space.{points}
use Rattle.numbering.specs.Ranges.{Bounded}
use Rattle.numbering.specs.Extents.{Spanning, boxed}
use Rattle.layout.specs.Codes.{coded}
use Rattle.layout.specs.Spans.{numbered, span_words}
use Rattle.process_row.specs.declared.Shape.{Shape}

-- the words of the columns: those of the processes, then for each stream soaks and drains
abbrev pub column_words : ℕ
column_words = span_words + 6 * (2 * gauge_limits.processes)

-- six words, 2048 apart
abbrev pub by_stream : List ℕ → ℕ → List ℕ
by_stream w k =
    get_or w k 0 ∷ get_or w (k + 2048) 0 ∷ get_or w (k + 4096) 0 ∷ get_or w (k + 6144) 0 ∷ get_or w (k + 8192) 0 ∷ get_or w
    (k + 10240) 0 ∷ []

abbrev pub soak_at : List ℕ → ℕ → List ℕ
soak_at w p = by_stream w (3072 + p)

abbrev pub drain_at : List ℕ → ℕ → List ℕ
drain_at w p = by_stream w (4096 + p)

abbrev pub row_from : Shape → List ℕ → ℕ → Row
row_from h w p =
    record {
      point = get_or (points (boxed h.space)) p zero2;
      count = get_or w p 0;
      first = coded (get_or w (1024 + p) 0);
      last = numbered h.nest (get_or w (2048 + p) 0);
      soak = soak_at w p;
      drain = drain_at w p;
    }

-- a row that can be read
pub record Readable (h : Shape) (w : List ℕ) (p : ℕ) : Type 0 where
  pub few : p < 1024
  pub bounded : Bounded h.nest
  pub spanning : Spanning (boxed h.space)
  pub there : p < length (points (boxed h.space))
  pub last : get_or w (2048 + p) 0 ≤ length (instances h.nest)
