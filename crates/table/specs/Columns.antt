-- What the columns hold, and that the rows read off them are document 01's. Assumes nothing.
use Rattle.std.specs.Prelude.{◌≡◌, ℕ, zero, suc, ◌+◌, ◌*◌, ◌-◌, ◌≤◌, ◌<◌, length, get_or, replicate}
use Rattle.std.proofs.Math.Path.{refl, ap}
use Rattle.std.proofs.Common.{sym, ◌∙◌, ap₂, subst, arith, length-append, ext_get_or, get_or-append-add, ne_eqb}
use mathlib.Core.List.{List, ◌++◌, map}
use Rattle.std.proofs.Math.Decide.{dec_le}
use Rattle.std.proofs.lemmas.List.{length-map, length-replicate, get_or-replicate}
use Rattle.std.proofs.Math.ListN.{get_or-append}
use Rattle.integers.specs.Fill.{fill_by, fill_same}
use Rattle.integers.specs.Vectors.{zero2}
use Rattle.integers.specs.declared.V2.{V2}
use Rattle.meaning.specs.declared.Nest.{Nest}
use Rattle.meaning.specs.declared.Stream.{Stream}
use Rattle.meaning.specs.declared.Description.{Description}
use Rattle.meaning.specs.declared.Row.{Row}
use Rattle.meaning.specs.declared.Limits.{Limits}
use Rattle.meaning.specs.Answers.{Done, Refused}
use Rattle.meaning.specs.Loops.{instances}
use Rattle.meaning.specs.Space.{Box, points, space, processes, count, first, last}
use Rattle.meaning.specs.Description.{description_of, streams_of, no_stream}
use Rattle.meaning.specs.Array.{row_soak}
use Rattle.meaning.specs.Calls.{refused_by, row_of, table}
use Rattle.lists.specs.Members.{map_at}
use Rattle.numbering.specs.Ranges.{Bounded}
use Rattle.numbering.specs.Extents.{Spanning, boxed, box_spanning}
use Rattle.lists.specs.Fills.{fill_list}
use Rattle.layout.specs.Codes.{coded}
use Rattle.layout.specs.Spans.{process_of, numbered, Spans}
use Rattle.pipes.specs.Elements.{row_drain}
use Rattle.declines.specs.Tests.{table_lengths}
use Rattle.process_row.specs.declared.Shape.{Shape}
use Rattle.process_row.specs.Rows.{by_stream, row_from, Readable}
use Rattle.table.specs.Blocks.{Streamed}

-- the refusal of the call
abbrev pub refused_for : Limits → List ℕ → ℕ → ℕ
refused_for l s room = refused_by l s (table_lengths (length (processes (description_of s).nest)) room)

-- the shape of a nest
pub record Shaped (n : Nest) (h : Shape) : Type 0 where
  pub nest : h.nest ≡ n
  pub space : boxed h.space ≡ space n
  pub rows : h.rows ≡ length (processes n)

-- the columns of a description
pub record Drawn (d : Description) (h : Shape) (w : List ℕ) : Type 0 where
  pub shaped : Shaped d.nest h
  pub bounded : Bounded d.nest
  pub few : length (processes d.nest) ≤ 1024
  pub most : length (streams_of d) ≤ 6
  pub front : List ℕ
  pub spans : Spans d.nest front
  pub copied : (k : ℕ) → k < 3072 → get_or w k 0 ≡ get_or front k 0
  pub streams : Streamed d.nest (streams_of d) (length (streams_of d)) w

-- the columns of a call that is not declined: the rows have room
pub record Columns (d : Description) (room : ℕ) (h : Shape) (w : List ℕ) : Type 0 where
  pub enough : h.rows ≤ room
  pub drawn : Drawn d h w

-- ---- the words of all streams at one process

six_at : (w : List ℕ) (k i : ℕ) → i < 6 → get_or (by_stream w k) i 0 ≡ get_or w (k + i * 2048) 0
six_at w k zero h = let e : k ≡ k + 0 * 2048 = omega arith in ap (λ (j : ℕ). get_or w j 0) e
six_at w k (suc zero) h = refl
six_at w k (suc (suc zero)) h = refl
six_at w k (suc (suc (suc zero))) h = refl
six_at w k (suc (suc (suc (suc zero)))) h = refl
six_at w k (suc (suc (suc (suc (suc zero))))) h = refl
six_at w k (suc (suc (suc (suc (suc (suc i)))))) h = absurd (omega arith)

by_stream_lem : (f : Stream → ℕ) (ss : List Stream) (w : List ℕ) (k : ℕ) → length ss ≤ 6
    → ((i : ℕ) → i < length ss → get_or w (k + i * 2048) 0 ≡ f (get_or ss i no_stream))
    → ((i : ℕ) → length ss ≤ i → i < 6 → get_or w (k + i * 2048) 0 ≡ 0)
    → by_stream w k ≡ map f ss ++ replicate (6 - length ss) 0
by_stream_lem f ss w k h used unused =
    ext_get_or 0 _ _ (sym
    (length-append (map f ss) (replicate (6 - length ss) 0) ∙ omega (arith, length-map ss f, length-replicate {A = ℕ} (6 - length ss) 0)))
    (λ i l. six_at w k i l ∙ go i l (dec_le (length ss) i))
  where
    go : (i : ℕ) → i < 6 → Dec (length ss ≤ i) → get_or w (k + i * 2048) 0 ≡ get_or (map f ss ++ replicate (6 - length ss) 0) i 0
    go i l (no g) =
        used i (omega arith)
        ∙ sym (get_or-append (map f ss) _ 0 i (omega (arith, length-map ss f)) ∙ map_at f ss i no_stream 0 (omega arith))
    go i l (yes g) =
        let t : i ≡ length (map f ss) + (i - length ss) = omega (arith, length-map ss f) in
        unused i g l
        ∙ sym (ap (λ (j : ℕ). get_or (map f ss ++ replicate (6 - length ss) 0) j 0) t
        ∙ get_or-append-add (map f ss) (replicate (6 - length ss) 0) (i - length ss) 0
        ∙ get_or-replicate (6 - length ss) (i - length ss) 0 0 (omega arith))

-- ---- a row

-- document 01's row of a process
abbrev row_as : Nest → List Stream → V2 → Row
row_as n ss y =
    record {
      point = y;
      count = count n y;
      first = first n y;
      last = last n y;
      soak = map (λ t. row_soak n t y) ss ++ replicate (6 - length ss) 0;
      drain = map (λ t. row_drain n t y) ss ++ replicate (6 - length ss) 0;
    }

module _ {d : Description} {h : Shape} {w : List ℕ} (g : Drawn d h w) where
  abbrev n : Nest
  n = d.nest

  abbrev ss : List Stream
  ss = streams_of d

  drawn_row : (p : ℕ) → p < h.rows → row_from h w p ≡ row_as n ss (process_of n p)
  drawn_row p l =
      let k : p < length (processes n) = omega (arith, g.shaped.rows) in
      let count = g.copied p (omega (arith, g.few)) ∙ g.spans.counts p k in
      let first = ap coded (g.copied (1024 + p) (omega (arith, g.few))) ∙ g.spans.firsts p k in
      let last = ap₂ numbered g.shaped.nest (g.copied (2048 + p) (omega (arith, g.few))) ∙ g.spans.lasts p k in
      let soak =
      by_stream_lem (λ t. row_soak n t (process_of n p)) ss w (3072 + p) g.most (λ i l. g.streams.soaks i p l k)
      (λ i l m. g.streams.rest (3072 + p + i * 2048) (omega arith)) in
      let drain =
      by_stream_lem (λ t. row_drain n t (process_of n p)) ss w (4096 + p) g.most (λ i l. g.streams.drains i p l k)
      (λ i l m. g.streams.rest (4096 + p + i * 2048) (omega arith)) in λ i.
      record {
        point = ap (λ (b : Box). get_or (points b) p zero2) g.shaped.space i;
        count = count i;
        first = first i;
        last = last i;
        soak = soak i;
        drain = drain i;
      }

  drawn_readable : (p : ℕ) → p < h.rows → Readable h w p
  drawn_readable p k =
      let l : p < length (processes n) = omega (arith, g.shaped.rows) in
      record {
        few = omega (arith, g.few);
        bounded = subst Bounded (sym g.shaped.nest) g.bounded;
        spanning = subst Spanning (sym g.shaped.space) (box_spanning g.bounded g.bounded.place);
        there = subst (λ (b : Box). p < length (points b)) (sym g.shaped.space) l;
        last = omega (
          arith,
          g.copied (2048 + p) (omega (arith, g.few)),
          g.spans.last_le p l,
          ap (λ (m : Nest). length (instances m)) g.shaped.nest,
        );
      }

-- ---- all rows

module _ (s : List ℕ) {room : ℕ} {h : Shape} {w : List ℕ} (g : Columns (description_of s) room h w) where
  pub columns_ready : (p : ℕ) → p < h.rows → Readable h w p
  columns_ready = drawn_readable g.drawn

  pub columns_row : (l : Limits) (p : ℕ) → p < h.rows → row_from h w p ≡ row_of l s (process_of (description_of s).nest p)
  columns_row l = drawn_row g.drawn

module _ (l : Limits) (s : List ℕ) (rows : List Row) where
  pub columns_rows : {h : Shape} {w : List ℕ} {out : List Row} → refused_for l s (length rows) ≡ 0
      → Columns (description_of s) (length rows) h w → out ≡ fill_by (row_from h w) h.rows rows
      → (Done ≡ (table l s rows).answer) × (out ≡ (table l s rows).rows)
  unfolding table
  columns_rows {h} {w} z g o =
      let d = g.drawn in
      let many = d.shaped.rows in
      rw z (
        refl,
        o ∙ fill_same (row_from h w) (λ k. row_of l s (get_or ps k zero2)) h.rows rows (drawn_row d)
            ∙ ap (λ (k : ℕ). fill_by (λ k. row_of l s (get_or ps k zero2)) k rows) many
            ∙ fill_list (row_of l s) ps zero2 (row_of l s zero2) rows (omega (arith, many, g.enough)),
      )
    where
      ps : List V2
      ps = processes (description_of s).nest

  pub rows_declined : {n : ℕ} → n ≡ refused_for l s (length rows) → (n ≡ 0 → ⊥)
      → (Refused n ≡ (table l s rows).answer) × (rows ≡ (table l s rows).rows)
  unfolding table
  rows_declined {n} e f = rw (← e, ne_eqb n 0 f) (refl, refl)
