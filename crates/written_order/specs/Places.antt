-- The numbers of the elements that each instance touches, in a table of rows of six: row k holds those of instance k. Assumes nothing.
use Rattle.std.specs.Prelude.{◌≡◌, ◌⊎◌, get_or, take, drop}
use Rattle.std.proofs.Math.Path.{refl, ap}
use Rattle.std.proofs.Common.{sym, ◌∙◌, ap₂, inl, inr, eq-or-lt_of_le, le_of_suc-le-suc, zero-add, add-one, length-drop, ext_get_or}
use Rattle.std.proofs.Common.{get_or-take, get_or-drop, length-take-le}
use mathlib.Core.List.{List, [], ◌∷◌}
use Prim.Native.Nat.{ℕ, zero, suc, ◌+◌, ◌*◌, ◌-◌, ◌≤◌, ◌<◌}
use native.Mathlib.Omega.{arith}
use Rattle.std.proofs.Math.ListN.{length}
use Rattle.integers.specs.Vectors.{zero3, image}
use Rattle.integers.specs.declared.V3.{V3}
use Rattle.integers.specs.declared.Matrix.{Matrix}
use Rattle.meaning.specs.declared.Nest.{Nest}
use Rattle.meaning.specs.declared.Stream.{Stream}
use Rattle.meaning.specs.declared.Description.{Description}
use Rattle.meaning.specs.Lists.{total}
use Rattle.meaning.specs.Loops.{instances}
use Rattle.meaning.specs.Space.{points, row_index, box_of}
use Rattle.meaning.specs.Streams.{elements}
use Rattle.meaning.specs.Description.{streams_of, no_stream}
use Rattle.meaning.specs.Body.{stream_start, element_count, touched_from, touched_by}
use Rattle.meaning.specs.Calls.{length_of}
use Rattle.geometry.specs.RowOrder.{row_lt}
use Rattle.numbering.specs.Extents.{Numbered, image_inside}
use Rattle.survey.specs.declared.Flow.{Flow}
use Rattle.survey.specs.declared.Survey.{Survey}
use Rattle.survey.specs.InRange.{InRange, in_range_lem}
use Rattle.survey.specs.Surveys.{Charted, no_flow, charted}
use Rattle.survey.specs.OfBytes.{flow_is}
use Rattle.elements.specs.Counts.{Few, start_next, start_most}
use Rattle.body.specs.Fit.{Runnable}
use Rattle.written_order.specs.Columns.{column, column_length, column_other, column_at}

-- a description whose table of places has room for every instance
pub record Fitting (d : Description) : Type 0 where
  pub few : Few d
  pub instances : length (instances d.nest) ≤ 4096

-- ---- the elements that one instance touches, by stream

-- of stream s
abbrev number : Nest → V3 → Stream → ℕ
number n x s = row_index (box_of n s.map) (image s.map x)

module _ (n : Nest) (x : V3) where
  touched_length : (k : ℕ) (ss : List Stream) → length (touched_from n k ss x) ≡ length ss
  unfolding touched_from
  touched_length k [] = refl
  touched_length k (s ∷ ss) = ap suc (touched_length (k + length (elements n s)) ss)

  touched_at_lem : (k : ℕ) (ss : List Stream) (i : ℕ) → i < length ss
      → get_or (touched_from n k ss x) i 0 ≡ k + stream_start n ss i + number n x (get_or ss i no_stream)
  unfolding touched_from total
  touched_at_lem k [] i h = absurd (omega arith)
  touched_at_lem k (s ∷ ss) zero h = omega arith
  touched_at_lem k (s ∷ ss) (suc i) h = touched_at_lem (k + length (elements n s)) ss i (omega arith) ∙ omega arith

  touched_lt : (k : ℕ) (ss : List Stream)
      → ((i : ℕ) → i < length ss → number n x (get_or ss i no_stream) < length (elements n (get_or ss i no_stream)))
      → (i : ℕ) → i < length ss → get_or (touched_from n k ss x) i 0 < k + element_count n ss
  unfolding touched_from total
  touched_lt k [] g i h = absurd (omega arith)
  touched_lt k (s ∷ ss) g zero h = omega (arith, g 0 (omega arith))
  touched_lt k (s ∷ ss) g (suc i) h =
      omega (arith, touched_lt (k + length (elements n s)) ss (λ j l. g (suc j) (omega arith)) i (omega arith))

-- ---- the table

-- the numbers that a stream's column holds: of an index map's images, from a start on
abbrev pub number_from : Nest → Matrix → ℕ → ℕ → ℕ
number_from n m start k = start + row_index (box_of n m) (image m (get_or (instances n) k zero3))

-- what a column's filling is told: the stream, how many instances there are, where the stream's elements begin, and the column
pub record Filling (f : Flow) (count start i : ℕ) : Type 0 where
  pub charted : Charted f
  pub counted : count ≡ length (instances f.nest)
  pub few : count ≤ 4096
  pub lt : i < 6
  pub fits : start + length (points (box_of f.nest f.stream.map)) ≤ 24576

-- an instance by its number in the column
pub numbered : {f : Flow} {count start i k : ℕ} → Filling f count start i → k < count → Numbered f.nest f.stream.map k
numbered p l = record { bounded = p.charted.in_range_lem.nest; rows = p.charted.in_range_lem.map; lt = omega (arith, p.counted) }

module _ (d : Description) where
  abbrev pub stream_at : ℕ → Stream
  stream_at i = get_or (streams_of d) i no_stream

  -- the element of stream i that instance k touches
  abbrev pub place : ℕ → ℕ → ℕ
  place i = number_from d.nest (stream_at i).map (stream_start d.nest (streams_of d) i)

  -- the first columns
  unfoldable pub columns : ℕ → List ℕ → List ℕ
  columns zero xs = xs
  columns (suc i) xs = column i (place i) (length (instances d.nest)) (columns i xs)

  -- a turn of the loop
  pub columns_next : (i : ℕ) (xs : List ℕ) → columns (i + 1) xs ≡ column i (place i) (length (instances d.nest)) (columns i xs)
  unfolding columns
  columns_next i xs = ap (λ (k : ℕ). columns k xs) (add-one i)

  pub columns_length : (i : ℕ) (xs : List ℕ) → length (columns i xs) ≡ length xs
  unfolding columns
  columns_length zero xs = refl
  columns_length (suc i) xs = column_length i (place i) (length (instances d.nest)) (columns i xs) ∙ columns_length i xs

  columns_at : (i j k : ℕ) (xs : List ℕ) → j < i → i ≤ 6 → k < length (instances d.nest) → 6 * length (instances d.nest) ≤ length xs
      → get_or (columns i xs) (6 * k + j) 0 ≡ place j k
  unfolding columns
  columns_at zero j k xs h l b r = absurd (omega arith)
  columns_at (suc i) j k xs h l b r = go (eq-or-lt_of_le (le_of_suc-le-suc h)) (columns_at i j k xs)
    where
      c : ℕ
      c = length (instances d.nest)

      go : (j ≡ i) ⊎ (j < i) → (j < i → i ≤ 6 → k < c → 6 * c ≤ length xs → get_or (columns i xs) (6 * k + j) 0 ≡ place j k)
          → get_or (column i (place i) c (columns i xs)) (6 * k + j) 0 ≡ place j k
      go (inl e) ih = rw e (column_at i (place i) c k (columns i xs) b (omega arith) (omega (arith, columns_length i xs)))
      go (inr m) ih =
          column_other i (place i) c k j (columns i xs) (omega arith) (omega arith) (λ (e : j ≡ i). omega arith) ∙ ih m (omega arith) b r

  -- a table that holds the places of every instance
  pub record Table (table : List ℕ) : Type 0 where
    pub room : 6 * length (instances d.nest) ≤ length table
    pub row : (k : ℕ) → k < length (instances d.nest)
        → take d.sizes.streams (drop (6 * k) table) ≡ touched_by d (get_or (instances d.nest) k zero3)

  -- row k, as a part that is lent
  pub lent : (table : List ℕ) (k : ℕ) → Table table → k < length (instances d.nest)
      → take (6 * k + d.sizes.streams - 6 * k) (drop (6 * k) table) ≡ touched_by d (get_or (instances d.nest) k zero3)
  lent table k h l = let e : 6 * k + d.sizes.streams - 6 * k ≡ d.sizes.streams = omega arith in rw e (h.row k l)

  module _ (in_use : length (streams_of d) ≡ d.sizes.streams) (h : Fitting d) where
    places_length : (x : V3) → length (touched_by d x) ≡ d.sizes.streams
    places_length x = touched_length d.nest x 0 (streams_of d) ∙ in_use

    -- all columns are such a table
    pub columns_table : (xs : List ℕ) → length xs ≡ 24576 → Table (columns d.sizes.streams xs)
    columns_table xs e =
        record {
          room = omega (arith, columns_length m xs, h.instances);
          row = λ k l.
              let x = get_or (instances d.nest) k zero3 in
              let r : d.sizes.streams ≤ length (drop (6 * k) t) =
              omega (arith, length-drop (6 * k) t, columns_length m xs, h.instances, h.few.ranged.sized.most_streams) in
              let w = length-take-le m (drop (6 * k) t) r in
              ext_get_or 0 _ _ (w ∙ sym (places_length x)) λ j b.
              let u : j < m = omega (arith, w) in
              get_or-take m (drop (6 * k) t) j 0 u ∙ get_or-drop (6 * k) t j 0
              ∙ columns_at m j k xs u h.few.ranged.sized.most_streams l (omega (arith, h.instances))
              ∙ sym (touched_at_lem d.nest x 0 (streams_of d) j (omega (arith, in_use))
              ∙ ap (λ (c : ℕ). c + number d.nest x (stream_at j)) (zero-add (stream_start d.nest (streams_of d) j)));
        }
      where
        m : ℕ
        m = d.sizes.streams

        t : List ℕ
        t = columns m xs

    stream_ranged : (i : ℕ) → i < d.sizes.streams → InRange d.nest (stream_at i)
    stream_ranged i l =
        in_range_lem h.few.ranged.nest (rw (get_or-take d.sizes.streams d.streams i no_stream l) (h.few.ranged.streams i))

    -- the lines run on the places of an instance
    pub runnable : (k : ℕ) → k < length (instances d.nest)
        → Runnable d.sizes.lines d.lines (length_of d) (touched_by d (get_or (instances d.nest) k zero3))
    runnable k l =
        let x = get_or (instances d.nest) k zero3 in
        let e = places_length x in
        let z = h.few.ranged.sized in
        record {
          lines =
              record {
                streams = omega (arith, e, z.most_streams);
                lines = z.most_lines;
                within = λ i b.
                    let w = h.few.ranged.lines i in
                    record {
                      target = omega (arith, w.target, e);
                      first = omega (arith, w.first, e);
                      second = omega (arith, w.second, e);
                    };
              };
          places =
              record {
                streams = omega (arith, e, z.most_streams);
                within = λ i b.
                    omega (
                      arith,
                      touched_lt d.nest x 0 (streams_of d) (λ j u.
                          let r = stream_ranged j (omega (arith, in_use)) in
                          row_lt (box_of d.nest (stream_at j).map) (image (stream_at j).map x)
                          (image_inside (record { bounded = r.nest; rows = r.map; lt = l }))) i (omega (arith, e, in_use)),
                    );
              };
        }

-- ---- the column of a stream that was read

module _ (v : Survey) (h : Fitting v.description) (i : ℕ) (l : i < v.description.sizes.streams)
    {f : Flow} (e : f ≡ get_or v.flows i no_flow)
    {start : ℕ} (g : start ≡ stream_start v.description.nest (streams_of v.description) i) where
  -- it can be filled
  pub filling : Filling f v.loops.instances start i
  filling =
      let d = v.description in
      let w = flow_is v i l e in
      record {
        charted = charted (in_range_lem h.few.ranged.nest (h.few.ranged.streams i)) w;
        counted = v.surveyed.ground.instances_is ∙ ap (λ (n : Nest). length (instances n)) (sym w.nest_is);
        few = omega (arith, v.surveyed.ground.instances_is, h.instances);
        lt = omega (arith, h.few.ranged.sized.most_streams);
        fits =
            omega (
              arith,
              start_next d v.surveyed.in_use h.few i l w.stream_is (ap (λ (n : Nest). length (elements n f.stream)) w.nest_is),
              start_most d v.surveyed.in_use h.few (i + 1) (omega arith),
              h.few.ranged.sized.most_streams,
            );
      }

  -- and is the stream's
  pub column_is : (table : List ℕ) {out : List ℕ}
      → out ≡ column i (number_from f.nest f.stream.map start) (length (instances f.nest)) table
      → out ≡ column i (place v.description i) (length (instances v.description.nest)) table
  column_is table o =
      let d = v.description in
      let w = flow_is v i l e in
      o ∙ ap (λ (n : Nest). column i (number_from n f.stream.map start) (length (instances n)) table) w.nest_is
      ∙ ap₂ (λ (s : Stream) (start : ℕ). column i (number_from d.nest s.map start) (length (instances d.nest)) table)
      (w.stream_is ∙ sym (get_or-take d.sizes.streams d.streams i no_stream l)) g
