-- What the rows of the table say: point, count, first and last of each process and its words for each stream; the rows that Table leaves.
-- Assumes a description that is not refused.
use Rattle.std.specs.Prelude.{◌≡◌, refl, ◌⊎◌, not, cond, List, ◌++◌, map, ℕ, ◌+◌, ◌-◌, ◌≤◌, ◌<◌, length, get_or, drop, replicate}
use Rattle.std.proofs.Common.{sym, ◌∙◌, subst, subst₂, inl, inr, arith, length-append, length-drop, get_or-append-add, drop_at}
use Rattle.std.proofs.Math.Path.{ap}
use Rattle.std.proofs.Math.Dec.{T, T_not, not_T}
use Rattle.std.proofs.lemmas.List.{length-map}
use Rattle.std.proofs.Math.ListN.{get_or-append}
use Rattle.std.proofs.Math.IntN.{pos}
use Rattle.integers.specs.Vectors.{zero2}
use Rattle.integers.specs.declared.V3.{V3}
use Rattle.integers.specs.declared.V2.{V2}
use Rattle.meaning.specs.declared.Limits.{Limits}
use Rattle.meaning.specs.declared.Nest.{Nest}
use Rattle.meaning.specs.declared.Stream.{Stream}
use Rattle.meaning.specs.declared.Description.{Description}
use Rattle.meaning.specs.declared.Row.{Row}
use Rattle.meaning.specs.Space.{space, processes, instances_at, first, last, computing}
use Rattle.meaning.specs.Pipes.{pipe_elements, soak, drain}
use Rattle.meaning.specs.Points.{Within, Inside, At}
use Rattle.meaning.specs.Description.{sizes_of, description_of, no_stream, streams_of}
use Rattle.meaning.specs.Accept.{refusal_of}
use Rattle.meaning.specs.Conditions.{stream_of}
use Rattle.meaning.specs.Array.{row_soak}
use Rattle.meaning.specs.Calls.{by_stream, row_of}
use Rattle.meaning.specs.Demand2.{ProcessSpace, InstancesOf, StreamWords, ComputingRow, NullWords, NullRow, RowSays, no_row, row_at}
use Rattle.meaning.specs.Demand2.{TableSays}
use Rattle.lists.specs.Members.{map_at}
use Rattle.lists.specs.Stores.{replicated}
use Rattle.geometry.specs.Numbers.{decide, yes_cond, no_cond}
use Rattle.geometry.specs.Places.{get_d_in}
use Rattle.geometry.specs.Boxes.{inside_points, points_inside, points_sorted}
use Rattle.geometry.specs.Segments.{sent_distinct, at_in, in_at, first_at, first_least, last_at, last_greatest, none_first, segment}
use Rattle.geometry.specs.Processes.{Layout, RunAt, is_computing}
use Rattle.geometry.proofs.Processes.{computes}
use Rattle.geometry.specs.Pipes.{Accepted, in_space_lem}
use Rattle.geometry.specs.Report.{increment_is, first_element, last_element}
use Rattle.geometry.proofs.Report.{soak_report, drain_report, null_report}
use Rattle.geometry.proofs.PipeLists.{moving, pipe_elements_lem, pipe_ends, some_element, soaks}
use Rattle.geometry.specs.TwoLoops.{Planar, planar, no_third, low_point}
use Rattle.geometry.specs.Descriptions.{Laid, laid}
use Rattle.geometry.specs.Passes.{RowOf}
use Rattle.guarantee.specs.Acceptance.{streams_length}
use Rattle.guarantee.specs.NestConditions.{box_found}

-- ---- the process space

pub process_space : {n : Nest} → Layout n → {x : V3} → Within n x → ProcessSpace n (processes n)
process_space {n} layout w =
    record {
      box = space n;
      smallest = box_found layout.dirs w n.place;
      members = λ y. (points_inside (space n) y, inside_points (space n) y);
      sorted = points_sorted (space n);
    }

-- ---- the words of a stream

module _ {n : Nest} {s : Stream} (h : Accepted n s) {y : V2} where
  -- of a computing process
  stream_words : {x : V3} → RunAt n y x → StreamWords n s y (first n y) (last n y) (soak n s y) (drain n s y)
  stream_words a =
      let hy = in_space_lem h a in
      record {
        elements = pipe_elements n s y;
        pipe = pipe_elements_lem h hy;
        soaks = soaks h a;
        report = λ f.
            let t = moving h hy f in
            (first_element n s y, last_element n s y, pipe_ends h hy t (some_element h a), soak_report h t a, drain_report h t a);
      }

  -- of a null one
  null_words : Inside (space n) y → NullWords n s y (length (pipe_elements n s y)) 0
  null_words hy =
      record {
        elements = pipe_elements n s y;
        pipe = pipe_elements_lem h hy;
        soaked = refl;
        drained = refl;
        report = λ f c. let t = moving h hy f in (first_element n s y, last_element n s y, pipe_ends h hy t c, null_report h t hy c);
      }

-- ---- the rows

-- the rows that Table leaves, lent at least as many as there are processes
abbrev pub left_rows : Limits → List ℕ → List Row → List Row
left_rows l s lent = let n = (description_of s).nest in map (row_of l s) (processes n) ++ drop (length (processes n)) lent

module _ (l : Limits) (s : List ℕ) (ok : refusal_of l s ≡ 0) where
  abbrev d : Description
  d = description_of s

  abbrev n : Nest
  n = d.nest

  good : Laid d
  good = laid l s ok

  streams_are : length (streams_of d) ≡ d.sizes.streams
  unfolding description_of
  streams_are = streams_length l s

  accepted : (i : ℕ) → i < d.sizes.streams → Accepted n (stream_of d i)
  accepted i h = good.stream i (omega (arith, streams_are))

  -- a stream's word in a row, and the zeros after them
  word_at : (f : Stream → ℕ) (i : ℕ) → i < d.sizes.streams → get_or (by_stream l s f) i 0 ≡ f (stream_of d i)
  word_at f i h =
      get_or-append (map f (streams_of d)) (replicate (6 - length (streams_of d)) 0) 0 i
      (omega (arith, streams_are, length-map (streams_of d) f))
      ∙ map_at f (streams_of d) i no_stream 0 (omega (arith, streams_are))

  word_past : (f : Stream → ℕ) (i : ℕ) → d.sizes.streams ≤ i → get_or (by_stream l s f) i 0 ≡ 0
  word_past f i h =
      ap (λ (k : ℕ). get_or (by_stream l s f) k 0)
      (sum (length (map f (streams_of d))) i (omega (arith, streams_are, length-map (streams_of d) f)))
      ∙ get_or-append-add (map f (streams_of d)) (replicate (6 - length (streams_of d)) 0) (i - length (map f (streams_of d))) 0
      ∙ replicated 0 (6 - length (streams_of d)) (i - length (map f (streams_of d)))
    where
      sum : (c i : ℕ) → c ≤ i → i ≡ c + (i - c)
      sum c i h = omega arith

  module _ (y : V2) (hy : Inside (space n) y) where
    -- of a computing process
    computing_row : {x : V3} → RunAt n y x → ComputingRow d y (row_of l s y)
    computing_row a =
        let t = is_computing good.layout a in
        record {
          first = record { here = first_at good.layout.dirs a; least = λ x b. first_least good.layout.dirs b };
          last = record { here = last_at good.layout.dirs a; greatest = λ x b. last_greatest good.layout.dirs b };
          apart = λ w z b. increment_is good.layout b;
          steps = let w = segment good.layout.dirs good.layout.inc a in (w.span, w.end, w.size);
          streams = λ i k.
              subst₂ (StreamWords n (stream_of d i) y (first n y) (last n y))
              (sym (word_at (λ u. row_soak n u y) i k ∙ yes_cond (computing n y) (soak n (stream_of d i) y) _ t))
              (sym (word_at (λ u. cond (computing n y) (drain n u y) 0) i k ∙ yes_cond (computing n y) (drain n (stream_of d i) y) _ t))
              (stream_words (accepted i k) a);
        }

    -- of a null one
    null_row : ((x : V3) → At n n.place y x → ⊥) → NullRow d y (row_of l s y)
    null_row f =
        let t = not_T (computing n y) (λ c. f (first n y) (computes good.layout y c)) in
        let z = none_first good.layout.dirs f in
        record {
          first = z.0;
          last = z.1;
          streams = λ i k.
              subst₂ (NullWords n (stream_of d i) y)
              (sym (word_at (λ u. row_soak n u y) i k ∙ no_cond (computing n y) (soak n (stream_of d i) y) _ t))
              (sym (word_at (λ u. cond (computing n y) (drain n u y) 0) i k ∙ no_cond (computing n y) (drain n (stream_of d i) y) _ t))
              (null_words (accepted i k) hy);
        }

    -- the words of a third loop
    past_loops : d.sizes.loops ≡ 2 → (y.b ≡ pos 0) × ((first n y).z ≡ pos 0) × ((last n y).z ≡ pos 0)
    unfolding description_of
    past_loops e =
        let p = planar s (sizes_of s) e in
        let w = go p (decide (computing n y)) in
        (low_point p p.place good.layout.dirs good.some hy, w.0, w.1)
      where
        go : Planar n → T (computing n y) ⊎ T (not (computing n y)) → ((first n y).z ≡ pos 0) × ((last n y).z ≡ pos 0)
        go p (inl t) =
            let a = computes good.layout y t in
            (no_third p a.within, no_third p (last_at good.layout.dirs a).within)
        go p (inr t) =
            let z = none_first good.layout.dirs (λ x a. T_not (computing n y) t (is_computing good.layout a)) in
            (ap (λ (v : V3). v.z) z.0, ap (λ (v : V3). v.z) z.1)

    instances_of : InstancesOf n y (instances_at n y)
    instances_of =
        let dirs = good.layout.dirs in
        record { members = λ x. (in_at dirs y x, at_in dirs); once = sent_distinct dirs n.place y }

    row_says : RowSays d y (row_of l s y)
    row_says =
        record {
          point = refl;
          count = (instances_at n y, instances_of, refl);
          computing = λ x a. computing_row a;
          null = null_row;
          past_loops = past_loops;
          past_streams = λ i h. (word_past (λ u. row_soak n u y) i h, word_past (λ u. cond (computing n y) (drain n u y) 0) i h);
        }

  -- ---- the table

  module _ (lent : List Row) (enough : length (processes n) ≤ length lent) where
    abbrev left : List Row
    left = left_rows l s lent

    row_is : (p : ℕ) → p < length (processes n) → row_at left p ≡ row_of l s (get_or (processes n) p zero2)
    row_is p h =
        get_or-append (map (row_of l s) (processes n)) (drop (length (processes n)) lent) no_row p
        (omega (arith, length-map (processes n) (row_of l s)))
        ∙ map_at (row_of l s) (processes n) p zero2 no_row h

    point_inside : (p : ℕ) → p < length (processes n) → Inside (space n) (get_or (processes n) p zero2)
    point_inside p h = points_inside (space n) (get_or (processes n) p zero2) (get_d_in (processes n) p zero2 h)

    pub rows_are : (p : ℕ) → p < length (processes n) → RowOf n (get_or (processes n) p zero2) (row_at left p)
    rows_are p h =
        subst (RowOf n (get_or (processes n) p zero2)) (sym (row_is p h)) (record { point = refl; count = refl; first = refl; last = refl })

    pub table_says : TableSays d lent left
    table_says =
        record {
          increment = good.layout.inc;
          lines = λ i h. (accepted i h).lin;
          space = process_space good.layout good.some;
          long =
              length-append (map (row_of l s) (processes n)) (drop (length (processes n)) lent)
              ∙ omega (arith, length-map (processes n) (row_of l s), length-drop (length (processes n)) lent);
          rows = λ p h. subst (RowSays d (get_or (processes n) p zero2)) (sym (row_is p h))
              (row_says (get_or (processes n) p zero2) (point_inside p h));
          beyond =
              drop_at (map (row_of l s) (processes n)) (drop (length (processes n)) lent) (length (processes n))
              (length-map (processes n) (row_of l s));
        }
