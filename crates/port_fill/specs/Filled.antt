-- The rows of a description, stream by stream: they are those of its array. Assumes a description that is not refused.
use Rattle.std.specs.Prelude.{◌≡◌, refl, ◌⊎◌, true, List, ℕ, zero, suc, ◌+◌, ◌-◌, ◌*◌, ◌≤◌, ◌<◌, T, length, get_or, take}
use Rattle.std.proofs.Common.{sym, ◌∙◌, ap, ap₂, subst, inl, inr, eq-or-lt_of_le, le_of_suc-le-suc, add-one, arith, get_or-take}
use Rattle.std.proofs.Math.Decide.{dec_le}
use Rattle.std.proofs.Math.Seq.{take-length}
use Rattle.integers.specs.Vectors.{zero2}
use Rattle.integers.specs.declared.V2.{V2}
use Rattle.meaning.specs.declared.Nest.{Nest}
use Rattle.meaning.specs.declared.Stream.{Stream}
use Rattle.meaning.specs.declared.Description.{Description}
use Rattle.meaning.specs.Limits.{gauge_limits, process_words_most}
use Rattle.meaning.specs.Lists.{total}
use Rattle.meaning.specs.Space.{row_index, space, processes}
use Rattle.meaning.specs.Streams.{hop, elements}
use Rattle.meaning.specs.Pipes.{entries, pipe_elements}
use Rattle.meaning.specs.Description.{streams_of, no_stream}
use Rattle.meaning.specs.Body.{stream_start}
use Rattle.meaning.specs.Array.{Array, array_of, pipe_number, part_start}
use Rattle.lists.specs.Members.{filter_in}
use Rattle.lists.specs.Sums.{total_none, total_next}
use Rattle.lists.specs.Tests.{is_true, take_filter}
use Rattle.geometry.specs.Sorting.{sorted_filter}
use Rattle.geometry.specs.Places.{ahead, get_d_in, ahead_get_d, ahead_filter}
use Rattle.geometry.specs.Boxes.{row_distinct, points_sorted}
use Rattle.geometry.specs.Elements.{part_of}
use Rattle.geometry.specs.Descriptions.{Laid}
use Rattle.geometry.specs.Arrays.{stream_at, pipe_count_lem}
use Rattle.addresses.specs.Pipes.{entry_count, base, entry_at, base_next, part_start_lem}
use Rattle.addresses.specs.Through.{point_of}
use Rattle.addresses.specs.Ends.{number_lt, number_point, entry_inside}
use Rattle.addresses.specs.Indices.{port_words as portSize, ends_words, stride_of, process_count_lem, stream_count_lem}
use Rattle.ports.specs.Rows.{row_of}
use Rattle.ports.specs.Ends.{end_of}
use Rattle.survey.specs.declared.Flow.{Flow}
use Rattle.survey.specs.declared.Survey.{Survey}
use Rattle.survey.specs.Surveys.{FlowOf, no_flow}
use Rattle.survey.specs.OfBytes.{flow_is}
use Rattle.layout.specs.Spans.{Spans}
use Rattle.lanes.specs.Flow.{LanesIn}
use Rattle.lanes.specs.All.{lanes_of}
use Rattle.elements.specs.Counts.{total_most}
use Rattle.pipe_parts.specs.Starts.{entering, start_at, start_most, entered_at, entered_next, one_yes}
use Rattle.figures.specs.Shares.{Described, Sharing, share_small, totals_room, stream_sharing, sharing_at, share_at}
use Rattle.port_rows.specs.declared.Strand.{Strand}
use Rattle.port_rows.specs.Strands.{Narrow, row_from, end_from}
use Rattle.port_rows.specs.Rows.{StrandOf, row_is, end_is}
use Rattle.port_table.specs.Rows.{EndWide, read_port, read_end, port_stays, end_stays}
use Rattle.port_table.specs.PortsOf.{PortsOf, port_table_words, port_at, end_at}
use Rattle.port_fill.specs.declared.Sums.{Sums}
use Rattle.port_fill.specs.Marks.{marks_length, marks_other, marks_at}
use Rattle.port_fill.specs.Widths.{row_wide, end_wide}
use Rattle.port_fill.specs.Strung.{Slack, join, strand_from, strand_narrow, always, port_place, port_line, port_rows, on_end, end_line}
use Rattle.port_fill.specs.Strung.{end_spot, end_rows, stream_rows, StreamFillable, entered_few}

-- ---- numbers and lists

-- rows of an earlier stream lie apart
rows_apart : (p k v r i : ℕ) → k < i → i < 6 → v < 5
    → (30 * p + 5 * k + v < 30 * r + 5 * i) ⊎ (30 * r + 5 * i + 5 ≤ 30 * p + 5 * k + v)
rows_apart p k v r i l hi hv = go (dec_le p r)
  where
    go : Dec (p ≤ r) → (30 * p + 5 * k + v < 30 * r + 5 * i) ⊎ (30 * r + 5 * i + 5 ≤ 30 * p + 5 * k + v)
    go (yes h) = inl (omega arith)
    go (no h) = inr (omega arith)

-- ---- what the rows say

-- of the first i streams
pub record Filled (d : Description) (i : ℕ) (l : List ℕ) : Type 0 where
  pub words : length l ≡ port_table_words
  pub ports : (p k : ℕ) → p < length (processes d.nest) → k < i → port_at l p k ≡ row_of (array_of d) p k
  pub ends : (q : ℕ) → q < base d i → end_at l q ≡ end_of (array_of d) q

-- ---- the sums

abbrev pub sums_of : Description → ℕ → Sums
sums_of d i =
    record {
      words = total (portSize d.nest) (take i (streams_of d));
      pipes = base d i;
      ends = total (ends_words d.nest) (take i (streams_of d));
    }

abbrev pub no_sums : Sums
no_sums = record { words = 0; pipes = 0; ends = 0 }

same_sums : {a b : Sums} → a.words ≡ b.words → a.pipes ≡ b.pipes → a.ends ≡ b.ends → a ≡ b
same_sums e f g = λ i. record { words = e i; pipes = f i; ends = g i }

pub sums_zero : (d : Description) → no_sums ≡ sums_of d 0
sums_zero d =
    same_sums (sym (total_none (portSize d.nest) (streams_of d))) (sym (total_none (entry_count d.nest) (streams_of d)))
    (sym (total_none (ends_words d.nest) (streams_of d)))

-- what the functions are lent
pub record Started (d : Description) (stride : ℕ) (spans : List ℕ) : Type 0 where
  pub described : Described d
  pub laid : Laid d
  pub narrow : stride ≤ process_words_most
  pub strides : stride ≡ stride_of d
  pub of_spans : Spans d.nest spans
  pub long : 3072 ≤ length spans

module _ (d : Description) (h : Described d) where
  abbrev nest : Nest
  nest = d.nest

  -- stream i, as it is read
  stream_of_lem : (i : ℕ) {s : Stream} → i < d.sizes.streams → s ≡ get_or d.streams i no_stream → s ≡ stream_at d i
  stream_of_lem i l e = e ∙ sym (get_or-take d.sizes.streams d.streams i no_stream l)

  pub six : d.sizes.streams ≤ 6
  six = h.few.ranged.sized.most_streams

  pub sums_slack : (i : ℕ) → i ≤ d.sizes.streams → Slack (sums_of d i)
  sums_slack i l = let r = totals_room d h i l in record { words = r.words; pipes = r.pipes; ends = r.ends }

  next : (f : Stream → ℕ) (i : ℕ) → i < d.sizes.streams
      → total f (take i (streams_of d)) + f (stream_at d i) ≡ total f (take (i + 1) (streams_of d))
  next f i l =
      sym (ap (λ (k : ℕ). total f (take k (streams_of d))) (add-one i) ∙ total_next f (streams_of d) i no_stream (omega (arith, h.in_use)))

  sums_next : (i : ℕ) {s : Stream} → i < d.sizes.streams → s ≡ get_or d.streams i no_stream → {k c : ℕ} → k ≡ hop nest s
      → c ≡ length (entries nest s) → {t : Sums} → t ≡ sums_of d i → join t k c ≡ sums_of d (i + 1)
  sums_next i {s} l e {k} {c} ek ec et =
      ap (λ (t : Sums). join t k c) et ∙ ap₂ (join (sums_of d i)) ek ec
      ∙ ap (λ (s : Stream). join (sums_of d i) (hop nest s) (length (entries nest s))) (stream_of_lem i l e)
      ∙ same_sums (next (portSize nest) i l) (next (entry_count nest) i l) (next (ends_words nest) i l)

  -- the words of a process, stream by stream
  pub stride_zero : 1 ≡ 1 + total (portSize nest) (take 0 (streams_of d))
  stride_zero = ap (λ (c : ℕ). 1 + c) (sym (total_none (portSize nest) (streams_of d)))

  pub stride_next : (i : ℕ) {s : Stream} → i < d.sizes.streams → s ≡ get_or d.streams i no_stream → {k sum : ℕ} → k ≡ hop nest s
      → sum ≡ 1 + total (portSize nest) (take i (streams_of d)) → sum + (4 + k) ≡ 1 + total (portSize nest) (take (i + 1) (streams_of d))
  stride_next i l e ek es =
      omega (arith, es, ek ∙ ap (hop nest) (stream_of_lem i l e), next (portSize nest) i l)

  pub stride_all : {i sum : ℕ} → i ≡ d.sizes.streams → sum ≡ 1 + total (portSize nest) (take i (streams_of d))
      → (sum ≡ stride_of d) × (sum ≤ process_words_most)
  stride_all {i} e es = (
    es ∙ ap (λ (k : ℕ). 1 + total (portSize nest) (take k (streams_of d))) (e ∙ sym h.in_use)
        ∙ ap (λ (l : List Stream). 1 + total (portSize nest) l) (take-length (streams_of d)),
    omega (arith, es, (sums_slack i (omega arith)).words),
  )

  base_most : (i : ℕ) → i < d.sizes.streams → base d i ≤ 5120
  base_most i l =
      omega (
        arith,
        six,
        total_most (entry_count nest) (streams_of d) i 1024 no_stream (omega (arith, h.in_use))
            (λ j k. (share_small (h.streams j (omega (arith, h.in_use)))).pipes),
      )

  pub first_most : (i : ℕ) → i < d.sizes.streams → stream_start nest (streams_of d) i ≤ 24576
  first_most i l =
      omega (
        arith,
        six,
        total_most (λ s. length (elements nest s)) (streams_of d) i 4096 no_stream (omega (arith, h.in_use))
            (λ j k. h.few.few j (omega (arith, h.in_use))),
      )

  -- ---- a stream

  module _ (laid : Laid d) (i : ℕ) (l : i < d.sizes.streams) {g : Strand} (w : Narrow g) (sg : StrandOf d i g) (xs : List ℕ)
      (done : Filled d i xs) where
    abbrev A : Array
    A = array_of d

    abbrev s : Stream
    s = stream_at d i

    abbrev P : ℕ
    P = length (processes nest)

    abbrev b : ℕ
    b = base d i

    abbrev first : ℕ
    first = stream_start nest (streams_of d) i

    abbrev ys : List ℕ
    ys = end_rows nest s g first b P xs

    abbrev zs : List ℕ
    zs = port_rows nest s g i P ys

    hi : i < length (streams_of d)
    hi = omega (arith, h.in_use)

    below : i < 6
    below = omega (arith, six)

    sharing : Sharing nest s
    sharing = h.streams i hi

    -- the rows of processes lie below those of pipes
    low_stays : (a : ℕ) → a < 30720 → get_or ys a 0 ≡ get_or xs a 0
    low_stays a k = marks_other (on_end nest s) (end_line nest s g first) (end_spot nest s b) 3 P a xs (λ p _ _. inl (omega arith))

    high_stays : (a : ℕ) → 30720 ≤ a → get_or zs a 0 ≡ get_or ys a 0
    high_stays a k = marks_other always (port_line nest s g) (port_place i) 5 P a ys (λ r m _. inr (omega (arith, h.processes, below)))

    word_stays : (p k v : ℕ) → p < P → k < i → v < 5 → get_or zs (30 * p + 5 * k + v) 0 ≡ get_or xs (30 * p + 5 * k + v) 0
    word_stays p k v hp m hv =
        marks_other always (port_line nest s g) (port_place i) 5 P (30 * p + 5 * k + v) ys (λ r _ _. rows_apart p k v r i m below hv)
        ∙ low_stays (30 * p + 5 * k + v) (omega (arith, h.processes, below))

    ends_words_lem : length ys ≡ port_table_words
    ends_words_lem = marks_length (on_end nest s) (end_line nest s g first) (end_spot nest s b) 3 P xs ∙ done.words

    own_port : (p : ℕ) → p < P → port_at zs p i ≡ row_of A p i
    own_port p hp =
        read_port zs (30 * p + 5 * i) (row_from nest s g p) (row_wide w sharing.laid hp sharing.elements)
        (λ v hv.
        marks_at always (port_line nest s g) (port_place i) 5 P p v ys hp refl hv (omega (arith, ends_words_lem, h.processes, below))
        (λ r k _ _. inl (omega arith)))
        ∙ row_is laid sg p hp

    ports_next : (p k : ℕ) → p < P → k < suc i → port_at zs p k ≡ row_of A p k
    ports_next p k hp hk = go (eq-or-lt_of_le (le_of_suc-le-suc hk))
      where
        go : (k ≡ i) ⊎ (k < i) → port_at zs p k ≡ row_of A p k
        go (inl e) = subst (λ (k : ℕ). port_at zs p k ≡ row_of A p k) (sym e) (own_port p hp)
        go (inr m) = port_stays zs xs (30 * p + 5 * k) (λ v. word_stays p k v hp m) ∙ done.ports p k hp m

    -- more pipes enter before a later process
    up : (p r : ℕ) → p ≤ r → r ≤ P → entered_at nest s p ≤ entered_at nest s r
    up p zero h k = let e : p ≡ 0 = omega arith in omega (arith, ap (entered_at nest s) e)
    up p (suc r) h k = go (eq-or-lt_of_le h) (λ m. up p r m (omega arith))
      where
        go : (p ≡ suc r) ⊎ (p < suc r) → (p ≤ r → entered_at nest s p ≤ entered_at nest s r)
            → entered_at nest s p ≤ entered_at nest s (suc r)
        go (inl e) ih = omega (arith, ap (entered_at nest s) e)
        go (inr m) ih = omega (arith, ih (omega arith), entered_next nest s r (omega arith) _ refl)

    own_end : (j : ℕ) → j < length (entries nest s) → end_at zs (b + j) ≡ end_of A (b + j)
    own_end j hj =
        let e = entry_at d i j in
        let p = row_index (space nest) e in
        let there : point_of d p ≡ e = number_point d (entry_inside laid i j hi hj) in
        let lt : p < P = number_lt d (entry_inside laid i j hi hj) in
        let t : T (entering nest s (point_of d p)) =
        subst (λ (y : V2). T (entering nest s y)) (sym there)
        (filter_in (entering nest s) (processes nest) (get_d_in (entries nest s) j zero2 hj)).ok in
        let on : on_end nest s p ≡ true = is_true (entering nest s (point_of d p)) t in
        let apart = row_distinct (points_sorted (space nest)) in
        let count : entered_at nest s p ≡ j =
        sym (ahead_filter (entering nest s) apart p zero2 lt t) ∙ ap (λ (y : V2). ahead y (entries nest s)) there
        ∙ ahead_get_d (entries nest s) j zero2 (sorted_filter (entering nest s) apart) hj in
        let start : start_at nest s first p ≡ part_start A (b + j) =
        sym (part_start_lem d i j hi hj laid ∙ ap (λ (c : ℕ). first + part_of nest s c) (sym count)
        ∙ ap (λ (m : List V2). first + total (λ y. length (pipe_elements nest s y)) m) (take_filter (entering nest s) p (processes nest)))
        in
        let c = entered_at nest s p in
        let row = end_from nest s g (start_at nest s first p) c p in
        let few : c ≤ 1024 = omega (arith, entered_few nest s p, h.processes) in
        let early : start_at nest s first p ≤ 28672 =
        omega (arith, start_most sharing.laid.accepted sharing.elements first p, first_most i l) in
        let wide : EndWide row = end_wide w sharing.laid lt sharing.elements (start_at nest s first p) c early few in
        ap (λ (c : ℕ). end_at zs (b + c)) (sym count)
        ∙ read_end zs (30720 + 3 * (b + c)) row wide
        (λ v hv.
        high_stays (30720 + 3 * (b + c) + v) (omega arith)
        ∙ marks_at (on_end nest s) (end_line nest s g first) (end_spot nest s b) 3 P p v xs lt on hv
        (omega (arith, done.words, base_most i l, entered_few nest s p, h.processes))
        (λ r m k _. inl (omega (arith, up (suc p) r m (omega arith), entered_next nest s p lt 1 (one_yes nest s p on)))))
        ∙ ap (λ (c : ℕ). end_from nest s g (start_at nest s first p) c p) count ∙ end_is laid sg j hj start

    ends_next : (q : ℕ) → q < base d (suc i) → end_at zs q ≡ end_of A q
    ends_next q hq = go (dec_le (suc q) b)
      where
        go : Dec (suc q ≤ b) → end_at zs q ≡ end_of A q
        go (yes k) =
            end_stays zs xs (30720 + 3 * q)
            (λ v hv.
            high_stays (30720 + 3 * q + v) (omega arith)
            ∙ marks_other (on_end nest s) (end_line nest s g first) (end_spot nest s b) 3 P (30720 + 3 * q + v) xs
            (λ p _ _. inl (omega arith)))
            ∙ done.ends q k
        go (no k) =
            let e : b + (q - b) ≡ q = omega arith in
            subst (λ (q : ℕ). end_at zs q ≡ end_of A q) e (own_end (q - b) (omega (arith, hq, base_next d i hi)))

    stream_filled : Filled d (suc i) zs
    stream_filled =
        record {
          words = marks_length always (port_line nest s g) (port_place i) 5 P ys ∙ ends_words_lem;
          ports = ports_next;
          ends = ends_next;
        }

-- ---- a turn of the loop over the streams

module _ (v : Survey) {stride : ℕ} {spans : List ℕ} (h : Started v.description stride spans) (i : ℕ) {f : Flow}
    (l : i < v.description.sizes.streams) (ef : f ≡ get_or v.flows i no_flow) {t : Sums}
    (et : t ≡ sums_of v.description i) where
  abbrev d : Description
  d = v.description

  of_flow : FlowOf d.nest (get_or d.streams i no_stream) f
  of_flow = flow_is v i l ef

  pub slack : Slack t
  slack = subst Slack (sym et) (sums_slack d h.described i (omega arith))

  pub hop_few : f.hop ≤ gauge_limits.hop
  hop_few = omega (arith, of_flow.hop_is, (stream_sharing d h.described i l refl).hop)

  pub processes_few : v.loops.processes ≤ 1024
  processes_few = omega (arith, v.surveyed.ground.processes_is, h.described.processes)

  pub lanes_here : {w : List ℕ} → LanesIn d.nest (stream_at d i) w → LanesIn f.nest f.stream w
  lanes_here = lanes_of (sym of_flow.nest_is) (sym (of_flow.stream_is ∙ stream_of_lem d h.described i l refl))

  module _ {c : ℕ} (e : c ≡ length (entries f.nest f.stream)) where
    pub entries_few : c ≤ 1024
    entries_few = omega (arith, e, (share_small (sharing_at v h.described i l ef)).pipes)

    pub joined_next : join t f.hop c ≡ sums_of d (i + 1)
    joined_next =
        sums_next d h.described i l refl of_flow.hop_is
        (e ∙ ap₂ (λ (n : Nest) (s : Stream). length (entries n s)) of_flow.nest_is of_flow.stream_is) et

  module _ {g : Strand} (eg : g ≡ strand_from f.hop v.loops.processes stride t) {first : ℕ}
      (e : first ≡ stream_start d.nest (streams_of d) i) where
    narrow_is : Narrow g
    narrow_is = subst Narrow (sym eg) (strand_narrow hop_few processes_few h.narrow slack)

    strand_is : StrandOf d i g
    strand_is =
        record {
          lt = omega (arith, h.described.in_use);
          hop = ap (λ (g : Strand). g.hop) eg ∙ of_flow.hop_is ∙ ap (hop d.nest) (stream_of_lem d h.described i l refl);
          stride = ap (λ (g : Strand). g.stride) eg ∙ h.strides;
          offset = ap (λ (g : Strand). g.offset) eg ∙ ap (λ (t : Sums). 1 + t.words) et;
          tail =
              ap (λ (g : Strand). g.tail) eg ∙ ap₂ (λ (p w : ℕ). p * w + t.ends) v.surveyed.ground.processes_is h.strides
              ∙ ap (λ (t : Sums). length (processes d.nest) * stride_of d + t.ends) et;
        }

    -- stream i, as the functions ask
    pub stringing : StreamFillable f v.loops.processes g i first t.pipes spans
    stringing =
        record {
          sharing = sharing_at v h.described i l ef;
          flowing = share_at v h.described i l ef h.of_spans h.long;
          narrow = narrow_is;
          stream = omega (arith, six d h.described);
          early = omega (arith, e, first_most d h.described i l);
          based = omega (arith, ap (λ (t : Sums). t.pipes) et, base_most d h.described i l);
        }

    pub filled_next : (xs : List ℕ) {out : List ℕ} → out ≡ stream_rows f.nest f.stream g i first t.pipes xs → Filled d i xs
        → Filled d (i + 1) out
    filled_next xs {out} o done =
        subst (λ (k : ℕ). Filled d k out) (sym (add-one i))
        (subst (Filled d (suc i))
        (sym (o ∙ ap₂ (λ (n : Nest) (s : Stream). stream_rows n s g i first t.pipes xs) of_flow.nest_is
        (of_flow.stream_is ∙ stream_of_lem d h.described i l refl)
        ∙ ap₂ (λ (first base : ℕ). stream_rows d.nest (stream_at d i) g i first base xs) e (ap (λ (t : Sums). t.pipes) et)))
        (stream_filled d h.described h.laid i l narrow_is strand_is xs done))

pub filled_zero : (d : Description) → {xs : List ℕ} → length xs ≡ port_table_words → Filled d 0 xs
filled_zero d e =
    record {
      words = e;
      ports = λ p k hp hk. absurd (omega arith);
      ends = λ q hq. absurd (omega (arith, total_none (entry_count d.nest) (streams_of d)));
    }

pub ports_is : (d : Description) → Described d → {i : ℕ} → i ≡ d.sizes.streams → {xs : List ℕ} → Filled d i xs → PortsOf (array_of d) xs
ports_is d h {i} e {xs} f =
    record {
      words = f.words;
      ports = λ p k hp hk. f.ports p k (omega (arith, process_count_lem d)) (omega (arith, stream_count_lem d, h.in_use));
      ends = λ q hq. f.ends q (omega (arith, all));
    }
  where
    all : base d i ≡ pipe_number (array_of d)
    all =
        ap (base d) (e ∙ sym h.in_use) ∙ ap (total (entry_count d.nest)) (take-length (streams_of d)) ∙ sym (pipe_count_lem d)
