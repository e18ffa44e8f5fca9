-- The rows of a stream, what its rows share, and what the functions are lent. Assumes nothing.
use Rattle.std.specs.Prelude.{◌≡◌, Bool, true, false, not, cond, List, ℕ, ◌+◌, ◌*◌, ◌≤◌, ◌<◌, eqb, length, take}
use Rattle.std.proofs.Common.{sym, ◌∙◌, ap, ap₂, subst, arith, length-take, eq-eqb, ne_eqb}
use Rattle.std.proofs.Math.Seq.{take-length}
use Rattle.integers.specs.Vectors.{zero2}
use Rattle.integers.specs.declared.V2.{V2}
use Rattle.meaning.specs.declared.Nest.{Nest}
use Rattle.meaning.specs.declared.Stream.{Stream}
use Rattle.meaning.specs.Limits.{gauge_limits, process_words_most, end_words_most}
use Rattle.meaning.specs.Lists.{filter}
use Rattle.meaning.specs.Space.{space, processes}
use Rattle.meaning.specs.Streams.{elements}
use Rattle.meaning.specs.Pipes.{entries, pipe_elements}
use Rattle.lists.specs.Tests.{filter_fewer}
use Rattle.geometry.specs.Places.{get_d_in}
use Rattle.geometry.specs.Boxes.{points_inside}
use Rattle.layout.specs.Spans.{process_of}
use Rattle.survey.specs.StateWords.{process_words_lem}
use Rattle.ports.specs.declared.Port.{Port}
use Rattle.ports.specs.declared.End.{End}
use Rattle.survey.specs.declared.Flow.{Flow}
use Rattle.lanes.specs.Flow.{Flows, Seen, Flowing}
use Rattle.pipe_parts.specs.Starts.{entering, entering_length, start_at, entered_at, start_most}
use Rattle.pipe_parts.specs.Heads.{Heads, entering_some}
use Rattle.figures.specs.Shares.{Sharing}
use Rattle.port_rows.specs.declared.Strand.{Strand}
use Rattle.port_rows.specs.Strands.{Narrow, PortGiven, row_from, end_from}
use Rattle.words.specs.Stored.{stored}
use Rattle.port_table.specs.Rows.{port_words, end_words}
use Rattle.port_fill.specs.declared.Sums.{Sums}
use Rattle.port_fill.specs.Marks.{mark, marks, marks_step}

-- ---- what the rows share

-- small enough for a further stream
pub record Slack (t : Sums) : Type 0 where
  pub words : 1 + t.words ≤ process_words_most
  pub pipes : t.pipes ≤ 6144
  pub ends : t.ends ≤ 6 * end_words_most

abbrev pub join : Sums → ℕ → ℕ → Sums
join t hop pipes = record { words = t.words + (4 + hop); pipes = t.pipes + pipes; ends = t.ends + pipes * (2 + hop) }

abbrev pub strand_from : ℕ → ℕ → ℕ → Sums → Strand
strand_from hop processes stride t = record { hop = hop; stride = stride; offset = 1 + t.words; tail = processes * stride + t.ends }

pub strand_narrow : {k count stride : ℕ} {t : Sums} → k ≤ gauge_limits.hop → count ≤ gauge_limits.processes → stride ≤ process_words_most
    → Slack t → Narrow (strand_from k count stride t)
strand_narrow a b c h =
    record { hop = a; stride = c; offset = omega (arith, h.words); tail = omega (arith, process_words_lem b c, h.ends) }

-- ---- the rows

-- the row of a process of stream i: every one has a row
abbrev pub always : ℕ → Bool
always p = true

abbrev pub port_place : ℕ → ℕ → ℕ
port_place i p = 30 * p + 5 * i

abbrev pub port_line : Nest → Stream → Strand → ℕ → List ℕ
port_line n s g p = port_words (row_from n s g p)

abbrev pub port_row : Nest → Stream → Strand → ℕ → ℕ → List ℕ → List ℕ
port_row n s g i p l = mark always (port_line n s g) (port_place i) 5 p l

abbrev pub port_rows : Nest → Stream → Strand → ℕ → ℕ → List ℕ → List ℕ
port_rows n s g i k l = marks always (port_line n s g) (port_place i) 5 k l

-- the row of the pipe that enters at a process
abbrev pub on_end : Nest → Stream → ℕ → Bool
on_end n s p = entering n s (process_of n p)

abbrev pub end_place : ℕ → ℕ → ℕ
end_place base j = 30720 + 3 * (base + j)

abbrev pub end_row : Nest → Stream → Strand → ℕ → ℕ → ℕ → ℕ → List ℕ → List ℕ
end_row n s g start base j p l = cond (on_end n s p) (stored (end_words (end_from n s g start j p)) (end_place base j) 3 l) l

abbrev pub end_line : Nest → Stream → Strand → ℕ → ℕ → List ℕ
end_line n s g first p = end_words (end_from n s g (start_at n s first p) (entered_at n s p) p)

abbrev pub end_spot : Nest → Stream → ℕ → ℕ → ℕ
end_spot n s base p = end_place base (entered_at n s p)

abbrev pub end_rows : Nest → Stream → Strand → ℕ → ℕ → ℕ → List ℕ → List ℕ
end_rows n s g first base k l = marks (on_end n s) (end_line n s g first) (end_spot n s base) 3 k l

abbrev pub stream_rows : Nest → Stream → Strand → ℕ → ℕ → ℕ → List ℕ → List ℕ
stream_rows n s g i first base l = port_rows n s g i (length (processes n)) (end_rows n s g first base (length (processes n)) l)

-- ---- what the functions are lent

pub record EndFillable (f : Flow) (g : Strand) (total start base j p : ℕ) : Type 0 where
  pub flows : Flows f
  pub lt : p < length (processes f.nest)
  pub narrow : Narrow g
  pub small : length (elements f.nest f.stream) ≤ 4096
  pub entering : total ≡ entering_length f.nest f.stream p
  pub begins : start ≤ 28672
  pub based : base ≤ 5120
  pub pipe : j < 1024

pub record EndsFillable (f : Flow) (g : Strand) (count : ℕ) (spans lanes : List ℕ) (first base : ℕ) : Type 0 where
  pub seen : Seen f spans lanes
  pub counted : count ≡ length (processes f.nest)
  pub narrow : Narrow g
  pub small : length (elements f.nest f.stream) ≤ 4096
  pub early : first ≤ 24576
  pub based : base ≤ 5120

pub record PortFillable (f : Flow) (g : Strand) (spans lanes heads : List ℕ) (i p : ℕ) : Type 0 where
  pub has_port_lem : PortGiven f spans lanes heads p
  pub narrow : Narrow g
  pub small : length (elements f.nest f.stream) ≤ 4096
  pub stream : i < 6

pub record PortsFillable (f : Flow) (g : Strand) (count : ℕ) (spans lanes heads : List ℕ) (i : ℕ) : Type 0 where
  pub seen : Seen f spans lanes
  pub counted : count ≡ length (processes f.nest)
  pub of_heads : Heads f.nest f.stream (length (processes f.nest)) heads
  pub narrow : Narrow g
  pub small : length (elements f.nest f.stream) ≤ 4096
  pub stream : i < 6

pub record StreamFillable (f : Flow) (count : ℕ) (g : Strand) (i first base : ℕ) (spans : List ℕ) : Type 0 where
  pub sharing : Sharing f.nest f.stream
  pub flowing : Flowing f count spans
  pub narrow : Narrow g
  pub stream : i < 6
  pub early : first ≤ 24576
  pub based : base ≤ 5120

-- ---- a turn

module _ {f : Flow} {g : Strand} {count : ℕ} {spans lanes heads : List ℕ} {i : ℕ}
    (h : PortsFillable f g count spans lanes heads i) where
  pub port_fillable : (p : ℕ) → p < count → PortFillable f g spans lanes heads i p
  port_fillable p l =
      record {
        has_port_lem = record { near = record { seen = h.seen; lt = omega (arith, h.counted) }; of_heads = h.of_heads };
        narrow = h.narrow;
        small = h.small;
        stream = h.stream;
      }

-- fewer pipes enter before a process than processes stand there
pub entered_few : (n : Nest) (s : Stream) (p : ℕ) → entered_at n s p ≤ p
entered_few n s p = omega (arith, filter_fewer (entering n s) (take p (processes n)), length-take p (processes n))

pub entered_all : (n : Nest) (s : Stream) (p : ℕ) → p ≡ length (processes n) → entered_at n s p ≡ length (entries n s)
entered_all n s p e =
    ap (entered_at n s) e ∙ ap (λ (l : List V2). length (filter (entering n s) l)) (take-length (processes n))

module _ {f : Flow} {g : Strand} {count : ℕ} {spans lanes : List ℕ} {first base : ℕ}
    (h : EndsFillable f g count spans lanes first base) where
  pub start_few : (p : ℕ) {start : ℕ} → start ≡ start_at f.nest f.stream first p → start ≤ 28672
  start_few p e = omega (arith, e, start_most h.seen.flows.laid.accepted h.small first p, h.early)

  pub end_fillable : (p : ℕ) → p < count → {total start j : ℕ} → total ≡ entering_length f.nest f.stream p
      → start ≡ start_at f.nest f.stream first p → j ≡ entered_at f.nest f.stream p → EndFillable f g total start base j p
  end_fillable p l et es ej =
      record {
        flows = h.seen.flows;
        lt = omega (arith, h.counted);
        narrow = h.narrow;
        small = h.small;
        entering = et;
        begins = start_few p es;
        based = h.based;
        pipe = omega (arith, ej, entered_few f.nest f.stream p, h.counted, h.seen.flows.laid.processes);
      }

-- the test of the code: a pipe enters at a process exactly if it has elements there
module _ {f : Flow} {g : Strand} {total start base j p : ℕ} (h : EndFillable f g total start base j p) where
  on_total : on_end f.nest f.stream p ≡ not (eqb total 0)
  on_total =
      entering_some h.flows.laid.accepted
      (points_inside (space f.nest) (process_of f.nest p) (get_d_in (processes f.nest) p zero2 h.lt))
      ∙ ap (λ (k : ℕ). not (eqb k 0)) (sym h.entering)

  pub end_on : (total ≡ 0 → ⊥) → on_end f.nest f.stream p ≡ true
  end_on z = on_total ∙ ap not (ne_eqb total 0 z)

  pub end_off : total ≡ 0 → on_end f.nest f.stream p ≡ false
  end_off z = on_total ∙ ap not (eq-eqb total 0 z)

  pub end_elements : (total ≡ 0 → ⊥) → total ≡ length (pipe_elements f.nest f.stream (process_of f.nest p))
  end_elements z =
      h.entering ∙ ap (λ (b : Bool). cond b (length (pipe_elements f.nest f.stream (process_of f.nest p))) 0) (end_on z)

-- ---- one row

pub port_put : (n : Nest) (s : Stream) (g : Strand) (i p : ℕ) (l : List ℕ) {r : Port} → r ≡ row_from n s g p → {out : List ℕ}
    → out ≡ stored (port_words r) (port_place i p) 5 l → out ≡ port_row n s g i p l
port_put n s g i p l er eo = eo ∙ ap (λ (r : Port). stored (port_words r) (port_place i p) 5 l) er

module _ (n : Nest) (s : Stream) (g : Strand) (start base j p : ℕ) (l : List ℕ) where
  abbrev ended : List ℕ
  ended = stored (end_words (end_from n s g start j p)) (end_place base j) 3 l

  pub end_put : on_end n s p ≡ true → {r : End} → r ≡ end_from n s g start j p → {out : List ℕ}
      → out ≡ stored (end_words r) (end_place base j) 3 l → out ≡ end_row n s g start base j p l
  end_put t er eo = eo ∙ ap (λ (r : End). stored (end_words r) (end_place base j) 3 l) er ∙ sym (ap (λ (b : Bool). cond b ended l) t)

  pub end_left : on_end n s p ≡ false → l ≡ end_row n s g start base j p l
  end_left t = sym (ap (λ (b : Bool). cond b ended l) t)

-- ---- one row more

module _ (n : Nest) (s : Stream) (g : Strand) (i p : ℕ) (l : List ℕ) {x : List ℕ} (e : x ≡ port_rows n s g i p l) where
  pub ports_turn : {out : List ℕ} → out ≡ port_row n s g i p x → out ≡ port_rows n s g i (p + 1) l
  ports_turn o = o ∙ ap (port_row n s g i p) e ∙ sym (marks_step always (port_line n s g) (port_place i) 5 p l)

module _ (n : Nest) (s : Stream) (g : Strand) (first base p : ℕ) (l : List ℕ) {x : List ℕ} (e : x ≡ end_rows n s g first base p l) where
  pub ends_turn : {start j : ℕ} → start ≡ start_at n s first p → j ≡ entered_at n s p → {out : List ℕ}
      → out ≡ end_row n s g start base j p x
      → out ≡ end_rows n s g first base (p + 1) l
  ends_turn es ej o =
      o ∙ ap₂ (λ (start j : ℕ). end_row n s g start base j p x) es ej
      ∙ ap (end_row n s g (start_at n s first p) base (entered_at n s p) p) e
      ∙ sym (marks_step (on_end n s) (end_line n s g first) (end_spot n s base) 3 p l)

-- ---- a stream by its flow

module _ {f : Flow} {count : ℕ} {g : Strand} {i first base : ℕ} {spans : List ℕ} (h : StreamFillable f count g i first base spans) where
  module _ {lanes : List ℕ} (seen : Seen f spans lanes) where
    pub ends_fillable : EndsFillable f g count spans lanes first base
    ends_fillable =
        record {
          seen = seen;
          counted = h.flowing.counted;
          narrow = h.narrow;
          small = h.sharing.elements;
          early = h.early;
          based = h.based;
        }

    pub ports_fillable : {heads : List ℕ} → Heads f.nest f.stream count heads → PortsFillable f g count spans lanes heads i
    ports_fillable {heads} o =
        record {
          seen = seen;
          counted = h.flowing.counted;
          of_heads = subst (λ (k : ℕ). Heads f.nest f.stream k heads) h.flowing.counted o;
          narrow = h.narrow;
          small = h.sharing.elements;
          stream = h.stream;
        }

  pub strung : (l : List ℕ) {x out : List ℕ} → x ≡ end_rows f.nest f.stream g first base count l
      → out ≡ port_rows f.nest f.stream g i count x → out ≡ stream_rows f.nest f.stream g i first base l
  strung l ex eo =
      eo ∙ ap (port_rows f.nest f.stream g i count) ex
      ∙ ap (λ (k : ℕ). port_rows f.nest f.stream g i k (end_rows f.nest f.stream g first base k l)) h.flowing.counted
