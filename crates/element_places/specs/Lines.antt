-- What the walk along a line of processes is lent, and what it finds at each. Assumes nothing.
use Rattle.std.specs.Prelude.{◌≡◌, true, false, not, List, ℕ, suc, ◌+◌, ◌-◌, ◌≤◌, ◌<◌, T, eqb, ℤ, pos, ◌-ℤ◌, length, get_or}
use Rattle.std.proofs.Common.{sym, ◌∙◌, ap, subst, arith, eq-eqb, ne_eqb}
use Rattle.integers.specs.Differences.{Is-eq, Is-add, Is-neg, Is-pos}
use Rattle.integers.specs.Vectors.{zero2, shift2}
use Rattle.integers.specs.declared.V2.{V2}
use Rattle.meaning.specs.Space.{Box, points, row_index, space, processes, computing}
use Rattle.meaning.specs.Streams.{stationary, move, elements}
use Rattle.meaning.specs.Pipes.{reach, pipe, before}
use Rattle.meaning.specs.Points.{Inside}
use Rattle.geometry.specs.RowOrder.{row_at_lem, row_lt}
use Rattle.geometry.specs.Positions.{pipe_length, pipe_at_lem, at_inside}
use Rattle.geometry.specs.Wiring.{process_at}
use Rattle.vectors.specs.Within.{Within2}
use Rattle.numbering.specs.Extents.{boxed}
use Rattle.layout.specs.Spans.{process_of, Spans}
use Rattle.survey.specs.declared.Flow.{Flow}
use Rattle.lanes.specs.Flow.{Flows, point_is, inside_space, reach_on, point_small}
use Rattle.pipes.specs.Elements.{At, still_of}
use Rattle.pipe_parts.specs.Starts.{entering}
use Rattle.element_places.specs.Order.{Put}
use Rattle.element_places.specs.Walked.{one_of, own_said, Gone, gone_next, gone_all}
use Rattle.element_places.specs.Lent.{Placing, none_before}

-- process k of the line that enters at a process
pub record Lined (f : Flow) (y : V2) (k : ℕ) : Type 0 where
  pub flows : Flows f
  pub inside : Inside (space f.nest) y
  pub small : Within2 768 y
  pub zero : before f.nest f.stream y ≡ 0
  pub few : k ≤ 1536
  pub lt : k < length (pipe f.nest f.stream y)

-- a process, the place of its element and room for it
pub record Owning (f : Flow) (from : ℕ) (spans : List ℕ) (q place : ℕ) (places : List ℕ) : Type 0 where
  pub flows : Flows f
  pub of_spans : Spans f.nest spans
  pub long : 3072 ≤ length spans
  pub lt : q < length (processes f.nest)
  pub fits : from + length (elements f.nest f.stream) ≤ 24576
  pub low : place ≤ 30208
  pub words : length places ≡ 24576

-- an entry of a stationary stream
pub record Walking (f : Flow) (from start : ℕ) (spans : List ℕ) (p : ℕ) (places : List ℕ) : Type 0 where
  pub own : Owning f from spans p start places
  pub still : T (stationary f.nest f.stream)
  pub zero : before f.nest f.stream (process_of f.nest p) ≡ 0
  pub low : start ≤ 28672

-- ---- process k of a line

pub way_small : {f : Flow} → Flows f → Within2 1 f.way
way_small h = subst (Within2 1) (sym h.flow.way_is) h.laid.small

module _ {f : Flow} {y : V2} {k : ℕ} (h : Lined f y k) {z : V2} (e : z ≡ shift2 y (pos k) f.way) where
  at_is : z ≡ process_at f.nest f.stream y k
  at_is =
      e ∙ ap (shift2 y (pos k)) h.flows.flow.way_is
      ∙ sym (pipe_at_lem h.flows.laid.accepted y k zero2 h.lt
      ∙ ap (λ (b : ℕ). shift2 y (pos k -ℤ pos b) (move f.nest f.stream)) h.zero
      ∙ ap (λ (i : ℤ). shift2 y i (move f.nest f.stream)) none)
    where
      none : pos k -ℤ pos 0 ≡ pos k
      none = Is-eq (Is-add (Is-pos k) (Is-neg (Is-pos 0))) (Is-pos k) (omega arith)

  at_in : Inside (space f.nest) z
  at_in = subst (Inside (space f.nest)) (sym at_is) (at_inside h.flows.laid.accepted h.inside k zero2 h.lt)

  pub at_box : Inside (boxed f.space) z
  at_box = subst (λ (b : Box). Inside b z) (sym h.flows.flow.space_is) at_in

  pub at_number : {r : ℕ} → r ≡ row_index (boxed f.space) z
      → (r < length (processes f.nest)) × (process_of f.nest r ≡ process_at f.nest f.stream y k)
  at_number er =
      let e' = er ∙ ap (λ (b : Box). row_index b z) h.flows.flow.space_is in (
        omega (arith, e', row_lt (space f.nest) z at_in),
        ap (process_of f.nest) e' ∙ row_at_lem (space f.nest) z zero2 at_in ∙ at_is,
      )

-- ---- whether it computes

module _ {f : Flow} {from : ℕ} {spans : List ℕ} {q place : ℕ} {places : List ℕ} (h : Owning f from spans q place places) where
  abbrev here : V2
  here = process_of f.nest q

  is_computing : computing f.nest here ≡ not (eqb (get_or spans q 0) 0)
  is_computing = ap (λ (k : ℕ). not (eqb k 0)) (sym (h.of_spans.counts q h.lt))

  pub null_here : get_or spans q 0 ≡ 0 → computing f.nest here ≡ false
  null_here e = is_computing ∙ ap not (eq-eqb (get_or spans q 0) 0 e)

  pub computes_here : (get_or spans q 0 ≡ 0 → ⊥) → computing f.nest here ≡ true
  computes_here g = is_computing ∙ ap not (ne_eqb (get_or spans q 0) 0 g)

  pub at_here : (get_or spans q 0 ≡ 0 → ⊥) → At f spans q
  at_here g =
      record {
        flows = h.flows;
        words = h.of_spans;
        long = h.long;
        lt = h.lt;
        computing = subst T (sym (computes_here g)) tt;
      }

  -- another process, its place, and the places as they are by then
  pub owning : {r at : ℕ} {now : List ℕ} → r < length (processes f.nest) → at ≤ 30208 → length now ≡ length places
      → Owning f from spans r at now
  owning l b e =
      record {
        flows = h.flows;
        of_spans = h.of_spans;
        long = h.long;
        lt = l;
        fits = h.fits;
        low = b;
        words = e ∙ h.words;
      }

-- ---- from the entry on

module _ {f : Flow} {from start : ℕ} {spans : List ℕ} {p : ℕ} {places : List ℕ} (h : Walking f from start spans p places) {y : V2}
    (ey : y ≡ get_or (points (boxed f.space)) p zero2) {r : ℕ} (er : r ≡ reach (boxed f.space) f.way y) where
  abbrev flows : Flows f
  flows = h.own.flows

  is_entry_lem : y ≡ process_of f.nest p
  is_entry_lem = point_is flows h.own.lt ey

  -- so many processes it has
  line_length : length (pipe f.nest f.stream (process_of f.nest p)) ≡ suc r
  line_length =
      omega (arith, pipe_length flows.laid.accepted (process_of f.nest p), h.zero, reach_on flows h.own.lt ey er)

  pub lined : r ≤ 1536 → {k : ℕ} → k ≤ r → Lined f y k
  lined few l =
      record {
        flows = flows;
        inside = inside_space flows h.own.lt ey;
        small = point_small flows h.own.lt ey;
        zero = ap (before f.nest f.stream) is_entry_lem ∙ h.zero;
        few = omega arith;
        lt = omega (arith, line_length, ap (λ (v : V2). length (pipe f.nest f.stream v)) is_entry_lem);
      }

  pub walk_next : {k : ℕ} → k ≤ r → {v : V2} → v ≡ process_at f.nest f.stream y k → {place c : ℕ} {out out' : List ℕ}
      → Gone f.nest f.stream from start (process_of f.nest p) places k out place
      → c ≡ one_of f.nest v → out' ≡ own_said f.nest f.stream from v place out
      → Gone f.nest f.stream from start (process_of f.nest p) places (k + 1) out' (place + c)
  walk_next {k} l ev g ec eo =
      gone_next flows.laid.accepted h.still (process_of f.nest p) k (omega (arith, line_length)) g
      (ev ∙ ap (λ (v : V2). process_at f.nest f.stream v k) is_entry_lem) ec eo

  pub walk_all : r ≤ 1536 → {k place : ℕ} {out : List ℕ} → k ≡ suc r
      → Gone f.nest f.stream from start (process_of f.nest p) places k out place
      → Put f.nest f.stream from start (process_of f.nest p) places (place - start) out
  walk_all few e g =
      gone_all flows.laid.accepted h.still (process_of f.nest p) g (e ∙ sym line_length) (omega arith)

-- a pipe of a stationary stream enters at a process
pub walking : {f : Flow} {from start : ℕ} {spans lanes : List ℕ} {p : ℕ} {places : List ℕ} → Placing f from start spans lanes p places
    → entering f.nest f.stream (process_of f.nest p) ≡ true → f.moving ≡ false → Walking f from start spans p places
walking h e still =
    let seen = h.near.seen in
    record {
      own = record {
        flows = seen.flows;
        of_spans = seen.of_spans;
        long = seen.long;
        lt = h.near.lt;
        fits = h.fits;
        low = omega (arith, h.low);
        words = h.words;
      };
      still = still_of h.near still;
      zero = none_before h e;
      low = h.low;
    }
