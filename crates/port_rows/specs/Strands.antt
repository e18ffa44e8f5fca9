-- What the rows of a stream share, and the rows by numbers. Assumes nothing.
use Rattle.std.specs.Prelude.{◌≡◌, refl, Bool, true, false, not, cond, ◌&&◌, List, ℕ, zero, suc, ◌+◌, ◌*◌, ◌≤◌, ◌<◌, eqb, ℤ, pos, ◌+ℤ◌}
use Rattle.std.specs.Prelude.{◌-ℤ◌, ◌*ℤ◌, ◌≤ℤ◌, length, get_or}
use Rattle.std.proofs.Common.{sym, ◌∙◌, ap, ap₂, subst, arith, eq-eqb, ne_eqb}
use Rattle.std.proofs.lemmas.Bool.{eqb-false}
use Rattle.integers.specs.Differences.{zrules}
use Rattle.integers.specs.Vectors.{zero2, shift2, image}
use Rattle.integers.specs.declared.V2.{V2}
use Rattle.meaning.specs.declared.Nest.{Nest}
use Rattle.meaning.specs.declared.Stream.{Stream}
use Rattle.meaning.specs.Limits.{gauge_limits, process_words_most, state_words_most}
use Rattle.meaning.specs.Loops.{instances}
use Rattle.meaning.specs.Space.{eq2, row_index, space, processes, sent_to, count, computing}
use Rattle.meaning.specs.Streams.{stationary, move}
use Rattle.meaning.specs.Pipes.{reach, before, is_pipe, pipe_elements}
use Rattle.meaning.specs.Array.{row_soak}
use Rattle.meaning.specs.Points.{Inside}
use Rattle.lists.specs.Tests.{filter_fewer}
use Rattle.geometry.specs.Places.{get_d_in}
use Rattle.geometry.specs.Boxes.{points_inside}
use Rattle.geometry.specs.Reach.{reach_in}
use Rattle.geometry.specs.RowOrder.{row_lt, row_number}
use Rattle.addresses.specs.Ends.{back_of, on_of, exit_of, back_inside}
use Rattle.layout.specs.Spans.{process_of}
use Rattle.layout.specs.Rays.{reach_small}
use Rattle.ports.specs.declared.Port.{Port}
use Rattle.ports.specs.declared.End.{End}
use Rattle.ports.specs.Ports.{same_port}
use Rattle.pipe_parts.specs.Starts.{entered_at, entered_le}
use Rattle.pipe_parts.specs.Heads.{Heads, pipe_some}
use Rattle.survey.specs.declared.Flow.{Flow}
use Rattle.lanes.specs.Held.{entry_number}
use Rattle.lanes.specs.Along.{row_on, row_back}
use Rattle.lanes.specs.Flow.{Flows, going_on, reach_on}
use Rattle.pipes.specs.Elements.{Near, computes_is, good, inside, entry_lt}
use Rattle.port_rows.specs.declared.Strand.{Strand}

-- small numbers
pub record Narrow (g : Strand) : Type 0 where
  pub hop : g.hop ≤ gauge_limits.hop
  pub stride : g.stride ≤ process_words_most
  pub offset : g.offset ≤ process_words_most
  pub tail : g.tail ≤ state_words_most

-- ---- numbers on a line

module _ {f : Flow} (h : Flows f) {p : ℕ} (lt : p < length (processes f.nest)) where
  here_in : Inside (space f.nest) (process_of f.nest p)
  here_in = points_inside (space f.nest) (process_of f.nest p) (get_d_in (processes f.nest) p zero2 lt)

  here_is : pos (row_index (space f.nest) (process_of f.nest p)) ≡ pos p
  here_is = ap pos (row_number (space f.nest) p zero2 lt)

  pub process_few : p ≤ 1024
  process_few = omega (arith, h.laid.processes)

  module _ {k : ℕ} (l : k ≤ reach (space f.nest) (move f.nest f.stream) (process_of f.nest p)) where
    abbrev there : V2
    there = shift2 (process_of f.nest p) (pos k) (move f.nest f.stream)

    on_in : Inside (space f.nest) there
    on_in = reach_in (space f.nest) h.laid.accepted.goes here_in k l

    pub on_far : k ≤ 1536
    on_far = omega (arith, reach_small (going_on h lt refl), reach_on h lt refl refl)

    pub on_number : pos p +ℤ pos k *ℤ f.step ≡ pos (row_index (space f.nest) there)
    on_number =
        ap₂ (λ (a b : ℤ). a +ℤ pos k *ℤ b) (sym here_is) h.flow.step_is
        ∙ sym (row_on (space f.nest) (move f.nest f.stream) (pos k) here_in on_in)

    pub on_some : pos 0 ≤ℤ (pos p +ℤ pos k *ℤ f.step)
    on_some = subst (λ (z : ℤ). pos 0 ≤ℤ z) (sym on_number) (omega (arith, zrules))

    pub on_lt : row_index (space f.nest) there < 1024
    on_lt = omega (arith, row_lt (space f.nest) there on_in, h.laid.processes)

  module _ (l : 0 < before f.nest f.stream (process_of f.nest p)) where
    abbrev behind : V2
    behind = back_of f.nest f.stream (process_of f.nest p)

    back_in : Inside (space f.nest) behind
    back_in = back_inside h.laid.accepted here_in l

    pub back_number : pos p -ℤ f.step ≡ pos (row_index (space f.nest) behind)
    back_number =
        ap₂ ◌-ℤ◌ (sym here_is) h.flow.step_is ∙ sym (row_back (space f.nest) (move f.nest f.stream) here_in back_in)

    pub back_some : pos 0 ≤ℤ (pos p -ℤ f.step)
    back_some = subst (λ (z : ℤ). pos 0 ≤ℤ z) (sym back_number) (omega (arith, zrules))

    pub back_lt : row_index (space f.nest) behind < 1024
    back_lt = omega (arith, row_lt (space f.nest) behind back_in, h.laid.processes)

-- ---- the rows

abbrev pub port_index : Strand → ℕ → ℕ
port_index g p = p * g.stride + g.offset

abbrev pub end_index : Strand → ℕ → ℕ
end_index g j = g.tail + j * (2 + g.hop)

-- what was put into the link into process p; `sent` is the index of its pipe's ends
abbrev pub before_from : Nest → Stream → Strand → ℕ → ℕ → ℕ
before_from n s g sent p =
    cond (eqb (before n s (process_of n p)) 0) sent (port_index g (row_index (space n) (back_of n s (process_of n p))) + 1)

-- the link out of it
abbrev pub after_from : Nest → Stream → Strand → ℕ → ℕ → ℕ
after_from n s g sent p =
    cond (eqb (reach (space n) (move n s) (process_of n p)) 0) (sent + 1) (port_index g (row_index (space n) (on_of n s (process_of n p))))

abbrev pub room_from : Nest → Stream → Strand → ℕ → ℕ → ℕ
room_from n s g sent p =
    cond (eqb (reach (space n) (move n s) (process_of n p)) 0) (sent + 2)
    (port_index g (row_index (space n) (on_of n s (process_of n p))) + 4)

-- the number of its pipe in the stream
abbrev pub pipe_of : Nest → Stream → ℕ → ℕ
pipe_of n s p = entered_at n s (entry_number n s p)

abbrev pub port_from : Nest → Stream → Strand → ℕ → Port
port_from n s g p =
    let y = process_of n p in
    let sent = end_index g (pipe_of n s p) in
    record {
      at = port_index g p;
      before = before_from n s g sent p;
      after = after_from n s g sent p;
      room = room_from n s g sent p;
      fired = p * g.stride;
      hop = g.hop;
      soak = row_soak n s y;
      count = count n y;
      total = length (pipe_elements n s y);
      keeps = stationary n s && computing n y;
    }

-- the row of process p off every pipe; it has so many instances
abbrev pub off_from : Strand → ℕ → ℕ → Port
off_from g count p =
    record {
      at = port_index g p;
      before = port_index g p;
      after = port_index g p + 1;
      room = port_index g p + 4;
      fired = p * g.stride;
      hop = 0;
      soak = 0;
      count = count;
      total = 0;
      keeps = false;
    }

-- and its row in any case
abbrev pub row_from : Nest → Stream → Strand → ℕ → Port
row_from n s g p = cond (is_pipe n s (process_of n p)) (port_from n s g p) (off_from g (count n (process_of n p)) p)

-- by the tests of the code
pub some_before : {b : ℕ} → eqb b 0 ≡ false → 0 < b
some_before {b} e = go b e
  where
    go : (b : ℕ) → eqb b 0 ≡ false → 0 < b
    go zero e = absurd (eqb-false 0 0 e refl)
    go (suc b) e = omega arith

module _ (n : Nest) (s : Stream) (g : Strand) (sent p : ℕ) where
  abbrev next : ℕ
  next = port_index g (row_index (space n) (on_of n s (process_of n p)))

  pub link_last : reach (space n) (move n s) (process_of n p) ≡ 0
      → (sent + 1 ≡ after_from n s g sent p) × (sent + 2 ≡ room_from n s g sent p)
  link_last e =
      let t = eq-eqb (reach (space n) (move n s) (process_of n p)) 0 e in
      (sym (ap (λ (b : Bool). cond b (sent + 1) next) t), sym (ap (λ (b : Bool). cond b (sent + 2) (next + 4)) t))

  pub link_next : (reach (space n) (move n s) (process_of n p) ≡ 0 → ⊥) → {k at : ℕ} → k ≡ row_index (space n) (on_of n s (process_of n p))
      → at ≡ port_index g k → (at ≡ after_from n s g sent p) × (at + 4 ≡ room_from n s g sent p)
  link_next f {k} {at} ek ea =
      let t = ne_eqb (reach (space n) (move n s) (process_of n p)) 0 f in
      let e = ea ∙ ap (port_index g) ek in (
        e ∙ sym (ap (λ (b : Bool). cond b (sent + 1) next) t),
        ap (λ (a : ℕ). a + 4) e ∙ sym (ap (λ (b : Bool). cond b (sent + 2) (next + 4)) t),
      )

-- what the row of a port is read off: the lanes, and the heads of the pipes
pub record PortGiven (f : Flow) (spans lanes heads : List ℕ) (p : ℕ) : Type 0 where
  pub near : Near f spans lanes p
  pub of_heads : Heads f.nest f.stream (length (processes f.nest)) heads

pub number_is : {f : Flow} {spans lanes heads : List ℕ} {p e : ℕ} → PortGiven f spans lanes heads p → e ≡ get_or lanes p 0
    → (get_or heads e 0 ≡ pipe_of f.nest f.stream p) × (get_or heads e 0 ≤ 1024)
number_is {f} {p} {e} h q =
    let z = q ∙ h.near.seen.of_lanes.entries p h.near.lt in
    let r = h.of_heads.counts e (omega (arith, q, entry_lt h.near)) in (
      r ∙ ap (entered_at f.nest f.stream) z,
      omega (arith, r, entered_le f.nest f.stream e, h.near.seen.flows.laid.processes),
    )

-- ---- the row of a port, part by part

pub count_most : (n : Nest) (y : V2) → count n y ≤ length (instances n)
unfolding sent_to
count_most n y = filter_fewer (λ x. eq2 (image n.place x) y) (instances n)

pub count_fits : {f : Flow} {spans lanes : List ℕ} {p : ℕ} → Near f spans lanes p → get_or spans p 0 ≤ 4096
count_fits {f} {p} h =
    omega (arith, h.seen.of_spans.counts p h.lt, count_most f.nest (process_of f.nest p), h.seen.flows.laid.instances)

keeps_is : {f : Flow} {spans lanes : List ℕ} {p : ℕ} → Near f spans lanes p
    → (not f.moving && not (eqb (get_or spans p 0) 0)) ≡ (stationary f.nest f.stream && computing f.nest (process_of f.nest p))
keeps_is {f} {p} h =
    ap₂ ◌&&◌ (ap not h.seen.flows.flow.moving_is ∙ twice (stationary f.nest f.stream)) (sym (computes_is h))
  where
    twice : (b : Bool) → not (not b) ≡ b
    twice true = refl
    twice false = refl

pub port_row_lem : {f : Flow} (g : Strand) {spans lanes : List ℕ} {p : ℕ} {r : Port} → Near f spans lanes p → (sent : ℕ)
    → sent ≡ end_index g (pipe_of f.nest f.stream p)
    → r.at ≡ port_index g p → r.before ≡ before_from f.nest f.stream g sent p → r.after ≡ after_from f.nest f.stream g sent p
    → r.room ≡ room_from f.nest f.stream g sent p → r.fired ≡ p * g.stride → r.hop ≡ g.hop
    → r.soak ≡ row_soak f.nest f.stream (process_of f.nest p) → r.count ≡ get_or spans p 0
    → r.total ≡ length (pipe_elements f.nest f.stream (process_of f.nest p))
    → r.keeps ≡ (not f.moving && not (eqb (get_or spans p 0) 0)) → r ≡ port_from f.nest f.stream g p
port_row_lem {f} g {p} h sent e a b c d k l m o q s =
    same_port a (b ∙ ap (λ (x : ℕ). before_from f.nest f.stream g x p) e) (c ∙ ap (λ (x : ℕ). after_from f.nest f.stream g x p) e)
    (d ∙ ap (λ (x : ℕ). room_from f.nest f.stream g x p) e) k l m (o ∙ h.seen.of_spans.counts p h.lt) q (s ∙ keeps_is h)

-- on a pipe where its line has elements, off every one where it has none
module _ {f : Flow} {spans lanes : List ℕ} {p : ℕ} (h : Near f spans lanes p) {k : ℕ}
    (e : k ≡ length (pipe_elements f.nest f.stream (process_of f.nest p))) (g : Strand) where
  abbrev own : Bool → Port
  own b = cond b (port_from f.nest f.stream g p) (off_from g (count f.nest (process_of f.nest p)) p)

  test : not (eqb k 0) ≡ is_pipe f.nest f.stream (process_of f.nest p)
  test = ap (λ (k : ℕ). not (eqb k 0)) e ∙ sym (pipe_some (good h) (inside h))

  pub row_held : (k ≡ 0 → ⊥) → {r : Port} → r ≡ port_from f.nest f.stream g p → r ≡ row_from f.nest f.stream g p
  row_held t er = er ∙ ap own (sym (ap not (ne_eqb k 0 t)) ∙ test)

  pub row_bare : k ≡ 0 → {r : Port} → r ≡ off_from g (get_or spans p 0) p → r ≡ row_from f.nest f.stream g p
  row_bare z er =
      er ∙ ap (λ (c : ℕ). off_from g c p) (h.seen.of_spans.counts p h.lt)
      ∙ ap own (sym (ap not (eq-eqb k 0 z)) ∙ test)

-- ---- the row of a pipe's ends

abbrev pub end_from : Nest → Stream → Strand → ℕ → ℕ → ℕ → End
end_from n s g start j p =
    record {
      sent = end_index g j;
      after = port_index g p;
      room = port_index g p + 4;
      before = port_index g (row_index (space n) (exit_of n s (process_of n p))) + 1;
      received = end_index g j + 1;
      last = end_index g j + 2;
      hop = g.hop;
      total = length (pipe_elements n s (process_of n p));
      offset = start;
    }
