-- The numbers of a stream's rows fit their parts of a word. Assumes nothing.
use Rattle.std.specs.Prelude.{◌≡◌, refl, Bool, true, false, cond, ℕ, ◌+◌, ◌≤◌, ◌<◌, eqb, length}
use Rattle.std.proofs.Common.{arith}
use Rattle.integers.specs.Vectors.{zero2}
use Rattle.integers.specs.declared.V2.{V2}
use Rattle.meaning.specs.declared.Nest.{Nest}
use Rattle.meaning.specs.declared.Stream.{Stream}
use Rattle.meaning.specs.Limits.{end_words_most, state_words_most}
use Rattle.meaning.specs.Space.{row_index, box_of, space, processes, count, computing}
use Rattle.meaning.specs.Streams.{move, elements}
use Rattle.meaning.specs.Pipes.{reach, before, is_pipe, uses, pipe_elements, soak}
use Rattle.meaning.specs.Array.{row_soak}
use Rattle.meaning.specs.Points.{Inside}
use Rattle.lists.specs.Tests.{position_most}
use Rattle.geometry.specs.Sorting.{fewer}
use Rattle.geometry.specs.Places.{get_d_in}
use Rattle.geometry.specs.Boxes.{inside_points, points_inside}
use Rattle.geometry.specs.RowOrder.{row_lt}
use Rattle.geometry.specs.Segments.{at_box}
use Rattle.geometry.specs.Pipes.{Accepted}
use Rattle.geometry.proofs.Pipes.{in_on}
use Rattle.geometry.proofs.Elements.{elements_distinct}
use Rattle.addresses.specs.Ends.{back_of, on_of, exit_of, back_inside, on_inside, last_inside}
use Rattle.layout.specs.Spans.{process_of}
use Rattle.lanes.specs.Held.{entry_number}
use Rattle.lanes.specs.Flow.{Laid}
use Rattle.pipe_parts.specs.Starts.{entered_le}
use Rattle.port_rows.specs.declared.Strand.{Strand}
use Rattle.survey.specs.StateWords.{process_words_lem, end_words_lem}
use Rattle.port_rows.specs.Strands.{Narrow, port_index, end_index, before_from, after_from, room_from, pipe_of, port_from, off_from}
use Rattle.port_rows.specs.Strands.{row_from}
use Rattle.port_rows.specs.Strands.{end_from, some_before, count_most}
use Rattle.port_table.specs.Pack.{low_end}
use Rattle.port_table.specs.Rows.{PortWide, EndWide}

wide : {a : ℕ} → a ≤ state_words_most + end_words_most + 2 → a < low_end
wide h = omega arith

module _ {g : Strand} (w : Narrow g) {n : Nest} {s : Stream} (h : Laid n s) {p : ℕ} (lt : p < length (processes n))
    (small : length (elements n s) ≤ 4096) where
  abbrev y : V2
  y = process_of n p

  good : Accepted n s
  good = h.accepted

  inside : Inside (space n) y
  inside = points_inside (space n) y (get_d_in (processes n) p zero2 lt)

  port_low : (q : ℕ) → q < length (processes n) → port_index g q ≤ state_words_most
  port_low q l = omega (arith, process_words_lem {p = q} {w = g.stride} (omega (arith, h.processes)) w.stride, w.offset)

  sent_low : (j : ℕ) → j ≤ 1024 → end_index g j ≤ state_words_most + end_words_most
  sent_low j l = omega (arith, end_words_lem {j = j} {h = g.hop} l w.hop, w.tail)

  total_low : length (pipe_elements n s y) ≤ 4096
  total_low =
      omega (
        arith,
        small,
        fewer (elements_distinct good y)
            (λ e i. inside_points (box_of n s.map) e (at_box good.layout.dirs (in_on good inside i).at)),
      )

  soak_low : row_soak n s y ≤ 4096
  soak_low = go (computing n y)
    where
      go : (b : Bool) → cond b (soak n s y) (length (pipe_elements n s y)) ≤ 4096
      go true = omega (arith, total_low, position_most (uses n s y) (pipe_elements n s y))
      go false = total_low

  count_low : count n y ≤ 4096
  count_low = omega (arith, count_most n y, h.instances)

  module _ (sent : ℕ) (l : sent ≤ state_words_most + end_words_most) where
    before_low : before_from n s g sent p ≤ state_words_most + end_words_most + 2
    before_low = go (eqb (before n s y) 0) refl
      where
        go : (b : Bool) → eqb (before n s y) 0 ≡ b
            → cond b sent (port_index g (row_index (space n) (back_of n s y)) + 1) ≤ state_words_most + end_words_most + 2
        go true e = omega arith
        go false e =
            omega (
              arith,
              port_low (row_index (space n) (back_of n s y))
                  (row_lt (space n) (back_of n s y) (back_inside good inside (some_before e))),
            )

    next_low : eqb (reach (space n) (move n s) y) 0 ≡ false → port_index g (row_index (space n) (on_of n s y)) ≤ state_words_most
    next_low e = port_low (row_index (space n) (on_of n s y)) (row_lt (space n) (on_of n s y) (on_inside good inside (some_before e)))

    after_low : after_from n s g sent p ≤ state_words_most + end_words_most + 2
    after_low = go (eqb (reach (space n) (move n s) y) 0) refl
      where
        go : (b : Bool) → eqb (reach (space n) (move n s) y) 0 ≡ b
            → cond b (sent + 1) (port_index g (row_index (space n) (on_of n s y))) ≤ state_words_most + end_words_most + 2
        go true e = omega arith
        go false e = omega (arith, next_low e)

    room_low : room_from n s g sent p ≤ state_words_most + end_words_most + 2
    room_low = go (eqb (reach (space n) (move n s) y) 0) refl
      where
        go : (b : Bool) → eqb (reach (space n) (move n s) y) 0 ≡ b
            → cond b (sent + 2) (port_index g (row_index (space n) (on_of n s y)) + 4) ≤ state_words_most + end_words_most + 2
        go true e = omega arith
        go false e = omega (arith, next_low e)

  own_low : end_index g (pipe_of n s p) ≤ state_words_most + end_words_most
  own_low = sent_low (pipe_of n s p) (omega (arith, entered_le n s (entry_number n s p), h.processes))

  port_wide : PortWide (port_from n s g p)
  port_wide =
      let sent = end_index g (pipe_of n s p) in
      record {
        at = wide (omega (arith, port_low p lt));
        before = wide (before_low sent own_low);
        after = wide (after_low sent own_low);
        room = wide (room_low sent own_low);
        fired = wide (omega (arith, port_low p lt));
        hop = omega (arith, w.hop);
        soak = omega (arith, soak_low);
        count = omega (arith, count_low);
        total = omega (arith, total_low);
      }

  off_wide : PortWide (off_from g (count n y) p)
  off_wide =
      record {
        at = wide (omega (arith, port_low p lt));
        before = wide (omega (arith, port_low p lt));
        after = wide (omega (arith, port_low p lt));
        room = wide (omega (arith, port_low p lt));
        fired = wide (omega (arith, port_low p lt));
        hop = omega arith;
        soak = omega arith;
        count = omega (arith, count_low);
        total = omega arith;
      }

  pub row_wide : PortWide (row_from n s g p)
  row_wide = go (is_pipe n s y)
    where
      go : (b : Bool) → PortWide (cond b (port_from n s g p) (off_from g (count n y) p))
      go true = port_wide
      go false = off_wide

  pub end_wide : (start j : ℕ) → start ≤ 28672 → j ≤ 1024 → EndWide (end_from n s g start j p)
  end_wide start j a b =
      record {
        sent = wide (omega (arith, sent_low j b));
        after = wide (omega (arith, port_low p lt));
        room = refl;
        before =
            wide (omega
            (arith, port_low (row_index (space n) (exit_of n s y)) (row_lt (space n) (exit_of n s y) (last_inside good inside))));
        received = refl;
        last = refl;
        hop = omega (arith, w.hop);
        total = omega (arith, total_low);
        offset = omega arith;
      }
