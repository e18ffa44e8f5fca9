-- Where the words of a state lie: the rows of ports and ends fit every state that is long enough, and a place that a give or a send fills
-- is not the word where it counts. Assumes nothing.
use Rattle.std.specs.Prelude.{◌≡◌, refl, Bool, true, false, cond, ℕ, zero, suc, ◌+◌, ◌≤◌, ◌<◌, ltb, get_or, take}
use Rattle.std.proofs.Common.{mul-le-mul_right, arith, ltb-true}
use Rattle.meaning.specs.Lists.{total}
use Rattle.meaning.specs.Array.{Array, no_pipe, process_count, stream_count, pipe_number, stop_at, pipe_at, stops_on, elements_on, count_at}
use Rattle.meaning.specs.State.{Taken, Given, Place, Sent, Received, End, stride, process_start, index, word_count}
use Rattle.meaning.specs.Rules.{process_on, stream_on, put_in, taken_out, link_place}
use Rattle.lists.specs.Sums.{part_ends}
use Rattle.integers.specs.Order.{parts_apart}
use Rattle.ports.specs.Ports.{port_of, PortFits}
use Rattle.ports.specs.Ends.{end_of, EndFits}

-- the processes on pipes are processes of the array, and a pipe's links have the places of its stream
pub record Regular (A : Array) : Type 0 where
  pub process : (q k : ℕ) → k < stops_on A q → process_on A q k < process_count A
  pub stream : (q k : ℕ) → k < stops_on A q → stream_on A q < stream_count A
  pub hop : (q k : ℕ) → k < stops_on A q → get_or A.hops (stream_on A q) 0 ≡ (pipe_at A q).hop

-- ---- the words of a port

module _ (A : Array) (reg : Regular A) (q k : ℕ) (on : k < stops_on A q) where
  -- where they begin among the words of the process
  abbrev start : ℕ
  start = 1 + total (λ h. 4 + h) (take (stream_on A q) A.hops)

  port_inside : start + 4 + (pipe_at A q).hop ≤ stride A
  port_inside = omega (arith, part_ends (λ h. 4 + h) 0 A.hops (stream_on A q) (reg.stream q k on), reg.hop q k on)

  process_inside : process_start A (process_on A q k) + stride A ≤ process_start A (process_count A)
  process_inside = omega (arith, mul-le-mul_right (stride A) (reg.process q k on))

  port_before_ends : index A (Taken (process_on A q k) (stream_on A q)) + 4 + (pipe_at A q).hop ≤ process_start A (process_count A)
  port_before_ends = omega (arith, port_inside, process_inside)

-- ---- the rows fit

module _ (A : Array) (reg : Regular A) (q : ℕ) (on : q < pipe_number A) where
  ends_inside : index A (Sent q) + 2 + (pipe_at A q).hop ≤ word_count A
  ends_inside = omega (arith, part_ends (λ r. 2 + r.hop) no_pipe A.pipes q on)

  put_inside : (k : ℕ) → k ≤ stops_on A q → index A (put_in A q k) < word_count A
  put_inside zero h = omega (arith, ends_inside)
  put_inside (suc k) h = omega (arith, port_before_ends A reg q k h)

  got_inside : (k : ℕ) → index A (taken_out A q k) < word_count A
  got_inside k = go (ltb k (stops_on A q)) refl
    where
      go : (b : Bool) → ltb k (stops_on A q) ≡ b → index A (cond b (Taken (process_on A q k) (stream_on A q)) (Received q)) < word_count A
      go true e = omega (arith, port_before_ends A reg q k (ltb-true _ _ e))
      go false e = omega (arith, ends_inside)

  places_inside : (k : ℕ) → index A (link_place A q k 0) + (pipe_at A q).hop ≤ word_count A
  places_inside k = go (ltb k (stops_on A q)) refl
    where
      go : (b : Bool) → ltb k (stops_on A q) ≡ b
          → index A (cond b (Place (process_on A q k) (stream_on A q) 0) (End q 0)) + (pipe_at A q).hop ≤ word_count A
      go true e = omega (arith, port_before_ends A reg q k (ltb-true _ _ e))
      go false e = omega (arith, ends_inside)

  pub port_fits : (n k : ℕ) → word_count A ≤ n → k < stops_on A q → (stop_at A q k).soak < 4294967296
      → count_at A (process_on A q k) < 4294967296
      → PortFits n (port_of A q k)
  port_fits n k w h soak count =
      record {
        block = omega (arith, port_before_ends A reg q k h);
        before = omega (arith, put_inside k (omega arith));
        after = omega (arith, got_inside (suc k));
        room = omega (arith, places_inside (suc k));
        fired = omega (arith, port_before_ends A reg q k h);
        soak = soak;
        count = count;
      }

  pub end_fits : (n : ℕ) → word_count A ≤ n → elements_on A q < 4294967296 → EndFits n (end_of A q)
  end_fits n w total =
      record {
        sent = omega (arith, ends_inside);
        after = omega (arith, got_inside 0);
        room = omega (arith, places_inside 0);
        before = omega (arith, put_inside (stops_on A q) (omega arith));
        received = omega (arith, ends_inside);
        last = omega (arith, places_inside (stops_on A q));
        total = total;
      }

-- ---- words apart

module _ (A : Array) (reg : Regular A) (q i : ℕ) (h : i < (pipe_at A q).hop) where
  -- the place that a send fills is not `sent`
  pub send_apart : index A (Sent q) ≡ index A (link_place A q 0 i) → ⊥
  send_apart = go (ltb 0 (stops_on A q)) refl
    where
      go : (b : Bool) → ltb 0 (stops_on A q) ≡ b
          → index A (Sent q) ≡ index A (cond b (Place (process_on A q 0) (stream_on A q) i) (End q i)) → ⊥
      go true e d = omega (arith, port_before_ends A reg q 0 (ltb-true _ _ e))
      go false e d = omega arith

  -- the place that a give fills is not `given`
  pub give_apart : (k : ℕ) → k < stops_on A q
      → index A (Given (process_on A q k) (stream_on A q)) ≡ index A (link_place A q (suc k) i) → ⊥
  give_apart k on = go (ltb (suc k) (stops_on A q)) refl
    where
      go : (b : Bool) → ltb (suc k) (stops_on A q) ≡ b
          → index A (Given (process_on A q k) (stream_on A q))
          ≡ index A (cond b (Place (process_on A q (suc k)) (stream_on A q) i) (End q i)) → ⊥
      go true e d =
          let t = start A reg q k on in
          let w = port_inside A reg q k on in
          let z : t + 1 ≡ t + 4 + i =
          (parts_apart (stride A) (process_on A q k) (t + 1) (process_on A q (suc k)) (t + 4 + i) (omega arith) (omega arith)
          (omega arith)).1 in
          omega arith
      go false e d = omega (arith, port_before_ends A reg q k on)
