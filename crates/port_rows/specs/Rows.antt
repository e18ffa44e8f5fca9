-- The rows by numbers are those of the array of a description that is laid out. Assumes nothing.
use Rattle.std.specs.Prelude.{◌≡◌, refl, Bool, true, false, cond, ◌⊎◌, ℕ, zero, suc, ◌+◌, ◌*◌, ◌<◌, length, take}
use Rattle.std.proofs.Common.{sym, ◌∙◌, ap, ap₂, inl, inr, arith, eq-eqb, ne_eqb}
use Rattle.integers.specs.declared.V2.{V2}
use Rattle.meaning.specs.declared.Nest.{Nest}
use Rattle.meaning.specs.declared.Stream.{Stream}
use Rattle.meaning.specs.declared.Description.{Description}
use Rattle.meaning.specs.Lists.{total}
use Rattle.meaning.specs.Space.{row_index, space, processes, count}
use Rattle.meaning.specs.Streams.{hop, move}
use Rattle.meaning.specs.Pipes.{reach, before, is_pipe, entries, pipe_elements}
use Rattle.meaning.specs.Description.{streams_of}
use Rattle.meaning.specs.Array.{Array, array_of, pipe_through, place_on, part_start, count_at}
use Rattle.meaning.specs.State.{Firings, Taken, Given, Sent, Received, End, index}
use Rattle.meaning.specs.Rules.{put_in, taken_out, link_place}
use Rattle.geometry.specs.Descriptions.{Laid}
use Rattle.geometry.specs.Arrays.{stream_at}
use Rattle.addresses.specs.Pipes.{base, entry_at, hop_on, elements_on_lem}
use Rattle.addresses.specs.Through.{point_of, entry_number, through_is, entry_lt, entry_rank, on_is}
use Rattle.addresses.specs.Ports.{process_on_lem, keeps_is, soak_is, stream_is, hop_is, elements_is, count_at_lem}
use Rattle.addresses.specs.Ends.{back_of, on_of, put_first, put_given, taken_last, taken_next, link_last, link_next, exit_of, number_point}
use Rattle.addresses.specs.Ends.{entry_inside, taken_entry, link_entry, put_end_lem, link_end}
use Rattle.addresses.specs.Indices.{port_words, ends_words, stride_of, end_at, firings_index, taken_index, sent_index}
use Rattle.ports.specs.Ports.{port_of, PortIs, same_port}
use Rattle.ports.specs.Rows.{off_port, row_of}
use Rattle.ports.specs.Ends.{EndIs, same_end}
use Rattle.port_rows.specs.declared.Strand.{Strand}
use Rattle.port_rows.specs.Strands.{end_from, port_index, end_index, before_from, after_from, room_from, pipe_of, port_from, off_from}
use Rattle.port_rows.specs.Strands.{row_from}

-- the numbers that the rows of stream i share
pub record StrandOf (d : Description) (i : ℕ) (g : Strand) : Type 0 where
  pub lt : i < length (streams_of d)
  pub hop : g.hop ≡ hop d.nest (stream_at d i)
  pub stride : g.stride ≡ stride_of d
  pub offset : g.offset ≡ 1 + total (port_words d.nest) (take i (streams_of d))
  pub tail : g.tail ≡ length (processes d.nest) * stride_of d + total (ends_words d.nest) (take i (streams_of d))

module _ {d : Description} (laid : Laid d) {i : ℕ} {g : Strand} (h : StrandOf d i g) where
  abbrev n : Nest
  n = d.nest

  abbrev s : Stream
  s = stream_at d i

  abbrev A : Array
  A = array_of d

  port_index_lem : (p : ℕ) → port_index g p ≡ index A (Taken p i)
  port_index_lem p =
      ap₂ (λ (a b : ℕ). p * a + b) h.stride h.offset ∙ omega arith ∙ sym (taken_index d p i)

  end_at_lem : (j : ℕ) → end_index g j ≡ end_at d i j
  end_at_lem j = ap₂ (λ (a b : ℕ). a + j * (2 + b)) h.tail h.hop

  module _ (p : ℕ) (hp : p < length (processes n)) (on : is_pipe n s (point_of d p) ≡ true) where
    abbrev y : V2
    y = point_of d p

    abbrev q : ℕ
    q = pipe_through A p i

    abbrev k : ℕ
    k = place_on A p q

    abbrev j : ℕ
    j = entry_number d p i

    abbrev sent : ℕ
    sent = end_index g j

    j_le : j < length (entries n s)
    j_le = entry_lt laid p i hp h.lt on

    sent_is : sent ≡ index A (Sent q)
    sent_is = end_at_lem j ∙ sym (sent_index d i j h.lt (omega (arith, j_le)))
        ∙ ap (λ (r : ℕ). index A (Sent r)) (sym (through_is laid p i hp h.lt on))

    received_is : sent + 1 ≡ index A (Received q)
    received_is = ap (λ (a : ℕ). a + 1) sent_is

    last_place : sent + 2 ≡ index A (End q 0)
    last_place = ap (λ (a : ℕ). a + 2) sent_is ∙ omega arith

    either : (b : ℕ) → (b ≡ 0) ⊎ (0 < b)
    either zero = inl refl
    either (suc b) = inr (omega arith)

    before_is : before_from n s g sent p ≡ index A (put_in A q k)
    before_is = go (either (before n s y))
      where
        go : (before n s y ≡ 0) ⊎ (0 < before n s y) → before_from n s g sent p ≡ index A (put_in A q k)
        go (inl z) =
            ap (λ (b : Bool). cond b sent (port_index g (row_index (space n) (back_of n s y)) + 1)) (eq-eqb (before n s y) 0 z)
            ∙ sent_is ∙ ap (index A) (sym (put_first laid p i hp h.lt on z))
        go (inr l) =
            ap (λ (b : Bool). cond b sent (port_index g (row_index (space n) (back_of n s y)) + 1))
            (ne_eqb (before n s y) 0 (λ z. omega arith))
            ∙ ap (λ (a : ℕ). a + 1) (port_index_lem (row_index (space n) (back_of n s y)))
            ∙ ap (index A) (sym (put_given laid p i hp h.lt on l))

    after_is : after_from n s g sent p ≡ index A (taken_out A q (suc k))
    after_is = go (either (reach (space n) (move n s) y))
      where
        go : (reach (space n) (move n s) y ≡ 0) ⊎ (0 < reach (space n) (move n s) y)
            → after_from n s g sent p ≡ index A (taken_out A q (suc k))
        go (inl z) =
            ap (λ (b : Bool). cond b (sent + 1) (port_index g (row_index (space n) (on_of n s y))))
            (eq-eqb (reach (space n) (move n s) y) 0 z)
            ∙ received_is ∙ ap (index A) (sym (taken_last laid p i hp h.lt on z))
        go (inr l) =
            ap (λ (b : Bool). cond b (sent + 1) (port_index g (row_index (space n) (on_of n s y))))
            (ne_eqb (reach (space n) (move n s) y) 0 (λ z. omega arith))
            ∙ port_index_lem (row_index (space n) (on_of n s y)) ∙ ap (index A) (sym (taken_next laid p i hp h.lt on l))

    room_is : room_from n s g sent p ≡ index A (link_place A q (suc k) 0)
    room_is = go (either (reach (space n) (move n s) y))
      where
        go : (reach (space n) (move n s) y ≡ 0) ⊎ (0 < reach (space n) (move n s) y)
            → room_from n s g sent p ≡ index A (link_place A q (suc k) 0)
        go (inl z) =
            ap (λ (b : Bool). cond b (sent + 2) (port_index g (row_index (space n) (on_of n s y)) + 4))
            (eq-eqb (reach (space n) (move n s) y) 0 z)
            ∙ last_place ∙ ap (index A) (sym (link_last laid p i hp h.lt on z 0))
        go (inr l) =
            ap (λ (b : Bool). cond b (sent + 2) (port_index g (row_index (space n) (on_of n s y)) + 4))
            (ne_eqb (reach (space n) (move n s) y) 0 (λ z. omega arith))
            ∙ ap (λ (a : ℕ). a + 4) (port_index_lem (row_index (space n) (on_of n s y))) ∙ omega arith
            ∙ ap (index A) (sym (link_next laid p i hp h.lt on l 0))

    -- the row of a port
    pub port_is : PortIs A q k (port_from n s g p)
    port_is =
        same_port (port_index_lem p
        ∙ ap₂ (λ (a b : ℕ). index A (Taken a b)) (sym (process_on_lem laid p i hp h.lt on)) (sym (stream_is laid p i hp h.lt on)))
        (at_sent (λ x. before_from n s g x p) ∙ before_is) (at_sent (λ x. after_from n s g x p) ∙ after_is)
        (at_sent (λ x. room_from n s g x p) ∙ room_is)
        (ap (λ (a : ℕ). p * a) h.stride ∙ sym (firings_index d p)
        ∙ ap (λ (a : ℕ). index A (Firings a)) (sym (process_on_lem laid p i hp h.lt on)))
        (h.hop ∙ sym (hop_is laid p i hp h.lt on)) (sym (soak_is laid p i hp h.lt on))
        (sym (count_at_lem laid p hp) ∙ ap (count_at A) (sym (process_on_lem laid p i hp h.lt on)))
        (sym (elements_is laid p i hp h.lt on)) (sym (keeps_is laid p i hp h.lt on))
      where
        at_sent : (f : ℕ → ℕ) → f (end_index g (pipe_of n s p)) ≡ f sent
        at_sent f = ap (λ (r : ℕ). f (end_index g r)) (sym (entry_rank laid p i hp h.lt on))

  -- the row of a process, on a pipe or off every one
  module _ (p : ℕ) (hp : p < length (processes n)) where
    off_is : off_from g (count n (point_of d p)) p ≡ off_port A p i
    off_is =
        let e = port_index_lem p in
        same_port e e (ap (λ (a : ℕ). a + 1) e) (ap (λ (a : ℕ). a + 4) e ∙ omega arith)
        (ap (λ (a : ℕ). p * a) h.stride ∙ sym (firings_index d p)) refl refl (sym (count_at_lem laid p hp)) refl refl

    pub row_is : row_from n s g p ≡ row_of A p i
    row_is =
        go (is_pipe n s (point_of d p)) refl
        ∙ ap (λ (b : Bool). cond b (port_of A (pipe_through A p i) (place_on A p (pipe_through A p i))) (off_port A p i))
        (sym (on_is laid p i hp h.lt))
      where
        go : (b : Bool) → is_pipe n s (point_of d p) ≡ b → cond b (port_from n s g p) (off_from g (count n (point_of d p)) p)
            ≡ cond b (port_of A (pipe_through A p i) (place_on A p (pipe_through A p i))) (off_port A p i)
        go true e = port_is p hp e
        go false e = off_is

  -- the row of a pipe's ends
  module _ (j : ℕ) (hj : j < length (entries n s)) where
    abbrev e : V2
    e = entry_at d i j

    abbrev r : ℕ
    r = base d i + j

    abbrev p : ℕ
    p = row_index (space n) e

    there : point_of d p ≡ e
    there = number_point d (entry_inside laid i j h.lt hj)

    first_is : end_index g j ≡ index A (Sent r)
    first_is = end_at_lem j ∙ sym (sent_index d i j h.lt (omega arith))

    pub end_is : {start : ℕ} → start ≡ part_start A r → EndIs A r (end_from n s g start j p)
    end_is w =
        same_end first_is (port_index_lem p ∙ ap (index A) (sym (taken_entry laid i j h.lt hj)))
        (ap (λ (a : ℕ). a + 4) (port_index_lem p) ∙ omega arith ∙ ap (index A) (sym (link_entry laid i j h.lt hj 0)))
        (ap (λ (a : ℕ). a + 1) (port_index_lem (row_index (space n) (exit_of n s (point_of d p))))
        ∙ ap (λ (v : V2). index A (Given (row_index (space n) (exit_of n s v)) i)) there
        ∙ ap (index A) (sym (put_end_lem laid i j h.lt hj)))
        (ap (λ (a : ℕ). a + 1) first_is)
        (ap (λ (a : ℕ). a + 2) first_is ∙ omega arith ∙ ap (index A) (sym (link_end laid i j h.lt hj 0)))
        (h.hop ∙ sym (hop_on d i j h.lt hj)) (ap (λ (v : V2). length (pipe_elements n s v)) there ∙ sym (elements_on_lem d i j h.lt hj)) w
