-- The port table of an accepted description's array: its rows' words lie in every state that is long enough, and its pipes' parts in the
-- lists. Assumes nothing.
use Rattle.std.specs.Prelude.{◌≡◌, refl, Bool, true, false, cond, List, ℕ, ◌+◌, ◌≤◌, ◌<◌, ltb, length}
use Rattle.std.proofs.Common.{sym, ◌∙◌, subst, arith, lt-ltb}
use Rattle.integers.specs.declared.V2.{V2}
use Rattle.meaning.specs.declared.Nest.{Nest}
use Rattle.meaning.specs.declared.Stream.{Stream}
use Rattle.meaning.specs.declared.Description.{Description}
use Rattle.meaning.specs.Limits.{gauge_limits}
use Rattle.meaning.specs.Space.{computing}
use Rattle.meaning.specs.Pipes.{uses, pipe_elements, soak}
use Rattle.meaning.specs.Description.{description_of, streams_of}
use Rattle.meaning.specs.Array.{row_soak, Array, array_of, process_count, stream_count, pipe_number, elements_on, stop_at, on_pipe}
use Rattle.meaning.specs.State.{word_count}
use Rattle.meaning.specs.Accept.{refusal_of}
use Rattle.meaning.specs.Calls.{length_of, state_length}
use Rattle.lists.specs.Tests.{position_most}
use Rattle.geometry.specs.Descriptions.{Laid, laid}
use Rattle.geometry.specs.Arrays.{stream_at}
use Rattle.guarantee.proofs.Wired.{wired}
use Rattle.addresses.specs.Through.{point_of, on_is}
use Rattle.addresses.specs.Ports.{soak_is, elements_is}
use Rattle.addresses.specs.Indices.{stream_count_lem, word_count_lem}
use Rattle.figures.specs.Shares.{described}
use Rattle.ports.specs.declared.Port.{Port}
use Rattle.ports.specs.declared.End.{End}
use Rattle.ports.specs.Ports.{port_of, PortFits}
use Rattle.ports.specs.Ends.{end_of, EndFits}
use Rattle.ports.specs.Places.{pipe, place, pipe_on}
use Rattle.ports.specs.Layout.{end_fits}
use Rattle.ports.specs.Rows.{off_port, row_of, row_fits}
use Rattle.port_table.specs.PortsOf.{port_at, end_at, PortsOf, RowsFit, PartsFit}
use Rattle.port_fits.specs.Instances.{process_lt, count_most}
use Rattle.port_fits.specs.Sizes.{size_of, regular, few_streams, size_of_lem, pipes_most_lem, words_few, part_inside, elements_few}

-- a process soaks elements of its pipe
soak_most : (n : Nest) (t : Stream) (y : V2) → row_soak n t y ≤ length (pipe_elements n t y)
soak_most n t y = go (computing n y)
  where
    go : (b : Bool) → cond b (soak n t y) (length (pipe_elements n t y)) ≤ length (pipe_elements n t y)
    go true = position_most (uses n t y) (pipe_elements n t y)
    go false = omega arith

module _ (s : List ℕ) (ok : refusal_of gauge_limits s ≡ 0) where
  abbrev d : Description
  d = description_of s

  abbrev A : Array
  A = array_of d

  layout : Laid d
  layout = laid gauge_limits s ok

  -- ---- the rows of the array

  module _ (p i : ℕ) (hp : p < process_count A) (hi : i < stream_count A) where
    soak_few : on_pipe A p i ≡ true → (stop_at A (pipe A p i) (place A p i)).soak < 4294967296
    soak_few e =
        let lp = process_lt s ok p hp in
        let li : i < length (streams_of d) = omega (arith, stream_count_lem d) in
        let on = sym (on_is layout p i lp li) ∙ e in
        omega (
          arith,
          soak_is layout p i lp li on,
          soak_most d.nest (stream_at d i) (point_of d p),
          elements_is layout p i lp li on,
          elements_few s ok (pipe A p i) (pipe_on A p i e),
        )

    row_inside : (n : ℕ) → word_count A ≤ n → PortFits n (row_of A p i)
    row_inside n w = row_fits A (regular s ok) n w p i hp hi (omega (arith, count_most s ok p hp)) soak_few

    row_small : (row_of A p i).at + 4 ≤ 4294967296
    row_small = omega (arith, (row_inside (word_count A) (omega arith)).block, words_few s ok)

    -- a row has elements exactly on a pipe
    pub on_total : on_pipe A p i ≡ ltb 0 (row_of A p i).total
    on_total = go (on_pipe A p i) refl
      where
        go : (b : Bool) → on_pipe A p i ≡ b → b ≡ ltb 0 (cond b (port_of A (pipe A p i) (place A p i)) (off_port A p i)).total
        go true e = sym (lt-ltb 0 (elements_on A (pipe A p i)) ((wired gauge_limits s ok).has_element (pipe A p i) (pipe_on A p i e)))
        go false e = refl

  end_inside : (q n : ℕ) → q < pipe_number A → word_count A ≤ n → EndFits n (end_of A q)
  end_inside q n h w = end_fits A (regular s ok) q h n w (omega (arith, elements_few s ok q h))

  -- ---- those of its port table

  module _ {b : List ℕ} where
    port_row_lem : PortsOf A b → (P : Port → Type 0) → ((p i : ℕ) → p < process_count A → i < stream_count A → P (row_of A p i))
        → (p i : ℕ) → p < (size_of d).processes → i < (size_of d).streams → P (port_at b p i)
    port_row_lem ports P f p i hp hi =
        let z = size_of_lem s ok in
        let lp : p < process_count A = omega (arith, z.processes) in
        let li : i < stream_count A = omega (arith, z.streams) in
        subst P (sym (ports.ports p i lp li)) (f p i lp li)

    end_row : PortsOf A b → (P : End → Type 0) → (q : ℕ) → (q < pipe_number A → P (end_of A q)) → q < (size_of d).pipes → P (end_at b q)
    end_row ports P q f h = let l : q < pipe_number A = omega (arith, (size_of_lem s ok).pipes) in subst P (sym (ports.ends q l)) (f l)

    pub rows_fit : (n : ℕ) → PortsOf A b → state_length d ≤ n → RowsFit n b (size_of d)
    rows_fit n ports h =
        let w : word_count A ≤ n = omega (arith, word_count_lem d) in
        record {
          words = ports.words;
          processes = (described s ok).processes;
          some = (size_of_lem s ok).some;
          streams = few_streams s ok;
          pipes = pipes_most_lem s ok;
          ports = port_row_lem ports (PortFits n) (λ p i hp hi. row_inside p i hp hi n w);
          small = port_row_lem ports (λ (k : Port). k.at + 4 ≤ 4294967296) row_small;
          ends = λ q l. end_row ports (EndFits n) q (λ m. end_inside q n m w) l;
        }

    pub parts_fit : PortsOf A b → PartsFit (length_of d) b (size_of d)
    parts_fit ports q l = end_row ports (λ (r : End). r.offset + r.total ≤ length_of d) q (part_inside s ok q) l
