-- A process on the pipe of a stream, or a place of a pipe: the stop there, its stream, hop and elements, and the process's instances.
-- Assumes a description that is not refused.
use Rattle.std.specs.Prelude.{◌≡◌, true, ◌&&◌, ℕ, suc, ◌+◌, ◌<◌, length, get_or}
use Rattle.std.proofs.Common.{sym, ◌∙◌, ap, subst₂}
use mathlib.Core.List.{List, []}
use Rattle.integers.specs.Vectors.{zero3, zero2}
use Rattle.integers.specs.declared.V3.{V3}
use Rattle.integers.specs.declared.V2.{V2}
use Rattle.meaning.specs.declared.Nest.{Nest}
use Rattle.meaning.specs.declared.Stream.{Stream}
use Rattle.meaning.specs.declared.Description.{Description}
use Rattle.meaning.specs.Space.{space, processes, count, computing}
use Rattle.meaning.specs.Streams.{stationary, move, hop}
use Rattle.meaning.specs.Pipes.{reach, pipe, before, is_pipe, entries, pipe_elements}
use Rattle.meaning.specs.Description.{streams_of}
use Rattle.meaning.specs.Array.{runs, Stop, Pipe, row_soak, stop_of, Array, array_of, runs_of, count_at, instance_at, no_stop, pipe_at}
use Rattle.meaning.specs.Array.{elements_on}
use Rattle.meaning.specs.Array.{stop_at, pipe_through, place_on}
use Rattle.meaning.specs.Rules.{process_on, stream_on}
use Rattle.lists.specs.Members.{map_at}
use Rattle.geometry.specs.Processes.{run_at}
use Rattle.geometry.proofs.Firings.{runs_length, runs_at}
use Rattle.geometry.specs.Pipes.{same_elements}
use Rattle.geometry.specs.Positions.{pipe_length}
use Rattle.geometry.specs.Elements.{entry_pipe, entry_is, entry_same}
use Rattle.geometry.specs.Descriptions.{Laid}
use Rattle.geometry.specs.Wiring.{process_at}
use Rattle.geometry.specs.Arrays.{stream_at}
use Rattle.addresses.specs.Pipes.{base, entry_at, pipe_at_lem, stream_on_lem, hop_on, elements_on_lem}
use Rattle.addresses.specs.Through.{point_of, entry_number, pipe_index, point_inside, point_number, entry_lt, entry_is_at, place_lt}
use Rattle.addresses.specs.Through.{process_at_lem, through_is, place_through}

-- the stop at place k of pipe base i + j
pub stop_at_lem : (d : Description) (i j : ℕ) → i < length (streams_of d) → j < length (entries d.nest (stream_at d i)) → (k : ℕ)
    → k < length (pipe d.nest (stream_at d i) (entry_at d i j))
    → stop_at (array_of d) (base d i + j) k ≡ stop_of d.nest (stream_at d i) (process_at d.nest (stream_at d i) (entry_at d i j) k)
stop_at_lem d i j hi hj k l =
    let n = d.nest in
    let s = stream_at d i in
    ap (λ (r : Pipe). get_or r.stops k no_stop) (pipe_at_lem d i j hi hj)
    ∙ map_at (stop_of n s) (pipe n s (entry_at d i j)) k zero2 no_stop l

module _ {d : Description} (laid : Laid d) where
  abbrev n : Nest
  n = d.nest

  abbrev A : Array
  A = array_of d

  -- ---- a process's instances

  module _ (p : ℕ) (hp : p < length (processes n)) where
    runs_of_lem : runs_of A p ≡ runs n (point_of d p)
    unfolding array_of
    runs_of_lem = map_at (runs n) (processes n) p zero2 [] hp

    pub count_at_lem : count_at A p ≡ count n (point_of d p)
    count_at_lem = ap length runs_of_lem ∙ runs_length laid.layout (point_of d p)

    pub instance_at_lem : (f : ℕ) → f < count n (point_of d p) → instance_at A p f ≡ run_at n (point_of d p) f
    instance_at_lem f h = ap (λ (l : List V3). get_or l f zero3) runs_of_lem ∙ runs_at laid.layout (point_of d p) f zero3 h

  -- ---- a process on a pipe

  module _ (p i : ℕ) (hp : p < length (processes n)) (hi : i < length (streams_of d))
      (on : is_pipe n (stream_at d i) (point_of d p) ≡ true) where
    abbrev s : Stream
    s = stream_at d i

    abbrev y : V2
    y = point_of d p

    -- its pipe and its place there
    abbrev q : ℕ
    q = pipe_through A p i

    abbrev k : ℕ
    k = place_on A p q

    -- by the numbers that Through gives
    pub at_port : (P : ℕ → ℕ → Type 0) → P (pipe_index d p i) (before n s y) → P q k
    at_port P = subst₂ P (sym (through_is laid p i hp hi on)) (sym (place_through laid p i hp hi on))

    pub stop_is : stop_at A q k ≡ stop_of n s y
    stop_is =
        at_port (λ q k. stop_at A q k ≡ stop_of n s y)
        (stop_at_lem d i (entry_number d p i) hi (entry_lt laid p i hp hi on) (before n s y) (place_lt laid p i hp hi on)
        ∙ ap (stop_of n s) (process_at_lem laid p i hp hi on))

    pub process_on_lem : process_on A q k ≡ p
    process_on_lem = ap (λ (t : Stop). t.process) stop_is ∙ point_number laid p hp

    pub keeps_is : (stop_at A q k).keeps ≡ (stationary n s && computing n y)
    keeps_is = ap (λ (t : Stop). t.keeps) stop_is

    pub soak_is : (stop_at A q k).soak ≡ row_soak n s y
    soak_is = ap (λ (t : Stop). t.soak) stop_is

    pub stream_is : stream_on A q ≡ i
    stream_is = at_port (λ q k. stream_on A q ≡ i) (stream_on_lem d i (entry_number d p i) hi (entry_lt laid p i hp hi on))

    pub hop_is : (pipe_at A q).hop ≡ hop n s
    hop_is = at_port (λ q k. (pipe_at A q).hop ≡ hop n s) (hop_on d i (entry_number d p i) hi (entry_lt laid p i hp hi on))

    pub elements_is : elements_on A q ≡ length (pipe_elements n s y)
    elements_is =
        let h = laid.stream i hi in
        let hy = point_inside laid p hp in
        at_port (λ q k. elements_on A q ≡ length (pipe_elements n s y))
        (elements_on_lem d i (entry_number d p i) hi (entry_lt laid p i hp hi on)
        ∙ ap (λ (e : V2). length (pipe_elements n s e)) (entry_is_at laid p i hp hi on)
        ∙ ap length (same_elements h hy (entry_is h hy).inside (entry_pipe h y)))

    -- the processes before it, itself, and those after it
    pub length_is : length (pipe n s (entry_at d i (entry_number d p i))) ≡ before n s y + suc (reach (space n) (move n s) y)
    length_is =
        let h = laid.stream i hi in
        ap (λ (e : V2). length (pipe n s e)) (entry_is_at laid p i hp hi on)
        ∙ ap length (entry_same h (point_inside laid p hp)) ∙ pipe_length h y
