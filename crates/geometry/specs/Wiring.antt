-- What the network asks of the geometry for one stream: pipes by their entries, processes by their positions, elements by their indices,
-- firings by their numbers. Assumes an accepted stream.
use Rattle.std.specs.Prelude.{◌≡◌, refl, not, ◌&&◌, ℕ, suc, ◌+◌, ◌<◌, T, length, get_or, pos, ◌-ℤ◌}
use Rattle.std.proofs.Common.{sym, ◌∙◌, ap, subst, arith}
use mathlib.Core.List.Memᴰ.{head as here}
use mathlib.Core.List.Memᴰ.{tail as there}
use mathlib.Core.List.{List, Memᴰ as In}
use Rattle.std.proofs.Math.Seq.{take-length}
use Rattle.integers.specs.Vectors.{zero3, zero2, shift2, image}
use Rattle.integers.specs.declared.V3.{V3}
use Rattle.integers.specs.declared.V2.{V2}
use Rattle.meaning.specs.declared.Nest.{Nest}
use Rattle.meaning.specs.declared.Stream.{Stream}
use Rattle.meaning.specs.Lists.{filter, total}
use Rattle.meaning.specs.Loops.{instances, place_of}
use Rattle.meaning.specs.Space.{box_of, space, processes, count, first, computing}
use Rattle.meaning.specs.Streams.{line, stationary, move, hop, elements}
use Rattle.meaning.specs.Pipes.{pipe, before, is_pipe, is_entry, entries, pipe_elements, soak, drain}
use Rattle.meaning.specs.Points.{Within, Earlier, Inside}
use Rattle.lists.specs.Members.{filter_in, any_yes}
use Rattle.geometry.specs.Numbers.{and_right, zero_shift}
use Rattle.geometry.specs.Places.{ahead, get_d_in, get_d_ahead, ahead_get_d, rank, ahead_filter}
use Rattle.geometry.specs.Instances.{in_within, number_earlier}
use Rattle.geometry.specs.Boxes.{inside_points}
use Rattle.geometry.specs.Segments.{at_box, first_at}
use Rattle.geometry.specs.Processes.{RunAt, run_at, firing_of}
use Rattle.geometry.specs.Pipes.{Accepted, OnePipe, flip_pipe, join_pipe, in_space_lem, in_pipe, pipe_self, same_pipe, same_elements}
use Rattle.geometry.specs.Pipes.{still_element, touched_in, still_length}
use Rattle.geometry.specs.Positions.{pipe_distinct, before_is, pipe_length, pipe_at_lem, at_inside, at_pipe, before_at, pipe_next}
use Rattle.geometry.specs.Positions.{hop_positive}
use Rattle.geometry.specs.Clock.{Clock, clock_from}
use Rattle.geometry.specs.Elements.{entry_of, home_of, index_of, entry_pipe, entry_is, entry_same, one_entry, entries_entry, entry_in}
use Rattle.geometry.specs.Elements.{home_in, index_lt, element_home}

-- the process at position k of the pipe that enters at y, and its element of index j
abbrev pub process_at : Nest → Stream → V2 → ℕ → V2
process_at n s y k = get_or (pipe n s y) k zero2

abbrev pub element_at : Nest → Stream → V2 → ℕ → V2
element_at n s y j = get_or (pipe_elements n s y) j zero2

-- ---- any stream

pub record Wired (n : Nest) (s : Stream) : Type 0 where
  -- an entry stands at position 0 of its pipe, and the pipe has an element
  pub enters : (y : V2) → In y (entries n s) → (0 < length (pipe n s y)) × (process_at n s y 0 ≡ y) × (0 < length (pipe_elements n s y))
  -- the process at a position is in the process space, and its pipe and position are these
  pub back : (y : V2) (k : ℕ) → In y (entries n s) → k < length (pipe n s y)
      → Inside (space n) (process_at n s y k) × (entry_of n s (process_at n s y k) ≡ y) × (before n s (process_at n s y k) ≡ k)
  -- the next is a move on
  pub next : (y : V2) (k : ℕ) → In y (entries n s) → suc k < length (pipe n s y)
      → process_at n s y (suc k) ≡ shift2 (process_at n s y k) (pos 1) (move n s)
  -- a computing process is on a pipe
  pub on : (p : V2) → T (computing n p)
      → In (entry_of n s p) (entries n s) × (before n s p < length (pipe n s (entry_of n s p)))
      × (process_at n s (entry_of n s p) (before n s p) ≡ p)
  -- every link has a place
  pub places : 0 < hop n s
  -- every element of the stream is on one pipe at one index
  pub home : (e : V2) → In e (elements n s)
      → In (home_of n s e) (entries n s) × (index_of n s e < length (pipe_elements n s (home_of n s e)))
      × (element_at n s (home_of n s e) (index_of n s e) ≡ e)
  pub element : (y : V2) (j : ℕ) → In y (entries n s) → j < length (pipe_elements n s y)
      → In (element_at n s y j) (elements n s) × (home_of n s (element_at n s y j) ≡ y) × (index_of n s (element_at n s y j) ≡ j)
  -- pipes have as many elements as the stream
  pub total_elements : total (λ y. length (pipe_elements n s y)) (entries n s) ≡ length (elements n s)

-- ---- a moving stream: every process lets all elements through, and uses those from soak on

pub record Flowing (n : Nest) (s : Stream) : Type 0 where
  pub room : (p : V2) → T (computing n p) → soak n s p + count n p + drain n s p ≡ length (pipe_elements n s (entry_of n s p))
  -- firing i uses the element of index soak + i
  pub uses_element : (p : V2) (i : ℕ) → i < count n p → image s.map (run_at n p i) ≡ element_at n s (entry_of n s p) (soak n s p + i)
  -- and an instance that touches the element of index j is there
  pub touches_element : (x : V3) (y : V2) (j : ℕ) → Within n x → In y (entries n s) → j < length (pipe_elements n s y)
      → image s.map x ≡ element_at n s y j
      → (entry_of n s (place_of n x) ≡ y) × (soak n s (place_of n x) + firing_of n x ≡ j)
  -- one number θ of a pipe gives the step of every firing
  pub clocked : (y : V2) → In y (entries n s) → Clock n s y

-- ---- a stationary stream: every computing process keeps one element, by its rank on the pipe

pub record Keeping (n : Nest) (s : Stream) : Type 0 where
  pub ranked : (y : V2) (k : ℕ) → In y (entries n s) → k < length (pipe n s y) → T (computing n (process_at n s y k))
      → soak n s (process_at n s y k) ≡ rank (computing n) k (pipe n s y)
  pub all_ranks : (y : V2) → In y (entries n s) → rank (computing n) (length (pipe n s y)) (pipe n s y) ≡ length (pipe_elements n s y)
  -- before it and after it stand the other elements
  pub room_kept : (p : V2) → T (computing n p) → soak n s p + 1 + drain n s p ≡ length (pipe_elements n s (entry_of n s p))
  -- all firings use it
  pub keeps_element : (p : V2) (i : ℕ) → i < count n p → image s.map (run_at n p i) ≡ element_at n s (entry_of n s p) (soak n s p)
  pub touches_kept : (x : V3) (y : V2) (j : ℕ) → Within n x → In y (entries n s) → j < length (pipe_elements n s y)
      → image s.map x ≡ element_at n s y j
      → (entry_of n s (place_of n x) ≡ y) × (soak n s (place_of n x) ≡ j)

-- ---- a written stream: of two instances that touch one element, by their numbers in the written order, the earlier is earlier on the
-- network

pub record Meeting (n : Nest) (s : Stream) : Type 0 where
  pub meets_flowing : T (not (stationary n s)) → (i i' : ℕ) → i < i' → i' < length (instances n)
      → image s.map (get_or (instances n) i zero3) ≡ image s.map (get_or (instances n) i' zero3)
      → before n s (place_of n (get_or (instances n) i zero3)) < before n s (place_of n (get_or (instances n) i' zero3))
  pub meets_kept : T (stationary n s) → (i i' : ℕ) → i < i' → i' < length (instances n)
      → image s.map (get_or (instances n) i zero3) ≡ image s.map (get_or (instances n) i' zero3)
      → (place_of n (get_or (instances n) i zero3) ≡ place_of n (get_or (instances n) i' zero3))
      × (firing_of n (get_or (instances n) i zero3) < firing_of n (get_or (instances n) i' zero3))

module _ {n : Nest} {s : Stream} (h : Accepted n s) where
  -- the entry of whatever is on the pipe
  pub entry_back : {y p : V2} → In y (entries n s) → Inside (space n) p → OnePipe n s y p → entry_of n s p ≡ y
  entry_back {y} {p} i hp o = one_entry h (entry_is h hp) (entries_entry h i) (join_pipe (flip_pipe (entry_pipe h p)) (flip_pipe o))
