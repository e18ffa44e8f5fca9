-- The links of a pipe by the words that count them and hold their places: before and after a process on it, at its entry and at its output
-- end. Assumes a description that is not refused.
use Rattle.std.specs.Prelude.{◌≡◌, refl, Bool, true, cond, ℕ, zero, suc, ◌+◌, ◌≤◌, ◌<◌, length, ℤ, pos, ◌-ℤ◌}
use Rattle.std.proofs.Common.{sym, ◌∙◌, ap, ap₂, subst, arith, lt-ltb, le-ltb}
use Rattle.integers.specs.Differences.{gaps}
use Rattle.integers.specs.Variables.{linear}
use Rattle.integers.specs.Vectors.{zero2, neg2, shift2}
use Rattle.integers.specs.declared.V2.{V2}
use Rattle.meaning.specs.declared.Nest.{Nest}
use Rattle.meaning.specs.declared.Stream.{Stream}
use Rattle.meaning.specs.declared.Description.{Description}
use Rattle.meaning.specs.Space.{row_index, space, processes}
use Rattle.meaning.specs.Streams.{move}
use Rattle.meaning.specs.Pipes.{reach, pipe, before, is_pipe, entries}
use Rattle.meaning.specs.Description.{streams_of}
use Rattle.meaning.specs.Array.{Stop, Array, array_of, stops_on, pipe_through, place_on}
use Rattle.meaning.specs.State.{Taken, Given, Place, Sent, Received, End}
use Rattle.meaning.specs.Rules.{process_on, stream_on, put_in, taken_out, link_place}
use Rattle.meaning.specs.Points.{Inside}
use Rattle.geometry.specs.Numbers.{neg_not, shift_turn}
use Rattle.geometry.specs.RowOrder.{row_at_lem, row_lt}
use Rattle.geometry.specs.Reach.{reach_in}
use Rattle.geometry.specs.Pipes.{Accepted}
use Rattle.geometry.specs.Positions.{pipe_length, pipe_at_lem, pipe_next}
use Rattle.geometry.specs.Elements.{entries_entry}
use Rattle.geometry.specs.Descriptions.{Laid}
use Rattle.geometry.specs.Wiring.{process_at}
use Rattle.geometry.proofs.Wiring.{wired}
use Rattle.geometry.specs.Arrays.{stream_at}
use Rattle.addresses.specs.Pipes.{base, entry_at, stream_on_lem, stops_on_lem}
use Rattle.addresses.specs.Through.{point_of, entry_number, pipe_index, entry_in, point_number, entry_lt, place_lt, process_at_lem}
use Rattle.addresses.specs.Ports.{stop_at_lem, at_port, length_is}

-- the points before and after a point of a stream's line, and the last one of the line that enters at a point
abbrev pub back_of : Nest → Stream → V2 → V2
back_of n s y = shift2 y (pos 1) (neg2 (move n s))

abbrev pub on_of : Nest → Stream → V2 → V2
on_of n s y = shift2 y (pos 1) (move n s)

abbrev pub exit_of : Nest → Stream → V2 → V2
exit_of n s y = shift2 y (pos (reach (space n) (move n s) y)) (move n s)

module _ {n : Nest} {s : Stream} (h : Accepted n s) {y : V2} (hy : Inside (space n) y) where
  pub back_inside : 0 < before n s y → Inside (space n) (back_of n s y)
  back_inside l = reach_in (space n) (neg_not h.goes) hy 1 (omega arith)

  pub on_inside : 0 < reach (space n) (move n s) y → Inside (space n) (on_of n s y)
  on_inside l = reach_in (space n) h.goes hy 1 (omega arith)

  pub last_inside : Inside (space n) (exit_of n s y)
  last_inside = reach_in (space n) h.goes hy (reach (space n) (move n s) y) (omega arith)

-- a point inside is that of the process with its number
pub number_lt : (d : Description) {y : V2} → Inside (space d.nest) y → row_index (space d.nest) y < length (processes d.nest)
number_lt d {y} hy = row_lt (space d.nest) y hy

pub number_point : (d : Description) {y : V2} → Inside (space d.nest) y → point_of d (row_index (space d.nest) y) ≡ y
number_point d {y} hy = row_at_lem (space d.nest) y zero2 hy

-- ---- place k of pipe base i + j

module _ (d : Description) (i j : ℕ) (hi : i < length (streams_of d)) (hj : j < length (entries d.nest (stream_at d i))) where
  abbrev m : Nest
  m = d.nest

  abbrev B : Array
  B = array_of d

  abbrev number : ℕ
  number = base d i + j

  abbrev point_at : ℕ → V2
  point_at k = process_at m (stream_at d i) (entry_at d i j) k

  module _ (k : ℕ) (l : k < length (pipe m (stream_at d i) (entry_at d i j))) where
    process_here : process_on B number k ≡ row_index (space m) (point_at k)
    process_here = ap (λ (t : Stop). t.process) (stop_at_lem d i j hi hj k l)

    stop_here : k < stops_on B number
    stop_here = subst (λ (c : ℕ). k < c) (sym (stops_on_lem d i j hi hj)) l

    pub given_at_lem : put_in B number (suc k) ≡ Given (row_index (space m) (point_at k)) i
    given_at_lem = ap₂ Given process_here (stream_on_lem d i j hi hj)

    pub taken_at : taken_out B number k ≡ Taken (row_index (space m) (point_at k)) i
    taken_at =
        ap (λ (b : Bool). cond b (Taken (process_on B number k) (stream_on B number)) (Received number))
        (lt-ltb k (stops_on B number) stop_here)
        ∙ ap₂ Taken process_here (stream_on_lem d i j hi hj)

    pub link_at : (x : ℕ) → link_place B number k x ≡ Place (row_index (space m) (point_at k)) i x
    link_at x =
        ap (λ (b : Bool). cond b (Place (process_on B number k) (stream_on B number) x) (End number x))
        (lt-ltb k (stops_on B number) stop_here)
        ∙ ap₂ (λ (a b : ℕ). Place a b x) process_here (stream_on_lem d i j hi hj)

  -- beyond the last one
  module _ (k : ℕ) (l : length (pipe m (stream_at d i) (entry_at d i j)) ≤ k) where
    no_stop : stops_on B number ≤ k
    no_stop = subst (λ (c : ℕ). c ≤ k) (sym (stops_on_lem d i j hi hj)) l

    pub taken_beyond : taken_out B number k ≡ Received number
    taken_beyond =
        ap (λ (b : Bool). cond b (Taken (process_on B number k) (stream_on B number)) (Received number))
        (le-ltb k (stops_on B number) no_stop)

    pub link_beyond : (x : ℕ) → link_place B number k x ≡ End number x
    link_beyond x =
        ap (λ (b : Bool). cond b (Place (process_on B number k) (stream_on B number) x) (End number x))
        (le-ltb k (stops_on B number) no_stop)

module _ {d : Description} (laid : Laid d) where
  abbrev n : Nest
  n = d.nest

  abbrev A : Array
  A = array_of d

  -- ---- the links before and after a process

  module _ (p i : ℕ) (hp : p < length (processes n)) (hi : i < length (streams_of d))
      (on : is_pipe n (stream_at d i) (point_of d p) ≡ true) where
    abbrev s : Stream
    s = stream_at d i

    abbrev y : V2
    y = point_of d p

    abbrev q : ℕ
    q = pipe_through A p i

    abbrev k : ℕ
    k = place_on A p q

    accepted : Accepted n s
    accepted = laid.stream i hi

    abbrev j : ℕ
    j = entry_number d p i

    j_lt : j < length (entries n s)
    j_lt = entry_lt laid p i hp hi on

    -- its own words
    own : row_index (space n) (process_at n s (entry_at d i j) (before n s y)) ≡ p
    own = ap (row_index (space n)) (process_at_lem laid p i hp hi on) ∙ point_number laid p hp

    -- into the link before it puts the input end or the process before it
    pub put_first : before n s y ≡ 0 → put_in A q k ≡ Sent q
    put_first z = at_port laid p i hp hi on (λ q k. put_in A q k ≡ Sent q) (ap (put_in A (pipe_index d p i)) z)

    pub put_given : 0 < before n s y → put_in A q k ≡ Given (row_index (space n) (back_of n s y)) i
    put_given l =
        at_port laid p i hp hi on (λ q k. put_in A q k ≡ Given (row_index (space n) (back_of n s y)) i) (go (before n s y) l refl)
      where
        go : (b : ℕ) → 0 < b → b ≡ before n s y → put_in A (pipe_index d p i) b ≡ Given (row_index (space n) (back_of n s y)) i
        go zero l e = absurd (omega arith)
        go (suc b) l e =
            let w : suc b < length (pipe n s (entry_at d i j)) = subst (λ (c : ℕ). c < length (pipe n s (entry_at d i j))) (sym e)
            (place_lt laid p i hp hi on) in
            given_at_lem d i j hi j_lt b (omega arith)
            ∙ ap (λ (v : V2). Given (row_index (space n) v) i)
            (shift_turn {p = process_at n s (entry_at d i j) b} (move n s) (pos 1)
            (sym (process_at_lem laid p i hp hi on) ∙ ap (process_at n s (entry_at d i j)) (sym e)
            ∙ pipe_next accepted (entry_at d i j) b zero2 w))

    -- out of the link after it takes the output end or the process after it
    next_lt : 0 < reach (space n) (move n s) y → suc (before n s y) < length (pipe n s (entry_at d i j))
    next_lt l = omega (arith, length_is laid p i hp hi on)

    next_is : 0 < reach (space n) (move n s) y → process_at n s (entry_at d i j) (suc (before n s y)) ≡ on_of n s y
    next_is l =
        pipe_next accepted (entry_at d i j) (before n s y) zero2 (next_lt l)
        ∙ ap (λ (v : V2). shift2 v (pos 1) (move n s)) (process_at_lem laid p i hp hi on)

    none_next : reach (space n) (move n s) y ≡ 0 → length (pipe n s (entry_at d i j)) ≤ suc (before n s y)
    none_next z = omega (arith, length_is laid p i hp hi on)

    pub taken_last : reach (space n) (move n s) y ≡ 0 → taken_out A q (suc k) ≡ Received q
    taken_last z =
        at_port laid p i hp hi on (λ q k. taken_out A q (suc k) ≡ Received q)
        (taken_beyond d i j hi j_lt (suc (before n s y)) (none_next z))

    pub taken_next : 0 < reach (space n) (move n s) y → taken_out A q (suc k) ≡ Taken (row_index (space n) (on_of n s y)) i
    taken_next l =
        at_port laid p i hp hi on (λ q k. taken_out A q (suc k) ≡ Taken (row_index (space n) (on_of n s y)) i)
        (taken_at d i j hi j_lt (suc (before n s y)) (next_lt l) ∙ ap (λ (v : V2). Taken (row_index (space n) v) i) (next_is l))

    pub link_last : reach (space n) (move n s) y ≡ 0 → (x : ℕ) → link_place A q (suc k) x ≡ End q x
    link_last z x =
        at_port laid p i hp hi on (λ q k. link_place A q (suc k) x ≡ End q x)
        (link_beyond d i j hi j_lt (suc (before n s y)) (none_next z) x)

    pub link_next : 0 < reach (space n) (move n s) y → (x : ℕ) → link_place A q (suc k) x ≡ Place (row_index (space n) (on_of n s y)) i x
    link_next l x =
        at_port laid p i hp hi on (λ q k. link_place A q (suc k) x ≡ Place (row_index (space n) (on_of n s y)) i x)
        (link_at d i j hi j_lt (suc (before n s y)) (next_lt l) x ∙ ap (λ (v : V2). Place (row_index (space n) v) i x) (next_is l))

  -- ---- the links at the ends of pipe base i + j

  module _ (i j : ℕ) (hi : i < length (streams_of d)) (hj : j < length (entries n (stream_at d i))) where
    abbrev lane : Stream
    lane = stream_at d i

    abbrev e : V2
    e = entry_at d i j

    abbrev r : ℕ
    r = base d i + j

    pub entry_inside : Inside (space n) e
    entry_inside = (entries_entry (laid.stream i hi) (entry_in laid i j hi hj)).inside

    some_stop : 0 < length (pipe n lane e)
    some_stop = ((wired (laid.stream i hi)).enters e (entry_in laid i j hi hj)).0

    entry_first : process_at n lane e 0 ≡ e
    entry_first = ((wired (laid.stream i hi)).enters e (entry_in laid i j hi hj)).1

    pub taken_entry : taken_out A r 0 ≡ Taken (row_index (space n) e) i
    taken_entry = taken_at d i j hi hj 0 some_stop ∙ ap (λ (v : V2). Taken (row_index (space n) v) i) entry_first

    pub link_entry : (x : ℕ) → link_place A r 0 x ≡ Place (row_index (space n) e) i x
    link_entry x = link_at d i j hi hj 0 some_stop x ∙ ap (λ (v : V2). Place (row_index (space n) v) i x) entry_first

    -- the last process
    pub entry_length : length (pipe n lane e) ≡ suc (reach (space n) (move n lane) e)
    entry_length = omega (arith, pipe_length (laid.stream i hi) e, (entries_entry (laid.stream i hi) (entry_in laid i j hi hj)).zero)

    last_is : process_at n lane e (reach (space n) (move n lane) e) ≡ exit_of n lane e
    last_is =
        pipe_at_lem (laid.stream i hi) e (reach (space n) (move n lane) e) zero2 (omega (arith, entry_length))
        ∙ ap (λ (b : ℕ). shift2 e (pos (reach (space n) (move n lane) e) -ℤ pos b) (move n lane))
        (entries_entry (laid.stream i hi) (entry_in laid i j hi hj)).zero
        ∙ ap (λ (w : ℤ). shift2 e w (move n lane)) (minus_zero (pos (reach (space n) (move n lane) e)))
      where
        minus_zero : (a : ℤ) → a -ℤ pos 0 ≡ a
        minus_zero = linear 0 1 _ λ p m. simp gaps (omega arith)

    pub put_end_lem : put_in A r (stops_on A r) ≡ Given (row_index (space n) (exit_of n lane e)) i
    put_end_lem =
        ap (put_in A r) (stops_on_lem d i j hi hj ∙ entry_length)
        ∙ given_at_lem d i j hi hj (reach (space n) (move n lane) e) (omega (arith, entry_length))
        ∙ ap (λ (v : V2). Given (row_index (space n) v) i) last_is

    pub link_end : (x : ℕ) → link_place A r (stops_on A r) x ≡ End r x
    link_end x = link_beyond d i j hi hj (stops_on A r) (omega (arith, stops_on_lem d i j hi hj)) x
