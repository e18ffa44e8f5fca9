-- The network of an array, and what geometry has to show of it (`Wired`): from that the records of the abstract network follow.
-- Assumes nothing.
use Rattle.std.specs.Prelude.{◌≡◌, Bool, true, false, cond, ◌&&◌, ◌⊎◌, ℕ, zero, suc, ◌+◌, ◌*◌, ◌≤◌, ◌<◌, eqb, length, get_or, take}
use Rattle.std.proofs.Math.Path.{refl}
use Rattle.std.proofs.Common.{sym, ◌∙◌, ap, ap₂, le_refl, arith, ltb-true, eqb-true}
use Rattle.std.proofs.Math.Logic.{inl, inr}
use Rattle.std.proofs.Math.ListN.{get_or-eq_default}
use Rattle.meaning.specs.Lists.{any, total, numbers}
use Rattle.meaning.specs.Array.{Array, Pipe, Stop, count_at, process_count, stream_count, pipe_number, no_pipe, no_stop, pipe_at, stops_on}
use Rattle.meaning.specs.Array.{elements_on, stop_at, is_stop, pipe_through, on_pipe, place_on}
use Rattle.meaning.specs.Rules.{process_on, stream_on}
use Rattle.lists.specs.Sums.{total_next}
use Rattle.lists.specs.Tests.{position_passes, any_position, both_true}
use Rattle.abstract_network.specs.Cases.{Order, less, at_least, order}
use Rattle.abstract_network.specs.Counters.{Kind, through, keep, Shape, room, some, Net}
use Rattle.abstract_network.specs.Ranks.{Next, level, rise, Ranked, rank_keep}
use Rattle.abstract_network.specs.Firing.{Lined}
use Rattle.abstract_network.specs.Due.{Laid}
use Rattle.abstract_network.specs.Due as Due
use Rattle.abstract_network.specs.Clock.{Rest, null, holds, Move, runs, Timing, none}
use Rattle.abstract_network.proofs.Clock.{clock}
use Rattle.abstract_network.specs.Clock as Clock
use Rattle.abstract_network.specs.Turns.{Before}

-- ---- the network

abbrev pub kind_of : Bool → Kind
kind_of true = keep
kind_of false = through

abbrev pub net_of : Array → Net
net_of A =
    record {
      stops = stops_on A;
      elements = elements_on A;
      hop = λ q. (pipe_at A q).hop;
      process = process_on A;
      kind = λ q k. kind_of (stop_at A q k).keeps;
      soak = λ q k. (stop_at A q k).soak;
      count = count_at A;
    }

-- the place of process p on its pipe of stream s, and whether it keeps an element there
abbrev pub place_at : Array → ℕ → ℕ → ℕ
place_at A p s = place_on A p (pipe_through A p s)

abbrev pub keeps_at : Array → ℕ → ℕ → Bool
keeps_at A p s = (stop_at A (pipe_through A p s) (place_at A p s)).keeps

-- how many of the stops before place k of pipe q keep an element
abbrev pub rank_at : Array → ℕ → ℕ → ℕ
rank_at A q k = total (λ t. cond t.keeps 1 0) (take k (pipe_at A q).stops)

-- the number of the j-th element of pipe q
abbrev pub element_at : Array → ℕ → ℕ → ℕ
element_at A q j = get_or (pipe_at A q).elements j 0

-- some line writes stream s
abbrev pub writes : Array → ℕ → Bool
writes A s = any (λ l. eqb l.target s) A.lines

-- the index on pipe q of the element that firing f of the process at place k uses: the one that it keeps, or the one after the soaked ones
-- and those of the firings before
abbrev pub used_index : Array → ℕ → ℕ → ℕ → ℕ
used_index A q k f = cond (stop_at A q k).keeps (rank_at A q k) ((stop_at A q k).soak + f)

-- firing f of process p uses the j-th element of pipe q
pub record UsedAt (A : Array) (p f q j : ℕ) : Type 0 where
  pub place : ℕ
  pub on : place < stops_on A q
  pub process : process_on A q place ≡ p
  pub index : used_index A q place f ≡ j

-- pipe q is that of a moving or of a stationary stream. Moving: no stop keeps, and there is a time of the pipe from which on its elements,
-- `pace` apart, reach each process a hop later than the one before: the m-th firing of a process is at the time of the element that it
-- uses. Stationary: its links have one place, as many stops keep as it has elements, the others compute nothing; all firings come after the
-- loading and before `late`
pub data Course (A : Array) (pace late : ℕ) (time : ℕ → ℕ → ℕ) (q : ℕ) : Type 0 where
  moving : (θ : ℕ) → 0 < (pipe_at A q).hop → ((k : ℕ) → k < stops_on A q → (stop_at A q k).keeps ≡ false)
      → ((k m : ℕ) → k < stops_on A q → m < count_at A (process_on A q k)
      → time (process_on A q k) m ≡ θ + suc k * (pipe_at A q).hop + ((stop_at A q k).soak + m) * pace)
      → Course A pace late time q
  stationary : (pipe_at A q).hop ≡ 1 → rank_at A q (stops_on A q) ≡ elements_on A q
      → ((k : ℕ) → k < stops_on A q → (stop_at A q k).keeps ≡ false → count_at A (process_on A q k) ≡ 0)
      → 2 * elements_on A q ≤ late
      → ((k m : ℕ) → k < stops_on A q → m < count_at A (process_on A q k)
      → (2 * stops_on A q + 2 * elements_on A q < 3 * time (process_on A q k) m) × (3 * time (process_on A q k) m + 1 < late))
      → Course A pace late time q

-- ---- what geometry has to show

pub record Wired (A : Array) : Type 0 where
  -- a pipe's stream is one of the streams, and its links have that stream's hop
  pub stream_lt : (q : ℕ) → q < pipe_number A → stream_on A q < stream_count A
  pub hop_is : (q : ℕ) → q < pipe_number A → get_or A.hops (stream_on A q) 0 ≡ (pipe_at A q).hop
  -- a stop's process is one of the processes; it stands on no other pipe of that stream, and once on this one
  pub process_lt : (q k : ℕ) → k < stops_on A q → process_on A q k < process_count A
  pub pipe_is : (q k : ℕ) → k < stops_on A q → pipe_through A (process_on A q k) (stream_on A q) ≡ q
  pub place_is : (q k : ℕ) → k < stops_on A q → place_on A (process_on A q k) q ≡ k
  -- a computing process is on a pipe of every stream
  pub on_all : (p s : ℕ) → 0 < count_at A p → s < stream_count A → on_pipe A p s ≡ true
  -- a pipe has an element, and there is a stream
  pub has_element : (q : ℕ) → q < pipe_number A → 0 < elements_on A q
  pub has_stream : 0 < stream_count A
  -- a stop that keeps nothing uses elements of its pipe only: soak and count are within the pipe's elements
  pub uses_within : (q k : ℕ) → k < stops_on A q → (stop_at A q k).keeps ≡ false
      → (stop_at A q k).soak + count_at A (process_on A q k) ≤ elements_on A q
  -- the times: of process p's firing f, its step counted so that none is negative; of the increment, which is positive; a time past all
  pub time : ℕ → ℕ → ℕ
  pub pace : ℕ
  pub late : ℕ
  pub pace_positive : 0 < pace
  pub time_rises : (p i j : ℕ) → i ≤ j → j < count_at A p → time p i ≤ time p j
  pub course : (q : ℕ) → q < pipe_number A → Course A pace late time q
  -- the instances by number in written order: which process fires each and as its how-manieth, and back; the counts add up to the instances
  pub instances : ℕ
  pub owner : ℕ → ℕ
  pub firing : ℕ → ℕ
  pub instance_of : ℕ → ℕ → ℕ
  pub instance_is : (p f : ℕ) → f < count_at A p
      → (instance_of p f < instances) × (owner (instance_of p f) ≡ p) × (firing (instance_of p f) ≡ f)
  pub instance_of_lem : (i : ℕ) → i < instances → (firing i < count_at A (owner i)) × (instance_of (owner i) (firing i) ≡ i)
  pub instances_add : total (count_at A) (numbers (process_count A)) ≡ instances
  -- the number of the element of stream s that instance i touches: the one that its process uses on its pipe of s
  pub touched : ℕ → ℕ → ℕ
  pub touch : (i q k : ℕ) → i < instances → k < stops_on A q → process_on A q k ≡ owner i
      → touched i (stream_on A q) ≡ element_at A q (used_index A q k (firing i))
  -- an instance touches no element of a pipe but those that its process uses there
  pub find : (i q j : ℕ) → i < instances → j < elements_on A q → touched i (stream_on A q) ≡ element_at A q j
      → UsedAt A (owner i) (firing i) q j
  -- of two instances that touch one element of a written stream the one before in written order comes to it before
  pub meets : (s : ℕ) → s < stream_count A → writes A s ≡ true
      → (i i' : ℕ) → i < i' → i' < instances → touched i s ≡ touched i' s → Before (net_of A) owner firing i i'

-- ---- pipes past the number of pipes have nothing on them

module _ (A : Array) where
  pub no_pipe_lem : (q : ℕ) → pipe_number A ≤ q → pipe_at A q ≡ no_pipe
  no_pipe_lem q h = get_or-eq_default A.pipes no_pipe h

  pub stop_pipe : (q k : ℕ) → k < stops_on A q → q < pipe_number A
  stop_pipe q k h = go (order q (pipe_number A))
    where
      go : Order q (pipe_number A) → q < pipe_number A
      go (less l) = l
      go (at_least l) = absurd (omega (arith, ap (λ (r : Pipe). length r.stops) (no_pipe_lem q l)))

  pub element_pipe : (q j : ℕ) → j < elements_on A q → q < pipe_number A
  element_pipe q j h = go (order q (pipe_number A))
    where
      go : Order q (pipe_number A) → q < pipe_number A
      go (less l) = l
      go (at_least l) = absurd (omega (arith, ap (λ (r : Pipe). length r.elements) (no_pipe_lem q l)))

  -- where a process on a pipe of stream s stands
  pub record HasPort (p s : ℕ) : Type 0 where
    pub stream : stream_on A (pipe_through A p s) ≡ s
    pub place_lt : place_at A p s < stops_on A (pipe_through A p s)
    pub process : process_on A (pipe_through A p s) (place_at A p s) ≡ p

  -- what the search for a process's pipe and place found
  pub has_port_lem : (p s : ℕ) → on_pipe A p s ≡ true → HasPort p s
  has_port_lem p s h =
      let l : pipe_through A p s < pipe_number A = ltb-true (pipe_through A p s) (pipe_number A) h in
      let b =
      both_true (eqb (stream_on A (pipe_through A p s)) s) (any (is_stop p) (pipe_at A (pipe_through A p s)).stops)
      (position_passes (λ (r : Pipe). eqb r.stream s && any (is_stop p) r.stops) no_pipe A.pipes l) in
      let k = any_position (is_stop p) (pipe_at A (pipe_through A p s)).stops b.1 in
      record {
        stream = eqb-true (stream_on A (pipe_through A p s)) s b.0;
        place_lt = k;
        process =
            eqb-true (process_on A (pipe_through A p s) (place_at A p s)) p
            (position_passes (is_stop p) no_stop (pipe_at A (pipe_through A p s)).stops k);
      }

-- ---- the records of the abstract network

pub through_is : (b : Bool) → kind_of b ≡ through → b ≡ false
through_is true e = absurd (let z : ◌≡◌ {A = ℕ} 0 1 = cc in omega arith)
through_is false e = refl

module _ {A : Array} (W : Wired A) where
  pub rank_start : (q : ℕ) → rank_at A q 0 ≡ 0
  unfolding total
  rank_start q = refl

  pub rank_next : (q k : ℕ) → k < stops_on A q → Next (rank_at A q k) (rank_at A q (suc k)) (kind_of (stop_at A q k).keeps)
  rank_next q k h =
      go (stop_at A q k).keeps (rank_at A q k) (rank_at A q (suc k))
      (total_next (λ (t : Stop). cond t.keeps 1 0) (pipe_at A q).stops k no_stop h)
    where
      go : (b : Bool) (r r' : ℕ) → r' ≡ r + cond b 1 0 → Next r r' (kind_of b)
      go true r r' e = rise (omega arith)
      go false r r' e = level (omega arith)

  -- no stop keeps: the rank is 0 everywhere
  rank_none : (q : ℕ) → ((k : ℕ) → k < stops_on A q → (stop_at A q k).keeps ≡ false) → (k : ℕ) → k ≤ stops_on A q → rank_at A q k ≡ 0
  rank_none q f zero h = rank_start q
  rank_none q f (suc k) h =
      total_next (λ (t : Stop). cond t.keeps 1 0) (pipe_at A q).stops k no_stop h
      ∙ ap₂ ◌+◌ (rank_none q f k (omega arith)) (ap (λ (b : Bool). cond b 1 0) (f k h))

  pub rank_end : (q : ℕ) → (rank_at A q (stops_on A q) ≡ 0) ⊎ (rank_at A q (stops_on A q) ≡ elements_on A q)
  unfolding total
  rank_end q = go (order q (pipe_number A))
    where
      of : Course A W.pace W.late W.time q → (rank_at A q (stops_on A q) ≡ 0) ⊎ (rank_at A q (stops_on A q) ≡ elements_on A q)
      of (moving θ h f g) = inl (rank_none q f (stops_on A q) (le_refl (stops_on A q)))
      of (stationary h e f l g) = inr e

      go : Order q (pipe_number A) → (rank_at A q (stops_on A q) ≡ 0) ⊎ (rank_at A q (stops_on A q) ≡ elements_on A q)
      go (less l) = of (W.course q l)
      go (at_least l) = inl (ap (λ (r : Pipe). total (λ t. cond t.keeps 1 0) (take (length r.stops) r.stops)) (no_pipe_lem A q l))

  -- a stop that computes and keeps nothing is on a moving pipe
  pub rank_moving : (q k : ℕ) → k < stops_on A q → kind_of (stop_at A q k).keeps ≡ through → 0 < count_at A (process_on A q k)
      → rank_at A q (stops_on A q) ≡ 0
  rank_moving q k h e c = go (W.course q (stop_pipe A q k h))
    where
      go : Course A W.pace W.late W.time q → rank_at A q (stops_on A q) ≡ 0
      go (moving θ z f g) = rank_none q f (stops_on A q) (le_refl (stops_on A q))
      go (stationary z r f l g) = absurd (omega (arith, f k h (through_is (stop_at A q k).keeps e)))

  abbrev pub ranked_of : Ranked (net_of A)
  ranked_of =
      record {
        rank = rank_at A;
        start = rank_start;
        next = rank_next;
        end = rank_end;
        some = λ q k h. W.has_element q (stop_pipe A q k h);
      }

  abbrev pub lined_of : Lined (net_of A) ranked_of
  lined_of =
      record {
        once = λ q k k' h h' e. sym (W.place_is q k h) ∙ ap (λ (p : ℕ). place_on A p q) e ∙ W.place_is q k' h';
        moves = rank_moving;
      }

  pub stands : (p s : ℕ) → 0 < count_at A p → s < stream_count A
      → (place_at A p s < stops_on A (pipe_through A p s)) × (process_on A (pipe_through A p s) (place_at A p s) ≡ p)
  stands p s h l = let z = has_port_lem A p s (W.on_all p s h l) in (z.place_lt, z.process)

  pub port_is : (q k : ℕ) → k < stops_on A q
      → (stream_on A q < stream_count A) × (pipe_through A (process_on A q k) (stream_on A q) ≡ q)
      × (place_at A (process_on A q k) (stream_on A q) ≡ k)
  port_is q k h = (
    W.stream_lt q (stop_pipe A q k h),
    W.pipe_is q k h,
    ap (λ (r : ℕ). place_on A (process_on A q k) r) (W.pipe_is q k h) ∙ W.place_is q k h,
  )

  pub shape : (q k : ℕ) → k < stops_on A q
      → Shape (elements_on A q) (stop_at A q k).soak (count_at A (process_on A q k)) (kind_of (stop_at A q k).keeps)
  shape q k h = go (stop_at A q k).keeps (W.has_element q (stop_pipe A q k h)) (W.uses_within q k h)
    where
      go : {n s t : ℕ} (b : Bool) → 0 < n → (b ≡ false → s + t ≤ n) → Shape n s t (kind_of b)
      go true h f = some h
      go false h f = room (f refl)

  abbrev pub laid_of : Laid (net_of A)
  laid_of =
      record {
        streams = stream_count A;
        pipe_through = pipe_through A;
        place_on = λ p s. place_at A p s;
        on = stands;
        stream_on = stream_on A;
        only = λ q k h c. port_is q k h;
        shapes = shape;
      }

  -- the due times
  timing_of : (q : ℕ) → Course A W.pace W.late W.time q → Timing (net_of A) W.pace W.late W.time q
  timing_of q (moving θ h f g) = Clock.moving θ h (λ k l. go (stop_at A q k).keeps (f k l) (g k) l)
    where
      go : {t s σ b n k : ℕ} {time : ℕ → ℕ} (c : Bool) → c ≡ false → ((m : ℕ) → k < n → m < t → time m ≡ b + (s + m) * σ) → k < n
          → Move t s σ b time (kind_of c)
      go true e f l = absurd (let z : ◌≡◌ {A = ℕ} 0 1 = cc in omega arith)
      go false e f l = runs (λ m o. f m l o)
  timing_of q (stationary h e f l g) =
      Clock.stationary (rank_at A q) h l
      (λ k o. go (stop_at A q k).keeps (f k o) (rank_next q k o) (λ i. (rank_keep (net_of A) ranked_of q k o i).1)) g
    where
      go : {n t r r' : ℕ} (c : Bool) → (c ≡ false → t ≡ 0) → Next r r' (kind_of c) → (kind_of c ≡ keep → r < n) → Rest n t r r' (kind_of c)
      go true f (rise d) k = holds d (k refl)
      go false f (level d) k = null (f refl) d

  pub clock_of : Due.Clock (net_of A)
  clock_of = clock (net_of A) W.pace W.late W.time W.pace_positive (λ q. go q (order q (pipe_number A))) W.time_rises
    where
      go : (q : ℕ) → Order q (pipe_number A) → Timing (net_of A) W.pace W.late W.time q
      go q (less l) = timing_of q (W.course q l)
      go q (at_least l) =
          none (ap (λ (r : Pipe). length r.elements) (no_pipe_lem A q l)) (ap (λ (r : Pipe). length r.stops) (no_pipe_lem A q l))
