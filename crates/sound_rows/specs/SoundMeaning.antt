-- A state is sound where the code says so of every row; and what that says of a pipe's links: each is filled no further than its places,
-- and no more was put in than the pipe has elements. Assumes nothing.
use Rattle.std.specs.Prelude.{◌≡◌, refl, Bool, true, false, cond, ◌&&◌, ◌||◌, ◌⊎◌, List, ℕ, zero, suc, ◌+◌, ◌-◌, ◌≤◌, ◌<◌, eqb, leb, length}
use Rattle.std.proofs.Common.{sym, ◌∙◌, ap, true≢false, inl, inr, eq-or-lt_of_le, add-one, arith, eqb-true, leb-true, leb-false, ltb-false}
use Rattle.std.proofs.Common.{lt-ltb, le-ltb, le-leb}
use Rattle.std.proofs.Math.ListN.{get_or-eq_default}
use Rattle.std.proofs.lemmas.Bool.{lt-leb}
use Rattle.meaning.specs.Lists.{every, numbers}
use Rattle.meaning.specs.Array.{Array, Pipe, no_pipe, stops_on, stop_at, elements_on, process_count, stream_count, pipe_number}
use Rattle.meaning.specs.Array.{pipe_through}
use Rattle.meaning.specs.Array.{on_pipe}
use Rattle.meaning.specs.State.{Firings, Taken, Given, Sent, Received, read}
use Rattle.meaning.specs.Rules.{process_on, stream_on, put_in, taken_out, sound_count, sound_hand, sound_link, sound_stop, sound_pipe}
use Rattle.meaning.specs.Rules.{sound_port}
use Rattle.meaning.specs.Rules.{sound_process, sound}
use Rattle.ports.specs.Ports.{port_of}
use Rattle.ports.specs.Ends.{end_of}
use Rattle.lists.specs.Tests.{both_true, true_both}
use Rattle.lists.specs.Rows.{every_number, all_numbers}
use Rattle.sound_rows.specs.Sound.{link_holds, hand_holds, port_holds, port_sound, end_holds, end_sound}
use Rattle.ports.specs.Places.{pipe, place, pipe_on, place_on_lem, stream_is, process_is}
use Rattle.ports.specs.LinksMeaning.{Bounded}

-- ---- tests

-- no more is given than was taken
module _ (A : Array) (n x y : ℕ) where
  one_more : (eqb x y || eqb x (suc y)) ≡ true → y ≤ x
  one_more = go (eqb x y) (eqb x (suc y)) refl refl
    where
      go : (a b : Bool) → eqb x y ≡ a → eqb x (suc y) ≡ b → (a || b) ≡ true → y ≤ x
      go true b e f h = omega (arith, eqb-true x y e)
      go false true e f h = omega (arith, eqb-true x (suc y) f)
      go false false e f h = absurd (true≢false (sym h))

  hand_le : (keeps : Bool) → sound_hand A keeps n x y ≡ true → y ≤ x
  hand_le false h = one_more h
  hand_le true h = go (eqb x 0) (eqb y n) (eqb x (suc y)) (eqb x (suc (suc y))) refl refl refl refl h
    where
      go : (a b c d : Bool) → eqb x 0 ≡ a → eqb y n ≡ b → eqb x (suc y) ≡ c → eqb x (suc (suc y)) ≡ d
          → cond a (eqb y 0) (cond b (eqb x n) (c || d)) ≡ true → y ≤ x
      go true b c d e f g i h = omega (arith, eqb-true y 0 h)
      go false true c d e f g i h = omega (arith, eqb-true y n f, eqb-true x n h)
      go false false true d e f g i h = omega (arith, eqb-true x (suc y) g)
      go false false false true e f g i h = omega (arith, eqb-true x (suc (suc y)) i)
      go false false false false e f g i h = absurd (true≢false (sym h))

-- ---- the tests of the code

link_is : (put got hop : ℕ) → link_holds put got hop ≡ (leb got put && leb put (got + hop))
unfolding link_holds
link_is put got hop = go (leb got put) (leb (put - got) hop) refl refl
  where
    go : (a b : Bool) → leb got put ≡ a → leb (put - got) hop ≡ b → (a && b) ≡ (a && leb put (got + hop))
    go false b e f = refl
    go true true e f = sym (le-leb put (got + hop) (omega (arith, leb-true (put - got) hop f)))
    go true false e f = sym (lt-leb put (got + hop) (omega (arith, leb-false (put - got) hop f)))

hand_is : (A : Array) (keeps : Bool) (n x y : ℕ) → hand_holds keeps n x y ≡ sound_hand A keeps n x y
unfolding hand_holds
hand_is A keeps n x y = let e : y + 2 ≡ suc (suc y) = omega arith in rw (add-one y, e)

module _ (A : Array) (st : List ℕ) (q : ℕ) where
  -- taken and given at place k
  abbrev taken_at : ℕ → ℕ
  taken_at k = read A st (Taken (process_on A q k) (stream_on A q))

  abbrev given_at : ℕ → ℕ
  given_at k = read A st (Given (process_on A q k) (stream_on A q))

  -- their tests, and those of the pipe's ends
  abbrev counts_at : ℕ → Bool
  counts_at k = leb (taken_at k) (elements_on A q) && leb (given_at k) (elements_on A q)

  abbrev hand_at : ℕ → Bool
  hand_at k = sound_hand A (stop_at A q k).keeps (elements_on A q) (taken_at k) (given_at k)

  abbrev counts : Bool
  counts = sound_count A st (Sent q) && sound_count A st (Received q)

  abbrev stops : Bool
  stops = every (sound_stop A st q) (numbers (stops_on A q))

  port_is : (k : ℕ) → k < stops_on A q → port_sound st (port_of A q k) ≡ (counts_at k && hand_at k && sound_link A st q k)
  unfolding port_holds
  port_is k on = rw (lt-ltb k (stops_on A q) on, hand_is A, link_is)

  end_is : end_sound st (end_of A q) ≡ (counts && sound_link A st q (stops_on A q))
  unfolding end_holds
  end_is = rw (le-ltb (stops_on A q) (stops_on A q) (omega arith), link_is)

-- ---- a pipe of a sound state

module _ (A : Array) (st : List ℕ) (s : sound A st ≡ true) where
  abbrev processes : Bool
  processes = every (sound_process A st) (numbers (process_count A))

  abbrev pipes : Bool
  pipes = every (sound_pipe A st) (numbers (pipe_number A))

  module _ (q : ℕ) (on : q < pipe_number A) where
    pipe_sound_lem : ((counts A st q && stops A st q) ≡ true) × (sound_link A st q (stops_on A q) ≡ true)
    unfolding sound
    pipe_sound_lem =
        both_true (counts A st q && stops A st q) (sound_link A st q (stops_on A q))
        (every_number (sound_pipe A st) (pipe_number A) (both_true processes pipes s).1 q on)

    counts_sound : (counts A st q ≡ true) × (stops A st q ≡ true)
    counts_sound = both_true (counts A st q) (stops A st q) pipe_sound_lem.0

    stop_sound : (k : ℕ) → k < stops_on A q → (hand_at A st q k ≡ true) × (sound_link A st q k ≡ true)
    stop_sound k h =
        both_true (hand_at A st q k) (sound_link A st q k) (every_number (sound_stop A st q) (stops_on A q) counts_sound.1 k h)

    link_sound : (k : ℕ) → k ≤ stops_on A q → sound_link A st q k ≡ true
    link_sound k h = go (eq-or-lt_of_le h)
      where
        go : (k ≡ stops_on A q) ⊎ (k < stops_on A q) → sound_link A st q k ≡ true
        go (inl e) = rw e pipe_sound_lem.1
        go (inr l) = (stop_sound k l).1

    pub sound_bounded : (k : ℕ) → k ≤ stops_on A q → Bounded A st q k
    sound_bounded k h = leb-true _ _ (both_true (leb (read A st (taken_out A q k)) (read A st (put_in A q k))) _ (link_sound k h)).1

    -- no more is given than was taken, and no more taken than was put in
    hand_most : (k : ℕ) → k < stops_on A q → (given_at A st q k ≤ taken_at A st q k) × (taken_at A st q k ≤ read A st (put_in A q k))
    hand_most k h =
        let e = lt-ltb k (stops_on A q) h in
        let link : leb (read A st (taken_out A q k)) (read A st (put_in A q k)) ≡ true = (both_true _ _ (link_sound k (omega arith))).0 in
        (hand_le A (elements_on A q) _ _ (stop_at A q k).keeps (stop_sound k h).0, leb-true _ _ (rw e at link))

    pub sound_put : (k : ℕ) → k ≤ stops_on A q → read A st (put_in A q k) ≤ elements_on A q
    sound_put zero h = leb-true _ _ (both_true (sound_count A st (Sent q)) _ counts_sound.0).0
    sound_put (suc k) h = omega (arith, hand_most k h, sound_put k (omega arith))

-- ---- row by row

-- every process, every place of a pipe and every pipe is sound by its row, and nothing was taken or given off the pipes
pub record RowsSound (A : Array) (st : List ℕ) : Type 0 where
  pub firings : (p : ℕ) → p < process_count A → sound_count A st (Firings p) ≡ true
  pub ports : (q k : ℕ) → q < pipe_number A → k < stops_on A q → port_sound st (port_of A q k) ≡ true
  pub ends : (q : ℕ) → q < pipe_number A → end_sound st (end_of A q) ≡ true
  pub off : (p i : ℕ) → p < process_count A → i < stream_count A → on_pipe A p i ≡ false
      → (read A st (Taken p i) ≡ 0) × (read A st (Given p i) ≡ 0)

module _ (A : Array) (st : List ℕ) (s : sound A st ≡ true) where
  process_sound_lem : (p : ℕ) → p < process_count A
      → (sound_count A st (Firings p) ≡ true) × (every (sound_port A st p) (numbers (stream_count A)) ≡ true)
  unfolding sound
  process_sound_lem p h =
      both_true (sound_count A st (Firings p)) (every (sound_port A st p) (numbers (stream_count A)))
      (every_number (sound_process A st) (process_count A) (both_true (processes A st s) (pipes A st s) s).0 p h)

  -- off the pipes there are no elements
  off_sound : (p i : ℕ) → p < process_count A → i < stream_count A → on_pipe A p i ≡ false
      → (read A st (Taken p i) ≡ 0) × (read A st (Given p i) ≡ 0)
  off_sound p i h l o =
      let w = both_true (sound_count A st (Taken p i)) (sound_count A st (Given p i))
      (every_number (sound_port A st p) (stream_count A) (process_sound_lem p h).1 i l) in
      let n = elements_on A (pipe_through A p i) in
      let e : n ≡ 0 = ap (λ (r : Pipe). length r.elements) (get_or-eq_default A.pipes no_pipe (ltb-false _ _ o)) in
      (omega (arith, leb-true (read A st (Taken p i)) n w.0), omega (arith, leb-true (read A st (Given p i)) n w.1))

  port_sound_lem : (q k : ℕ) → q < pipe_number A → k < stops_on A q → port_sound st (port_of A q k) ≡ true
  port_sound_lem q k on h =
      let m = hand_most A st s q on k h in
      let n = sound_put A st s q on k (omega arith) in
      let w = stop_sound A st s q on k h in
      let x = le-leb (taken_at A st q k) (elements_on A q) (omega arith) in
      let y = le-leb (given_at A st q k) (elements_on A q) (omega arith) in
      port_is A st q k h ∙ true_both (true_both (true_both x y) w.0) w.1

  pub sound_rows : RowsSound A st
  sound_rows =
      record {
        firings = λ p h. (process_sound_lem p h).0;
        ports = port_sound_lem;
        ends = λ q on. end_is A st q ∙ true_both (counts_sound A st s q on).0 (pipe_sound_lem A st s q on).1;
        off = off_sound;
      }

module _ (A : Array) (st : List ℕ) (r : RowsSound A st) where
  row_tests : (q k : ℕ) → q < pipe_number A → k < stops_on A q
      → ((counts_at A st q k && hand_at A st q k) ≡ true) × (sound_link A st q k ≡ true)
  row_tests q k on h =
      both_true (counts_at A st q k && hand_at A st q k) (sound_link A st q k) (sym (port_is A st q k h) ∙ r.ports q k on h)

  hand_tests : (q k : ℕ) → q < pipe_number A → k < stops_on A q → (counts_at A st q k ≡ true) × (hand_at A st q k ≡ true)
  hand_tests q k on h = both_true (counts_at A st q k) (hand_at A st q k) (row_tests q k on h).0

  port_tested : (p i : ℕ) → p < process_count A → i < stream_count A → (b : Bool) → on_pipe A p i ≡ b → sound_port A st p i ≡ true
  port_tested p i h l true e =
      rw (process_is A p i e, stream_is A p i e) at (hand_tests (pipe A p i) (place A p i) (pipe_on A p i e) (place_on_lem A p i e)).0
  port_tested p i h l false e =
      let z = r.off p i h l e in
      let n = elements_on A (pipe_through A p i) in
      true_both (le-leb (read A st (Taken p i)) n (omega (arith, z.0))) (le-leb (read A st (Given p i)) n (omega (arith, z.1)))

  stop_tested : (q : ℕ) → q < pipe_number A → (k : ℕ) → k < stops_on A q → sound_stop A st q k ≡ true
  stop_tested q on k h = true_both (hand_tests q k on h).1 (row_tests q k on h).1

  pipe_tested : (q : ℕ) → q < pipe_number A → sound_pipe A st q ≡ true
  pipe_tested q on =
      let w = both_true (counts A st q) (sound_link A st q (stops_on A q)) (sym (end_is A st q) ∙ r.ends q on) in
      true_both (true_both w.0 (all_numbers (sound_stop A st q) (stops_on A q) (stop_tested q on))) w.1

  process_tested : (p : ℕ) → p < process_count A → sound_process A st p ≡ true
  process_tested p h =
      true_both (r.firings p h) (all_numbers (sound_port A st p) (stream_count A) (λ i l. port_tested p i h l (on_pipe A p i) refl))

  pub rows_sound : sound A st ≡ true
  unfolding sound
  rows_sound =
      true_both (all_numbers (sound_process A st) (process_count A) process_tested)
      (all_numbers (sound_pipe A st) (pipe_number A) pipe_tested)
