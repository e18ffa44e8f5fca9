-- Sound states: the test says that the counters are sound and that the counts of processes on no pipe are 0. Every granted step keeps a
-- sound state sound, whether a start leads to it or not. Assumes nothing.
use Rattle.std.specs.Prelude.{◌≡◌, Bool, List, length}
use Rattle.std.proofs.Math.Path.{refl, ap, ap₂}
use Rattle.std.proofs.Common.{subst, le_refl, lt-ltb}
use Rattle.std.proofs.Math.Bool.{true, false}
use Prim.Native.Nat.{ℕ, zero, suc, ◌+◌, ◌≤◌, ◌<◌}
use native.Mathlib.Omega.{arith}
use Rattle.meaning.specs.Array.{Array, count_at, process_count, stream_count, pipe_number, pipe_at, stops_on, elements_on, stop_at}
use Rattle.meaning.specs.Array.{pipe_through}
use Rattle.meaning.specs.Array.{on_pipe}
use Rattle.meaning.specs.State.{Firings, Taken, Given, Sent, Received, word_count, read}
use Rattle.meaning.specs.Rules.{process_on, stream_on, put_in, taken_out, sound_link, sound_stop, sound_pipe, sound_port, sound_process}
use Rattle.meaning.specs.Rules.{sound}
use Rattle.meaning.specs.Rules.{Memory, ready, apply}
use Rattle.meaning.specs.declared.Step.{Step as RuleStep}
use Rattle.abstract_network.specs.Cases.{Order, less, at_least, order}
use Rattle.abstract_network.specs.Counters.{put, get, fire}
use Rattle.abstract_network.specs.Sound.{Balance, Sound}
use Rattle.abstract_network.proofs.Sound.{sound_step}
use Rattle.network.specs.Wiring.{kind_of, net_of, Wired, stop_pipe, has_port_lem, place_at}
use Rattle.network.specs.Slots.{sent, taken, given, fired, Has, slot_of, no_slot, view_none, counts_of}
use Rattle.network.specs.Decide.{Says, said, says_true, says_and, says_then, says_as, says_le, says_every, says_balance}
use Rattle.network.specs.Ready.{There, put_is, get_is, end_is, taken_is, given_is, fired_is, says_ready}
use Rattle.network.proofs.Links.{written_past}
use Rattle.network.proofs.Steps.{step_written, step_more}

module _ {A : Array} (W : Wired A) where
  -- the counts of a process and a stream are within the elements of its pipe, 0 without one; said of those without one
  unfoldable pub Port : List ℕ → ℕ → ℕ → Type 0
  Port st p s = (read A st (Taken p s) ≤ elements_on A (pipe_through A p s)) × (read A st (Given p s) ≤ elements_on A (pipe_through A p s))

  unfoldable pub Off : List ℕ → Type 0
  Off st = (p s : ℕ) → p < process_count A → s < stream_count A → on_pipe A p s ≡ false → Port st p s

  module _ (st : List ℕ) where
    Link : ℕ → ℕ → Type 0
    Link q k =
        (counts_of A st (get q k) ≤ counts_of A st (put q k)) × (counts_of A st (put q k) ≤ counts_of A st (get q k) + (pipe_at A q).hop)

    says_link : (q k : ℕ) → q < pipe_number A → k ≤ stops_on A q → Says (Link q k) (sound_link A st q k)
    unfolding Link
    says_link q k h l =
        let x = put_is A st q k h l in
        let y = get_is A st q k h l in
        says_as (λ p. (omega arith, omega arith)) (λ p. (omega arith, omega arith))
        (says_and (says_le (read A st (taken_out A q k)) (read A st (put_in A q k)))
        (says_le (read A st (put_in A q k)) (read A st (taken_out A q k) + (pipe_at A q).hop)))

    -- of all processes
    Process : ℕ → Type 0
    Process p = (counts_of A st (fire p) ≤ count_at A p) × ((s : ℕ) → s < stream_count A → Port st p s)

    says_process : (p : ℕ) → p < process_count A → Says (Process p) (sound_process A st p)
    unfolding Process Port
    says_process p h =
        let x = fired_is A st p h in
        says_and (says_as (λ l. omega arith) (λ l. omega arith) (says_le (read A st (Firings p)) (count_at A p)))
        (says_every (sound_port A st p) (stream_count A) (λ s l.
        says_and (says_le (read A st (Taken p s)) (elements_on A (pipe_through A p s)))
        (says_le (read A st (Given p s)) (elements_on A (pipe_through A p s)))))

    Processes : Type 0
    Processes = (p : ℕ) → p < process_count A → Process p

    -- so of all stops
    within : Processes → (q k : ℕ) → k < stops_on A q
        → (counts_of A st (get q k) ≤ elements_on A q) × (counts_of A st (put q (suc k)) ≤ elements_on A q)
    unfolding Processes Process Port
    within f q k l =
        let z = (f (process_on A q k) (W.process_lt q k l)).1 (stream_on A q) (W.stream_lt q (stop_pipe A q k l)) in
        let e = ap (elements_on A) (W.pipe_is q k l) in
        (omega (arith, z.0, e, taken_is A st q k l), omega (arith, z.1, e, given_is A st q k l))

    Stop : ℕ → ℕ → Type 0
    Stop q k = Balance (elements_on A q) (counts_of A st (get q k)) (counts_of A st (put q (suc k))) (kind_of (stop_at A q k).keeps)
        × Link q k

    says_stop : Processes → (q k : ℕ) → k < stops_on A q → Says (Stop q k) (sound_stop A st q k)
    unfolding Stop
    says_stop f q k l =
        let w = within f q k l in
        says_and
        (says_balance A (elements_on A q) 0 0 (counts_of A st (get q k)) (counts_of A st (put q (suc k))) 0
        (read A st (Taken (process_on A q k) (stream_on A q))) (read A st (Given (process_on A q k) (stream_on A q))) 0
        (taken_is A st q k l) (given_is A st q k l) refl (stop_at A q k).keeps w.0 w.1)
        (says_link q k (stop_pipe A q k l) (omega arith))

    Ends : ℕ → Type 0
    Ends q = (counts_of A st (put q 0) ≤ elements_on A q) × (counts_of A st (get q (stops_on A q)) ≤ elements_on A q)

    Stops : ℕ → Type 0
    Stops q = (k : ℕ) → k < stops_on A q → Stop q k

    says_pipe : Processes → (q : ℕ) → q < pipe_number A → Says ((Ends q × Stops q) × Link q (stops_on A q)) (sound_pipe A st q)
    unfolding Ends Stops
    says_pipe f q h =
        let x = put_is A st q 0 h (omega arith) in
        let y = end_is A st q h in
        says_and
        (says_and
        (says_as (λ p. (omega arith, omega arith)) (λ p. (omega arith, omega arith))
        (says_and (says_le (read A st (Sent q)) (elements_on A q)) (says_le (read A st (Received q)) (elements_on A q))))
        (says_every (sound_stop A st q) (stops_on A q) (says_stop f q)))
        (says_link q (stops_on A q) h (le_refl (stops_on A q)))

    -- counters of pipes that are not there
    no_put : (q k : ℕ) → pipe_number A ≤ q → counts_of A st (put q k) ≡ 0
    no_put q zero h = view_none A st (sent q) (λ l. omega arith)
    no_put q (suc k) h = view_none A st (given q k) (λ l. omega (arith, stop_pipe A q k l))

    no_get : (q k : ℕ) → pipe_number A ≤ q → counts_of A st (get q k) ≡ 0
    no_get q k h = view_none A st (taken q k) (λ l. omega arith)

    Pipes : Type 0
    Pipes = (q : ℕ) → q < pipe_number A → (Ends q × Stops q) × Link q (stops_on A q)

    sound_of_tests : Processes → Pipes → Sound (net_of A) (counts_of A st)
    unfolding Pipes Ends Stops Stop Link Process Processes
    sound_of_tests f w =
        record { fires = fires; puts = puts; gets = gets; link = link; balance = λ q k l. ((w q (stop_pipe A q k l)).0.1 k l).0 }
      where
        fires : (p : ℕ) → counts_of A st (fire p) ≤ count_at A p
        fires p = go (order p (process_count A))
          where
            go : Order p (process_count A) → counts_of A st (fire p) ≤ count_at A p
            go (less l) = (f p l).0
            go (at_least l) = omega (arith, view_none A st (fired p) (λ h. omega arith))

        puts : (q k : ℕ) → k ≤ stops_on A q → counts_of A st (put q k) ≤ elements_on A q
        puts q zero l = go (order q (pipe_number A))
          where
            go : Order q (pipe_number A) → counts_of A st (put q 0) ≤ elements_on A q
            go (less h) = (w q h).0.0.0
            go (at_least h) = omega (arith, no_put q 0 h)
        puts q (suc k) l = (within f q k l).1

        gets : (q k : ℕ) → k ≤ stops_on A q → counts_of A st (get q k) ≤ elements_on A q
        gets q k l = go (order q (pipe_number A)) (order k (stops_on A q))
          where
            go : Order q (pipe_number A) → Order k (stops_on A q) → counts_of A st (get q k) ≤ elements_on A q
            go (less h) (less m) = (within f q k m).0
            go (less h) (at_least m) =
                let e : stops_on A q ≡ k = omega arith in subst (λ (k : ℕ). counts_of A st (get q k) ≤ elements_on A q) e (w q h).0.0.1
            go (at_least h) m = omega (arith, no_get q k h)

        link : (q k : ℕ) → k ≤ stops_on A q
            → (counts_of A st (get q k) ≤ counts_of A st (put q k))
            × (counts_of A st (put q k) ≤ counts_of A st (get q k) + (pipe_at A q).hop)
        link q k l = go (order q (pipe_number A)) (order k (stops_on A q))
          where
            go : Order q (pipe_number A) → Order k (stops_on A q)
                → (counts_of A st (get q k) ≤ counts_of A st (put q k))
                × (counts_of A st (put q k) ≤ counts_of A st (get q k) + (pipe_at A q).hop)
            go (less h) (less m) = ((w q h).0.1 k m).1
            go (less h) (at_least m) =
                let e : stops_on A q ≡ k = omega arith in
                subst (λ (k : ℕ). (counts_of A st (get q k) ≤ counts_of A st (put q k)) ×
                (counts_of A st (put q k) ≤ counts_of A st (get q k) + (pipe_at A q).hop)) e (w q h).1
            go (at_least h) m = omega (arith, no_get q k h, no_put q k h)

    port_of_lem : Sound (net_of A) (counts_of A st) → Off st → (p s : ℕ) → p < process_count A → s < stream_count A → Port st p s
    unfolding Off Port
    port_of_lem S o p s h l = go (on_pipe A p s) refl
      where
        go : (b : Bool) → on_pipe A p s ≡ b → (read A st (Taken p s) ≤ elements_on A (pipe_through A p s)) ×
            (read A st (Given p s) ≤ elements_on A (pipe_through A p s))
        go false e = o p s h l e
        go true e =
            let z = has_port_lem A p s e in
            let x = ap₂ (λ (p s : ℕ). read A st (Taken p s)) z.process z.stream in
            let y = ap₂ (λ (p s : ℕ). read A st (Given p s)) z.process z.stream in
            let k : ℕ = place_at A p s in (
              omega (
                arith,
                x,
                taken_is A st (pipe_through A p s) (place_at A p s) z.place_lt,
                S.gets (pipe_through A p s) (place_at A p s)
                    (omega (arith, z.place_lt)),
              ),
              omega (
                arith,
                y,
                given_is A st (pipe_through A p s) (place_at A p s) z.place_lt,
                S.puts (pipe_through A p s) (suc (place_at A p s))
                    z.place_lt,
              ),
            )

    -- the test of a state
    pub says_sound : Says (Sound (net_of A) (counts_of A st) × Off st) (sound A st)
    unfolding sound Off Processes Process Pipes Ends Stops Stop Link
    says_sound =
        says_as (λ w. (sound_of_tests w.0 w.1, λ p s h l e. (w.0 p h).1 s l))
        (λ z. (
          λ p h. (z.0.fires p, λ s l. port_of_lem z.0 z.1 p s h l),
          λ q h. (
            (
              (z.0.puts q 0 (omega arith), z.0.gets q (stops_on A q) (le_refl (stops_on A q))),
              λ k l. (z.0.balance q k l, z.0.link q k (omega arith)),
            ),
            z.0.link q (stops_on A q) (le_refl (stops_on A q)),
          ),
        ))
        (says_then (says_every (sound_process A st) (process_count A) says_process)
        (λ f. says_every (sound_pipe A st) (pipe_number A) (says_pipe f)))

  -- the counts of a process on no pipe are no slot's words
  off_taken : (p s : ℕ) → on_pipe A p s ≡ false → Has A (slot_of A (Taken p s)) → ⊥
  off_taken p s e h =
      let t = lt-ltb (pipe_through A p s) (pipe_number A) h.0 in
      let n : ◌≡◌ {A = ℕ} 0 1 = cc in omega arith

  off_given : (p s : ℕ) → on_pipe A p s ≡ false → Has A (slot_of A (Given p s)) → ⊥
  off_given p s e h =
      let t = lt-ltb (pipe_through A p s) (pipe_number A) (stop_pipe A (pipe_through A p s) (place_at A p s) h) in
      let n : ◌≡◌ {A = ℕ} 0 1 = cc in omega arith

  -- every granted step keeps a sound state sound
  pub sound_kept : (M : Memory) (a : RuleStep) → word_count A ≤ length M.state → sound A M.state ≡ true → There A a
      → ready A M.state a ≡ true
      → sound A (apply A M a).state ≡ true
  unfolding Off Port
  sound_kept M a l e h r =
      let z = said (says_sound M.state) e in
      let g = said (says_ready A M.state W z.0 a h) r in
      let w = step_written W M l z.0 a h g in
      says_true (says_sound (apply A M a).state) (
        sound_step (net_of A) (step_more W M l z.0 a h g) z.0 g,
        λ p s i j d. (
          omega (arith, written_past W w (Taken p s) (i, j) (no_slot A W (Taken p s) (off_taken p s d)), (z.1 p s i j d).0),
          omega (arith, written_past W w (Given p s) (i, j) (no_slot A W (Given p s) (off_given p s d)), (z.1 p s i j d).1),
        ),
      )
