-- A step of the array is ready in a sound state exactly if the abstract network may grant it. Assumes nothing.
use Rattle.std.specs.Prelude.{◌≡◌, Bool, true, ◌&&◌, ◌↔◌, List, ltb}
use Rattle.std.proofs.Math.Path.{refl, ap}
use Rattle.std.proofs.Common.{sym, ◌∙◌, ap₂, subst, subst₂, le_refl, lt-ltb, le-ltb}
use Prim.Native.Nat.{ℕ, zero, suc, ◌+◌, ◌≤◌, ◌<◌}
use native.Mathlib.Omega.{arith}
use Rattle.meaning.specs.Lists.{every, numbers}
use Rattle.meaning.specs.Array.{Array, count_at, process_count, stream_count, pipe_number, pipe_at, stops_on, elements_on, stop_at}
use Rattle.meaning.specs.Array.{pipe_through}
use Rattle.meaning.specs.Array.{on_pipe}
use Rattle.meaning.specs.State.{Received, Firings, Taken, Given, Sent, read}
use Rattle.meaning.specs.Rules.{process_on, stream_on, put_in, taken_out, fill, has_room, ready_to_take, ready_to_use, ready_to_fire}
use Rattle.meaning.specs.Rules.{ready_to_give}
use Rattle.meaning.specs.declared.Step.TheVariants.{Send, Take, Fire, Give, Receive}
use Rattle.meaning.specs.Rules.{ready}
use Rattle.meaning.specs.declared.Step.{Step as RuleStep}
use Rattle.abstract_network.specs.Counters.{Use, Step, put, get, fire, Counts, At, Guard}
use Rattle.abstract_network.specs.Sound.{Sound}
use Rattle.network.specs.Wiring.{net_of, Wired, stop_pipe, HasPort, has_port_lem, port_is, place_at}
use Rattle.network.specs.Slots.{sent, taken, given, fired, view_is, counts_of}
use Rattle.network.specs.Decide.{Says, holds, fails, said, says_true, says_and, says_as, says_lt, says_given, says_every, says_hand}
use Rattle.network.specs.Decide.{says_use, says_offer}

module _ (A : Array) where
  -- the step of the abstract network: send and give put into a link, take and receive get out of one
  abbrev pub step_of : RuleStep → Step
  step_of (Send q) = put q 0
  step_of (Take p s) = get (pipe_through A p s) (place_at A p s)
  step_of (Fire p) = fire p
  step_of (Give p s) = put (pipe_through A p s) (suc (place_at A p s))
  step_of (Receive q) = get q (stops_on A q)

  -- the step is one of the array's: its pipe or process is there, its process is on a pipe of the stream
  abbrev pub There : RuleStep → Type 0
  There (Send q) = q < pipe_number A
  There (Take p s) = on_pipe A p s ≡ true
  There (Fire p) = p < process_count A
  There (Give p s) = on_pipe A p s ≡ true
  There (Receive q) = q < pipe_number A

  -- ---- the counters that the rules read

  module _ (st : List ℕ) where
    pub put_is : (q k : ℕ) → q < pipe_number A → k ≤ stops_on A q → read A st (put_in A q k) ≡ counts_of A st (put q k)
    put_is q zero h l = sym (view_is A st (sent q) h)
    put_is q (suc k) h l = sym (view_is A st (given q k) l)

    pub get_is : (q k : ℕ) → q < pipe_number A → k ≤ stops_on A q → read A st (taken_out A q k) ≡ counts_of A st (get q k)
    get_is q k h l = sym (view_is A st (taken q k) (h, l))

    pub taken_is : (q k : ℕ) → k < stops_on A q → read A st (Taken (process_on A q k) (stream_on A q)) ≡ counts_of A st (get q k)
    taken_is q k l =
        let e : taken_out A q k ≡ Taken (process_on A q k) (stream_on A q) = rw (lt-ltb k (stops_on A q) l) in
        ap (read A st) (sym e) ∙ get_is q k (stop_pipe A q k l) (omega arith)

    pub end_is : (q : ℕ) → q < pipe_number A → read A st (Received q) ≡ counts_of A st (get q (stops_on A q))
    end_is q h =
        let e : taken_out A q (stops_on A q) ≡ Received q = rw (le-ltb (stops_on A q) (stops_on A q) (le_refl (stops_on A q))) in
        ap (read A st) (sym e) ∙ get_is q (stops_on A q) h (le_refl (stops_on A q))

    pub given_is : (q k : ℕ) → k < stops_on A q → read A st (Given (process_on A q k) (stream_on A q)) ≡ counts_of A st (put q (suc k))
    given_is q k l = sym (view_is A st (given q k) l)

    pub fired_is : (p : ℕ) → p < process_count A → read A st (Firings p) ≡ counts_of A st (fire p)
    fired_is p l = sym (view_is A st (fired p) l)

    -- ---- the guards

    module _ (W : Wired A) (S : Sound (net_of A) (counts_of A st)) where
      c : Counts
      c = counts_of A st

      says_room : (q k : ℕ) → q < pipe_number A → k ≤ stops_on A q
          → Says (c (put q k) < c (get q k) + (pipe_at A q).hop) (has_room A st q k)
      unfolding c
      says_room q k h l =
          let x = put_is q k h l in
          let y = get_is q k h l in
          let i = (S.link q k l).0 in
          says_as (λ a. omega arith) (λ a. omega arith) (says_lt (fill A st q k) (pipe_at A q).hop)

      says_filled : (q k : ℕ) → q < pipe_number A → k ≤ stops_on A q → Says (c (get q k) < c (put q k)) (ltb 0 (fill A st q k))
      unfolding c
      says_filled q k h l =
          let x = put_is q k h l in
          let y = get_is q k h l in
          says_as (λ a. omega arith) (λ a. omega arith) (says_lt 0 (fill A st q k))

      says_take : (q k : ℕ) → k < stops_on A q → Says (Guard (net_of A) c (get q k)) (ready_to_take A st q k)
      unfolding c
      says_take q k l =
          says_as (λ p. (omega arith, p.0, λ o. p.1)) (λ g. (g.1, g.2 l))
          (says_and (says_filled q k (stop_pipe A q k l) (omega arith))
          (says_hand A (elements_on A q) (stop_at A q k).soak (count_at A (process_on A q k)) (c (get q k)) (c (put q (suc k)))
          (c (fire (process_on A q k)))
          (read A st (Taken (process_on A q k) (stream_on A q))) (read A st (Given (process_on A q k) (stream_on A q)))
          (c (fire (process_on A q k))) (taken_is q k l) (given_is q k l) refl (stop_at A q k).keeps))

      says_give : (q k : ℕ) → k < stops_on A q → Says (Guard (net_of A) c (put q (suc k))) (ready_to_give A st q k)
      unfolding c
      says_give q k l =
          says_as (λ p. (l, p.0, p.1)) (λ g. (g.1, g.2))
          (says_and (says_room q (suc k) (stop_pipe A q k l) l)
          (says_offer A (elements_on A q) (stop_at A q k).soak (count_at A (process_on A q k)) (c (get q k)) (c (put q (suc k)))
          (c (fire (process_on A q k)))
          (read A st (Taken (process_on A q k) (stream_on A q))) (read A st (Given (process_on A q k) (stream_on A q)))
          (read A st (Firings (process_on A q k)))
          (taken_is q k l) (given_is q k l) (fired_is (process_on A q k) (W.process_lt q k l)) (stop_at A q k).keeps (S.balance q k l)))

      -- the use of stream s by a process that stands on its pipe
      says_used : (p s : ℕ) → p < process_count A → HasPort A p s
          → Says (At (net_of A) Use c (pipe_through A p s) (place_at A p s)) (ready_to_use A st p s)
      unfolding c
      says_used p s h z =
          let q : ℕ = pipe_through A p s in
          let k : ℕ = place_at A p s in
          says_use A (elements_on A q) (stop_at A q k).soak (count_at A (process_on A q k)) (c (get q k)) (c (put q (suc k)))
          (c (fire (process_on A q k)))
          (read A st (Taken p s)) (read A st (Given p s)) (read A st (Firings p))
          (ap₂ (λ (p s : ℕ). read A st (Taken p s)) (sym z.process) (sym z.stream) ∙ taken_is q k z.place_lt)
          (ap₂ (λ (p s : ℕ). read A st (Given p s)) (sym z.process) (sym z.stream) ∙ given_is q k z.place_lt)
          (fired_is p h ∙ ap (λ (p : ℕ). c (fire p)) (sym z.process))
          (stop_at A q k).keeps
          (S.balance q k z.place_lt)

      says_fire : (p : ℕ) → p < process_count A → Says (Guard (net_of A) c (fire p)) (ready_to_fire A st p)
      unfolding c
      says_fire p h = go (says_lt (read A st (Firings p)) (count_at A p))
        where
          Uses : ℕ → Type 0
          Uses r = (s : ℕ) → s < stream_count A → At (net_of A) Use (counts_of A st) (pipe_through A r s) (place_at A r s)

          spread : Uses p → (q k : ℕ) → k < stops_on A q → process_on A q k ≡ p → At (net_of A) Use (counts_of A st) q k
          spread f q k l e =
              let o = port_is W q k l in
              let u = subst Uses (sym e) f (stream_on A q) o.0 in
              subst₂ (λ (q k : ℕ). At (net_of A) Use (counts_of A st) q k) o.1 o.2 u

          go : {b : Bool} → Says (read A st (Firings p) < count_at A p) b
              → Says (Guard (net_of A) (counts_of A st) (fire p)) (b && every (ready_to_use A st p) (numbers (stream_count A)))
          go (fails n) = fails (λ g. n (omega (arith, fired_is p h, g.0)))
          go (holds l) =
              says_as (λ f. (omega (arith, fired_is p h), spread f))
              (λ g s m. let z = has_port_lem A p s (W.on_all p s (omega arith) m) in
              g.1 (pipe_through A p s) (place_at A p s) z.place_lt z.process)
              (says_every (ready_to_use A st p) (stream_count A)
              (λ s m. says_used p s h (has_port_lem A p s (W.on_all p s (omega arith) m))))

      -- ready says whether the abstract network may grant the step
      pub says_ready : (a : RuleStep) → There a → Says (Guard (net_of A) (counts_of A st) (step_of a)) (ready A st a)
      unfolding c
      says_ready (Send q) h =
          let x = put_is q 0 h (omega arith) in
          says_and (says_as (λ a. omega arith) (λ a. omega arith) (says_lt (read A st (Sent q)) (elements_on A q)))
          (says_room q 0 h (omega arith))
      says_ready (Take p s) h =
          let z = has_port_lem A p s h in
          says_given (on_pipe A p s) (ready_to_take A st (pipe_through A p s) (place_at A p s)) h
          (says_take (pipe_through A p s) (place_at A p s) z.place_lt)
      says_ready (Fire p) h = says_fire p h
      says_ready (Give p s) h =
          let z = has_port_lem A p s h in
          says_given (on_pipe A p s) (ready_to_give A st (pipe_through A p s) (place_at A p s)) h
          (says_give (pipe_through A p s) (place_at A p s) z.place_lt)
      says_ready (Receive q) h =
          says_as (λ l. (le_refl (stops_on A q), l, λ o. absurd (omega arith))) (λ g. g.1)
          (says_filled q (stops_on A q) h (le_refl (stops_on A q)))

      pub ready_exactly : (a : RuleStep) → There a → (ready A st a ≡ true) ↔ Guard (net_of A) (counts_of A st) (step_of a)
      ready_exactly a h = (said (says_ready a h), says_true (says_ready a h))
