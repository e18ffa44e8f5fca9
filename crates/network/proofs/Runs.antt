-- Lists of granted steps from a cleared state: the invariant holds after them, and the receives among them are counted. Assumes nothing.
use Rattle.std.specs.Prelude.{◌≡◌, refl, Bool, List, ◌∷◌, eqb, get_or}
use Rattle.std.proofs.Common.{sym, ◌∙◌, ap, subst₂, le-ltb, eqb-true}
use Rattle.std.proofs.Math.Path.{subst, fun_ext}
use Rattle.std.proofs.Math.Bool.{true, false, cond}
use Prim.Native.Nat.{ℕ, suc, ◌+◌, ◌<◌}
use native.Mathlib.Omega.{arith}
use Rattle.std.proofs.Math.ListN.{length}
use Rattle.std.proofs.lemmas.Bool.{eqb-false}
use Rattle.meaning.specs.Lists.{filter}
use Rattle.meaning.specs.Array.{Array, stops_on, elements_on, part_start, list_length, pipe_through}
use Rattle.meaning.specs.State.{index, word_count}
use Rattle.meaning.specs.declared.Step.TheVariants.{Send, Take, Fire, Give, Receive}
use Rattle.meaning.specs.Rules.{Memory, ready, apply, apply_all}
use Rattle.meaning.specs.declared.Step.{Step as RuleStep}
use Rattle.meaning.specs.Demand3.{is_receive, receives}
use Rattle.abstract_network.specs.Cases.{Order, less, at_least, order}
use Rattle.abstract_network.specs.Counters.{get, Counts, Guard, OneMore, put≢get, get≢fire}
use Rattle.abstract_network.specs.Words.{Words}
use Rattle.abstract_network.specs.Sound.{Sound, inv_sound}
use Rattle.abstract_network.specs.Good.{Good}
use Rattle.abstract_network.specs.Claims.{Reach, start, more}
use Rattle.abstract_network.proofs.Claims.{reach_good}
use Rattle.network.proofs.Places.{layout}
use Rattle.network.specs.Wiring.{net_of, Wired, has_port_lem, place_at}
use Rattle.network.proofs.Programs.{system_of}
use Rattle.network.specs.Slots.{Slot, place, counter, Has, has, word_of, word_live, view, view_is, view_none, counts_of, out_of, words_of}
use Rattle.network.specs.Slots as Slots
use Rattle.network.specs.Decide.{said}
use Rattle.network.specs.Ready.{step_of, There, says_ready}
use Rattle.network.specs.Parts.{part_below, out_is}
use Rattle.network.proofs.Steps.{waiting_same, received_length, Fit, step_more, step_length, step_granted}
use Rattle.network.specs.Runs.{Grants, none, step}

module _ {A : Array} (W : Wired A) (values : List ℕ) where
  -- a cleared state and received list, with the waiting list of `values`
  pub record Cleared (M : Memory) : Type 0 where
    pub fit : Fit W values M
    pub state : (i : ℕ) → i < word_count A → get_or M.state i 0 ≡ 0
    pub received : (i : ℕ) → i < list_length A → get_or M.received i 0 ≡ 0

  -- what t granted steps lead to
  pub record Reached (t : ℕ) (M : Memory) : Type 0 where
    pub fit : Fit W values M
    pub reach : Reach (system_of W values) t (counts_of A M.state) (words_of A M.state (out_of A M.received))

  -- ---- the start

  module _ (M : Memory) (C : Cleared M) where
    pub view_zero : (a : Slot) → view A M.state a ≡ 0
    view_zero a = go (has A a)
      where
        go : Dec (Has A a) → view A M.state a ≡ 0
        go (yes h) = view_is A M.state a h ∙ C.state (index A (word_of A a)) ((layout A).below (word_of A a) (word_live A W a h))
        go (no n) = view_none A M.state a n

    out_zero : (q i : ℕ) → out_of A M.received q i ≡ 0
    out_zero q i = go (order i (elements_on A q))
      where
        go : Order i (elements_on A q) → out_of A M.received q i ≡ 0
        go (less l) = out_is A M.received q i l ∙ C.received (part_start A q + i) (part_below A q i l)
        go (at_least l) = rw (le-ltb i (elements_on A q) l)

    -- no step leads to the start
    pub reached_start : Reached 0 M
    reached_start =
        record {
          fit = C.fit;
          reach =
              subst₂ (λ (c : Counts) (w : Words). Reach (system_of W values) 0 c w)
              (sym (fun_ext (λ a. view_zero (counter a))))
              (sym (λ i.
              record {
                link = λ q k j. view_zero (place q k j) i;
                hand = λ q k. view_zero (Slots.hand q k) i;
                kept = λ q k. view_zero (Slots.kept q k) i;
                out = λ q j. out_zero q j i;
              }))
              start;
        }

  -- ---- one step

  pub good_of : {t : ℕ} {M : Memory} → Reached t M
      → Good (system_of W values) (counts_of A M.state) (words_of A M.state (out_of A M.received))
  good_of R = reach_good (system_of W values) R.reach

  pub sound_of : {t : ℕ} {M : Memory} → Reached t M → Sound (net_of A) (counts_of A M.state)
  sound_of R = inv_sound (net_of A) (good_of R).inv

  module _ {t : ℕ} {M : Memory} (R : Reached t M) (a : RuleStep) (h : There A a) (e : ready A M.state a ≡ true) where
    -- a ready step may be granted
    pub guard_of : Guard (net_of A) (counts_of A M.state) (step_of A a)
    guard_of = said (says_ready A M.state W (sound_of R) a h) e

    fit_step : Fit W values (apply A M a)
    fit_step =
        record {
          long = omega (arith, R.fit.long, step_length W M R.fit.long (sound_of R) a h guard_of);
          list = omega (arith, R.fit.list, received_length A M a);
          waits = λ q j l. ap (λ (ws : List ℕ). get_or ws (part_start A q + j) 0) (waiting_same A M a) ∙ R.fit.waits q j l;
        }

    -- one more granted step
    pub reached_step : Reached (suc t) (apply A M a)
    reached_step =
        record {
          fit = fit_step;
          reach = more R.reach
              (step_granted W values M R.fit (sound_of R) (λ q k l i u. (good_of R).stored.spare q k i l u) a h guard_of);
        }

  -- ---- lists of steps

  pub reached_all : {t : ℕ} {M : Memory} {l : List RuleStep} → Reached t M → Grants A M l → Reached (t + length l) (apply_all A M l)
  unfolding apply_all
  reached_all {t} {M} R none = let e : t ≡ t + 0 = omega arith in subst (λ (t : ℕ). Reached t M) e R
  reached_all {t} {M} R (step {a = a} {l} h e g) =
      let d : suc t + length l ≡ t + suc (length l) = omega arith in
      subst (λ (t : ℕ). Reached t (apply_all A (apply A M a) l)) d (reached_all {t = suc t} (reached_step R a h e) g)

  -- a step counts as a receive on q exactly if it is one
  receive_counts : {c c' : Counts} (q : ℕ) (a : RuleStep) → There A a → OneMore c c' (step_of A a)
      → c' (get q (stops_on A q)) ≡ c (get q (stops_on A q)) + cond (is_receive q a) 1 0
  receive_counts {c} q (Send r) h B = omega (arith, B.rest (get q (stops_on A q)) put≢get)
  receive_counts {c} q (Take p s) h B = omega (arith, B.rest (get q (stops_on A q)) inner)
    where
      inner : get (pipe_through A p s) (place_at A p s) ≡ get q (stops_on A q) → ⊥
      inner e =
          let z : pipe_through A p s ≡ q = cc in
          let k : place_at A p s ≡ stops_on A q = cc in
          omega (arith, (has_port_lem A p s h).place_lt, ap (stops_on A) z, k)
  receive_counts {c} q (Fire p) h B = omega (arith, B.rest (get q (stops_on A q)) (λ e. get≢fire (sym e)))
  receive_counts {c} q (Give p s) h B = omega (arith, B.rest (get q (stops_on A q)) put≢get)
  receive_counts {c} {c'} q (Receive r) h B = go (eqb r q) refl
    where
      go : (b : Bool) → eqb r q ≡ b → c' (get q (stops_on A q)) ≡ c (get q (stops_on A q)) + cond b 1 0
      go true e =
          let z = eqb-true r q e in
          omega (arith, subst (λ (r : ℕ). c' (get r (stops_on A r)) ≡ suc (c (get r (stops_on A r)))) z B.up)
      go false e = omega (arith, B.rest (get q (stops_on A q)) (λ i. let z : r ≡ q = cc in eqb-false r q e z))

  -- the counter of a pipe's output end counts the receives
  pub receives_count : {t : ℕ} {M : Memory} {l : List RuleStep} → Reached t M → Grants A M l → (q : ℕ)
      → counts_of A (apply_all A M l).state (get q (stops_on A q)) ≡ counts_of A M.state (get q (stops_on A q)) + receives q l
  unfolding apply_all filter
  receives_count R none q = omega arith
  receives_count {t = t} {M = M} R (step {a = a} {l} h e g) q =
      go (is_receive q a) (counts_of A M.state (get q (stops_on A q))) (receives_count {t = suc t} (reached_step R a h e) g q)
      (receive_counts q a h (step_more W M R.fit.long (sound_of R) a h (guard_of R a h e)))
    where
      go : (b : Bool) (z : ℕ) {x y : ℕ} → x ≡ y + receives q l → y ≡ z + cond b 1 0
          → x ≡ z + length (cond b (a ∷ filter (is_receive q) l) (filter (is_receive q) l))
      go true z i j = omega arith
      go false z i j = omega arith
