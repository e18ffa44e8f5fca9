-- After every list of granted steps from a cleared state: what is received is final, some step is ready exactly if some value is not out,
-- and the granted steps are at most the total, equal to it exactly if all values are out. Assumes nothing.
use Rattle.std.proofs.Math.Path.{◌≡◌, refl, sym}
use Rattle.std.proofs.Common.{◌∙◌, ap, ap₂, subst, le_refl, arith, lt-ltb}
use Rattle.std.specs.Prelude.{Bool, true, not, ◌↔◌, List, [], ℕ, zero, suc, ◌+◌, ◌*◌, ◌≤◌, ◌<◌, length, get_or}
use Rattle.std.proofs.Math.Bool.{false}
use Rattle.std.proofs.Math.Dec.{eqb}
use Rattle.std.proofs.Math.ListN.{get_or-eq_default}
use Rattle.meaning.specs.Array.{Array, Pipe, count_at, process_count, pipe_number, no_pipe, stops_on, elements_on, part_start, pipe_through}
use Rattle.meaning.specs.declared.Step.TheVariants.{Send, Take, Fire, Give, Receive}
use Rattle.meaning.specs.Rules.{process_on, stream_on, Memory, ready, in_order, any_ready, apply_all}
use Rattle.meaning.specs.declared.Step.{Step as RuleStep}
use Rattle.meaning.specs.Demand3.{receives}
use Rattle.abstract_network.specs.Cases.{Order, less, at_least, order}
use Rattle.lists.specs.Sums.{total_numbers}
use Rattle.abstract_network.specs.Counters.{Step, put, get, fire, Counts, Guard}
use Rattle.abstract_network.specs.Sound.{Sound}
use Rattle.abstract_network.specs.Values.{plain}
use Rattle.abstract_network.specs.System.{System}
use Rattle.abstract_network.specs.Claims.{Out, stretch, stretch_rest, not_ready}
use Rattle.abstract_network.specs.Claims as Claims
use Rattle.abstract_network.proofs.Claims as Claimed
use Rattle.network.specs.Count.{step_sum, totals, totals_add, granted_most, out_granted, granted_out}
use Rattle.network.specs.Wiring.{net_of, element_at, Wired, stop_pipe, element_pipe, port_is}
use Rattle.network.specs.Programs.{program_of}
use Rattle.network.proofs.Programs.{system_of}
use Rattle.network.specs.Slots.{taken, counts_of}
use Rattle.network.specs.Decide.{Says, holds, fails, said, says_true, says_as, says_eq, says_every}
use Rattle.network.specs.Ready.{step_of, There, says_ready}
use Rattle.network.specs.Parts.{out_is}
use Rattle.network.specs.Members.{any_in, in_any, Listed, in_order_lem, listed, ready_there}
use Rattle.network.specs.Runs.{Grants, all_done}
use Rattle.network.proofs.Runs.{Cleared, Reached, view_zero, reached_start, good_of, sound_of, reached_all}
use Rattle.network.proofs.Runs.{receives_count}
use Rattle.network.specs.Outcome.{step_total}

-- every process that computes is one of the processes
process_there : (A : Array) (p : ℕ) → 0 < count_at A p → p < process_count A
process_there A p h = go (order p (process_count A))
  where
    go : Order p (process_count A) → p < process_count A
    go (less l) = l
    go (at_least l) = absurd (omega (arith, ap length (get_or-eq_default A.runs [] l)))

module _ {A : Array} (W : Wired A) where
  -- which is the sum of the totals of all steps
  pub total_is : step_sum (net_of A) (process_count A) (pipe_number A) (totals (net_of A)) ≡ step_total W
  total_is =
      totals_add (net_of A) (process_count A) (pipe_number A)
      ∙ ap₂ ◌+◌ W.instances_add (total_numbers (λ (r : Pipe). 2 * (length r.elements * suc (length r.stops))) no_pipe A.pipes)

  -- ---- readiness: a step that the abstract network may grant is a ready step in the order of the steps

  module _ (st : List ℕ) (S : Sound (net_of A) (counts_of A st)) where
    -- a step of the array for every step of the abstract network that may be granted
    record Named (b : Step) : Type 0 where
      name : RuleStep
      inside : Listed A name
      there : There A name
      is : step_of A name ≡ b

    named : (b : Step) → Guard (net_of A) (counts_of A st) b → Named b
    named (put q zero) g =
        let l = element_pipe A q (counts_of A st (put q 0)) g.0 in record { name = Send q; inside = l; there = l; is = refl }
    named (put q (suc k)) g =
        let z = port_is W q k g.0 in
        let l = stop_pipe A q k g.0 in
        record {
          name = Give (process_on A q k) (stream_on A q);
          inside = (W.process_lt q k g.0, z.0);
          there = lt-ltb (pipe_through A (process_on A q k) (stream_on A q)) (pipe_number A) (omega (arith, z.1));
          is = ap₂ (λ (q k : ℕ). put q (suc k)) z.1 z.2;
        }
    named (get q k) g = go (order k (stops_on A q))
      where
        go : Order k (stops_on A q) → Named (get q k)
        go (less m) =
            let z = port_is W q k m in
            let l = stop_pipe A q k m in
            record {
              name = Take (process_on A q k) (stream_on A q);
              inside = (W.process_lt q k m, z.0);
              there = lt-ltb (pipe_through A (process_on A q k) (stream_on A q)) (pipe_number A) (omega (arith, z.1));
              is = ap₂ get z.1 z.2;
            }
        go (at_least m) =
            let e : stops_on A q ≡ k = omega (arith, g.0) in
            let l = element_pipe A q (counts_of A st (get q k)) (omega (arith, g.1, S.puts q k g.0)) in
            record { name = Receive q; inside = l; there = l; is = ap (get q) e }
    named (fire p) g = let l = process_there A p (omega (arith, g.0)) in record { name = Fire p; inside = l; there = l; is = refl }

    -- a step that the abstract network may grant makes some step ready, and a ready step may be granted
    pub guard_ready : (b : Step) → Guard (net_of A) (counts_of A st) b → any_ready A st ≡ true
    guard_ready b g =
        let n = named b g in
        any_in (ready A st) (in_order_lem A n.name n.inside)
        (says_true (says_ready A st W S n.name n.there) (subst (λ (b : Step). Guard (net_of A) (counts_of A st) b) (sym n.is) g))

    pub ready_guard : any_ready A st ≡ true → (b : Step) × Guard (net_of A) (counts_of A st) b
    ready_guard e =
        let r = in_any (ready A st) (in_order A) e in
        let h = ready_there A st r.0 (listed A r.0 r.1) r.2 in
        (step_of A r.0, said (says_ready A st W S r.0 h) r.2)

  -- ---- the claims

  module _ (values : List ℕ) where
    -- what holds after the steps of a list
    pub record After (l : List RuleStep) (M : Memory) : Type 0 where
      -- what is received is final, the rest is 0
      pub stretch : (q i : ℕ) → q < pipe_number A → i < receives q l
          → get_or M.received (part_start A q + i) 0 ≡ plain (program_of W values) W.instances (stream_on A q) (element_at A q i)
      pub rest : (q i : ℕ) → q < pipe_number A → receives q l ≤ i → i < elements_on A q → get_or M.received (part_start A q + i) 0 ≡ 0
      -- some step is ready exactly if some value is not out
      pub ready : any_ready A M.state ≡ not (all_done A l)
      -- the granted steps are at most the total, and equal to it exactly if all values are out
      pub most : length l ≤ step_total W
      pub reached : (length l ≡ step_total W) ↔ (all_done A l ≡ true)

    module _ (M₀ : Memory) (C : Cleared W values M₀) (l : List RuleStep) (G : Grants A M₀ l) where
      abbrev M : Memory
      M = apply_all A M₀ l

      abbrev c : Counts
      c = counts_of A M.state

      abbrev X : System
      X = system_of W values

      -- the list's steps lead to its memory
      pub reached_of : Reached W values (length l) M
      reached_of =
          let e : 0 + length l ≡ length l = omega arith in
          subst (λ (t : ℕ). Reached W values t M) e (reached_all W values (reached_start W values M₀ C) G)

      -- the granted receives are the counter's
      pub received_is : (q : ℕ) → c (get q (stops_on A q)) ≡ receives q l
      received_is q =
          receives_count W values (reached_start W values M₀ C) G q ∙ omega (arith, view_zero W values M₀ C (taken q (stops_on A q)))

      -- all values are out exactly if the test of the list says so
      pub says_out : Says (Out X c) (all_done A l)
      unfolding Out
      says_out =
          says_as all (λ o q m. sym (received_is q) ∙ o q)
          (says_every (λ q. eqb (receives q l) (elements_on A q)) (pipe_number A) (λ q m. says_eq (receives q l) (elements_on A q)))
        where
          all : ((q : ℕ) → q < pipe_number A → receives q l ≡ elements_on A q) → (q : ℕ) → c (get q (stops_on A q)) ≡ elements_on A q
          all f q = go (order q (pipe_number A)) (order (c (get q (stops_on A q))) (elements_on A q))
            where
              go : Order q (pipe_number A) → Order (c (get q (stops_on A q))) (elements_on A q)
                  → c (get q (stops_on A q)) ≡ elements_on A q
              go (less m) o = received_is q ∙ f q m
              go (at_least m) (less o) = absurd (omega (arith, element_pipe A q _ o))
              go (at_least m) (at_least o) = omega (arith, (sound_of W values reached_of).gets q (stops_on A q) (le_refl (stops_on A q)))

      -- some step is ready exactly if not all values are out
      ready_is : any_ready A M.state ≡ not (all_done A l)
      unfolding Out
      ready_is = go (any_ready A M.state) refl says_out
        where
          out : any_ready A M.state ≡ false → (q : ℕ) → c (get q (stops_on A q)) ≡ elements_on A q
          out e q = at (order (c (get q (stops_on A q))) (elements_on A q))
            where
              at : Order (c (get q (stops_on A q))) (elements_on A q) → c (get q (stops_on A q)) ≡ elements_on A q
              at (less m) =
                  let g = Claimed.ready X (good_of W values reached_of) q m in
                  absurd (let i = guard_ready M.state (sound_of W values reached_of) g.0 g.1 in
                  let z : ◌≡◌ {A = ℕ} 0 1 = cc in omega arith)
              at (at_least m) = omega (arith, (sound_of W values reached_of).gets q (stops_on A q) (le_refl (stops_on A q)))

          go : {b : Bool} (r : Bool) → any_ready A M.state ≡ r → Says (Out X c) b → r ≡ not b
          go true e (holds o) =
              let g = ready_guard M.state (sound_of W values reached_of) e in
              absurd (not_ready X (good_of W values reached_of) W.has_stream o g.0 g.1)
          go true e (fails n) = refl
          go false e (holds o) = refl
          go false e (fails n) = absurd (n (out e))

      -- no more than its elements
      pub receives_most : (q : ℕ) → receives q l ≤ elements_on A q
      receives_most q = omega (arith, received_is q, (sound_of W values reached_of).gets q (stops_on A q) (le_refl (stops_on A q)))

      -- what holds after every list of granted steps
      pub after : After l M
      after =
          record {
            stretch = λ q i m h.
                let e = received_is q in
                let b = (sound_of W values reached_of).gets q (stops_on A q) (le_refl (stops_on A q)) in
                sym (out_is A M.received q i (omega arith))
                ∙ Claims.stretch X (good_of W values reached_of) q i (omega arith);
            rest = λ q i m h o.
                let e = received_is q in
                sym (out_is A M.received q i o)
                ∙ stretch_rest X (good_of W values reached_of) q i (omega arith);
            ready = ready_is;
            most = omega (
              arith,
              granted_most X (process_count A) (pipe_number A) (process_there A) (λ q h. element_pipe A q 0 h) reached_of.reach,
              total_is,
            );
            reached = (
              λ e. says_true says_out
                  (granted_out X (process_count A) (pipe_number A) (process_there A) (λ q h. element_pipe A q 0 h) reached_of.reach
                  (e ∙ sym total_is)),
              λ e. out_granted X (process_count A) (pipe_number A) (process_there A) (λ q h. element_pipe A q 0 h)
                  reached_of.reach W.has_stream (said says_out e) ∙ total_is,
            );
          }
