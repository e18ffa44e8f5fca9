-- Demand 3 for every description whose array is wired: for every start that is not declined and every list of calls after it.
-- Assumes nothing.
use Rattle.std.specs.Prelude.{◌≡◌, true, false, List, map, ◌++◌, ℕ, ◌-◌, ◌≤◌, ◌<◌, eqb, take, replicate}
use Rattle.std.proofs.Common.{sym, ◌∙◌, ap, ap₂, subst, append-nil, arith, take_all, eqb-true}
use Rattle.std.proofs.lemmas.List.{length-map, length-replicate}
use Rattle.std.proofs.Math.Seq.{take-length}
use Rattle.meaning.specs.declared.Limits.{Limits}
use Rattle.meaning.specs.declared.Description.{Description}
use Rattle.meaning.specs.Description.{description_of}
use Rattle.meaning.specs.Body.{final_values}
use Rattle.meaning.specs.Accept.{refusal_of}
use Rattle.meaning.specs.Array.{Array, array_of, pipe_number, pipe_at, elements_on, pipe_order, part_of}
use Rattle.meaning.specs.State.{words}
use Rattle.meaning.specs.declared.Step.{Step}
use Rattle.meaning.specs.Rules.{Memory, total_of, apply_all}
use Rattle.meaning.specs.Answers.{answer_number, Done, Refused}
use Rattle.meaning.specs.Calls.{length_of, state_length, started, start, all_out, in_element_order, result}
use Rattle.meaning.specs.Demand3.{Told, memory_after, granted_by, receives, all_received, final_value, Holds, finish, SameMemory}
use Rattle.meaning.specs.Demand3.{declined_by}
use Rattle.meaning.specs.Demand3.{NotByMemory, AfterCalls}
use Rattle.lists.specs.Rows.{every_numbers, same_every}
use Rattle.network.specs.WordOrder.{words_length}
use Rattle.network.specs.Wiring.{Wired}
use Rattle.network.specs.Ready.{end_is}
use Rattle.network.specs.Parts.{part_is, parts_are}
use Rattle.network.proofs.Steps.{all_waiting, all_length}
use Rattle.network.specs.Runs.{Grants}
use Rattle.network.proofs.Runs.{Cleared}
use Rattle.network.proofs.Outcome.{After, received_is, receives_most, reached_of, after}
use Rattle.network.proofs.Finish.{finish_words}
use Rattle.network.specs.Calls.{calls_granted, calls_leave}
use Rattle.network.specs.Declined.{Usable, not_by_memory}
use Rattle.network.specs.Plain.{Described, final_is}
use Rattle.network.specs.Figures.{words_are, steps_are}
use Rattle.network.proofs.Starts.{Proper, proper, cleared, passes_after}
use Rattle.network.specs.Results.{result_early, result_only_early, result_late, in_element_order_lem}
use Rattle.network.proofs.Beyond.{calls_beyond}

module _ (l : Limits) (s values : List ℕ) (M₀ : Memory) where
  abbrev d : Description
  d = description_of s

  abbrev A : Array
  A = array_of d

  abbrev M₁ : Memory
  M₁ = started l s values M₀

  module _ (W : Wired A) (D : Described d W) (p : Proper l s values M₀) (cs : List Told) where
    abbrev ss : List Step
    ss = granted_by s M₁ cs

    abbrev M : Memory
    M = apply_all A M₁ ss

    C : Cleared W values M₁
    C = cleared l s values M₀ W D

    G : Grants A M₁ ss
    G = calls_granted s M₁ cs

    F : After W values ss M
    F = after W values M₁ C ss G

    -- ---- what holds after the calls

    few : (q : ℕ) → receives q ss ≤ elements_on A q
    few = receives_most W values M₁ C ss G

    stretch : (q : ℕ) → q < pipe_number A
        → part_of A q M.received
        ≡ map (final_value d values) (take (receives q ss) (pipe_at A q).elements) ++ replicate (elements_on A q - receives q ss) 0
    stretch q h =
        part_is A M.received (reached_of W values M₁ C ss G).fit.list (final_value d values) q (receives q ss) h (few q)
        (λ i m. F.stretch q i h m ∙ final_is d W D values (omega (arith, p.values_length)) q i (omega (arith, few q)))
        (λ i m. F.rest q i h m)

    holds_after : Holds d values M ss
    holds_after =
        record {
          few = λ q h. few q;
          stretch = stretch;
          ready = F.ready;
          most = omega (arith, F.most, steps_are d W D.instances_are);
          reached =
              (λ e. F.reached.0 (e ∙ sym (steps_are d W D.instances_are)), λ e. F.reached.1 e ∙ steps_are d W D.instances_are);
        }

    -- ---- the finish

    module _ (out : all_received d ss ≡ true) where
      -- each pipe is wholly received
      whole : (q : ℕ) → q < pipe_number A → part_of A q M.received ≡ map (final_value d values) (pipe_at A q).elements
      whole q h =
          let k : receives q ss ≡ elements_on A q = eqb-true (receives q ss) (elements_on A q)
          (every_numbers (λ q. eqb (receives q ss) (elements_on A q)) 0 (pipe_number A) out q (omega arith) (omega arith)) in
          let z : elements_on A q - receives q ss ≡ 0 = omega arith in
          stretch q h
          ∙ ap₂ (λ (es : List ℕ) (n : ℕ). map (final_value d values) es ++ replicate n 0)
          (ap (λ (k : ℕ). take k (pipe_at A q).elements) k ∙ take-length (pipe_at A q).elements) z
          ∙ append-nil (map (final_value d values) (pipe_at A q).elements)

      received_final : M.received ≡ map (final_value d values) (pipe_order A)
      received_final =
          parts_are A M.received (all_length A M₁ ss ∙ length-replicate {A = ℕ} (length_of d) 0 ∙ sym D.elements_add)
          (final_value d values) whole

      same_finish : SameMemory d M (finish d values)
      same_finish =
          record {
            waiting = all_waiting A M₁ ss;
            received = received_final;
            state =
                ap (λ (n : ℕ). take n M.state) (sym (words_are d))
                ∙ finish_words W values M₁ C ss G out
                ∙ sym (take_all (state_length d) (map (total_of A) (words A))
                (omega (arith, length-map (words A) (total_of A), words_length A, words_are d)));
          }

    -- ---- Result

    -- all is out by the state's counters exactly if it is by the granted receives
    out_is : all_out l s M.state ≡ all_received d ss
    out_is =
        same_every _ _ 0 (pipe_number A)
        (λ q i h. ap (λ (n : ℕ). eqb n (elements_on A q)) (end_is A M.state q (omega arith) ∙ received_is W values M₁ C ss G q))

    -- ---- all of it

    U : Usable l s M
    U = record { accepted = p.accepted; passes = passes_after l s values M₀ W D cs }

    -- a fact of that memory is one of what the calls leave
    leave : (P : Memory → Type 0) → P M → P (memory_after s M₁ cs)
    leave P h = subst P (sym (calls_leave s M₁ cs)) h

    after_calls : AfterCalls l s values M₁ cs
    after_calls =
        record {
          holds = leave (λ N. Holds d values N ss) holds_after;
          next = λ c. leave (λ N. NotByMemory (declined_by c.limits s N c.call)) (not_by_memory c.limits s U.passes c.call);
          early = λ e output.
              leave (λ N. result l s output N ≡ record { answer = Refused 25; output = output }) (result_early l s U output (out_is ∙ e));
          only_early = λ output.
              leave (λ N. answer_number (result l s output N).answer ≡ 25 → all_received d ss ≡ false)
              (λ e. sym out_is ∙ result_only_early l s U output e);
          late = λ e output k.
              leave (λ N. result l s output N ≡ record { answer = Done; output = final_values d values })
              (result_late l s U output (out_is ∙ e) k
              ∙ ap (λ (vs : List ℕ). record { answer = Done; output = vs })
              (ap (in_element_order l s) (received_final e) ∙ in_element_order_lem l s values W D p.values_length));
          finished = λ e. leave (λ N. SameMemory d N (finish d values)) (same_finish e);
          beyond = calls_beyond s (λ k e. W) M₁ cs;
        }

  -- after a start that is not declined
  after_start : (W : Wired A) → Described d W → (start l s values M₀).answer ≡ Done → (cs : List Told)
      → AfterCalls l s values (start l s values M₀).memory cs
  after_start W D e cs =
      let p = proper l s values M₀ e in subst (λ (M : Memory). AfterCalls l s values M cs) (sym p.memory) (after_calls W D p cs)

-- what geometry owes: an array of an accepted description is wired and has the description's instances and elements
abbrev pub FromGeometry : Type 0
FromGeometry = (l : Limits) (s : List ℕ) → refusal_of l s ≡ 0 → (W : Wired (array_of (description_of s))) × Described (description_of s) W

-- what demand 3 says of every list of calls, for every description that is accepted
pub guarantee : FromGeometry → (l : Limits) (s values : List ℕ) (M₀ : Memory) → (start l s values M₀).answer ≡ Done → (cs : List Told)
    → AfterCalls l s values (start l s values M₀).memory cs
guarantee G l s values M₀ e cs = let g = G l s (proper l s values M₀ e).accepted in after_start l s values M₀ g.0 g.1 e cs
