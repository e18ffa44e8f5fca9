-- Plain run writes what the loops leave, and the network finishes with Plain run's values. Assumes nothing.
use Rattle.std.specs.Prelude.{◌≡◌, ◌↔◌, true, List, ℕ, length}
use Rattle.std.proofs.Common.{sym, ◌∙◌, ap}
use Rattle.meaning.specs.declared.Limits.{Limits}
use Rattle.meaning.specs.declared.Description.{Description}
use Rattle.meaning.specs.Answers.{Done}
use Rattle.meaning.specs.Loops.{instances}
use Rattle.meaning.specs.Description.{description_of}
use Rattle.meaning.specs.Accept.{refusal_of, answer_of, accept, Accepts}
use Rattle.meaning.specs.Rules.{Memory}
use Rattle.meaning.specs.Calls.{length_of, start, result, Written, plain_run}
use Rattle.meaning.specs.Conditions.{Meets}
use Rattle.meaning.specs.Demand3.{Told, memory_after, granted_by, all_received}
use Rattle.meaning.specs.Leaves.{LoopsLeave, Words, RunsLoops}
use Rattle.network.proofs.Starts.{proper}
use Rattle.guarantee.specs.Acceptance.{accepted_not_refused, accepted_exactly}
use Rattle.guarantee.specs.Demand2.{plain_done}
use Rattle.guarantee.proofs.Guarantee.{guarantee}
use Rattle.requests.specs.BodyLines.{allowed}
use Rattle.requests.specs.PlainLoops.{loops_exactly}

module _ (l : Limits) (s : List ℕ) where
  abbrev d : Description
  d = description_of s

  pub accepted_meets : refusal_of l s ≡ 0 → Meets l s
  unfolding accept
  accepted_meets ok = (accepted_exactly l s).0 (ap (answer_of s) ok)

  plain : Accepts l s → (values output : List ℕ) → Words values → length values ≡ length_of d
      → length output ≡ length_of d → (left : List ℕ)
      → LoopsLeave d (instances d.nest) values left ↔ (plain_run l s values output ≡ record { answer = Done; output = left })
  plain e values output w h k left =
      let ok = accepted_not_refused l s e in
      let m = accepted_meets ok in
      let done = plain_done l s ok values output h k in
      let loops = loops_exactly d (allowed s m.sizes m.words) (instances d.nest) values left w in (
        λ r. done ∙ ap {B = Written l s} (λ (o : List ℕ). record { answer = Done; output = o }) (sym (loops.0 r)),
        λ g. loops.1 (ap (λ (o : Written l s). o.output) (sym g ∙ done)),
      )

  network : (values : List ℕ) (M : Memory) → (start l s values M).answer ≡ Done → (cs : List Told)
      → all_received d (granted_by s (start l s values M).memory cs) ≡ true → (output : List ℕ) → length output ≡ length_of d
      → result l s output (memory_after s (start l s values M).memory cs) ≡ plain_run l s values output
  network values M e cs out output h =
      let p = proper l s values M e in
      ((guarantee l s values M e).after cs).late out output h ∙ sym (plain_done l s p.accepted values output p.values_length h)

  pub runs_loops : RunsLoops l s
  runs_loops = record { plain = plain; network = network }
