-- What Run answers and leaves. Assumes nothing.
use Rattle.std.specs.Prelude.{◌≡◌, refl, List, ℕ, ltb, length}
use Rattle.std.proofs.Math.Path.{sym, ap}
use Rattle.std.proofs.Common.{◌∙◌, ap₂}
use borrow.Author.Tests.{ne_eqb}
use Rattle.meaning.specs.declared.Limits.{Limits}
use Rattle.meaning.specs.Answers.{Ran, Refused, RunAnswer}
use Rattle.meaning.specs.Lists.{position, numbers}
use Rattle.meaning.specs.Description.{description_of}
use Rattle.meaning.specs.Array.{array_of}
use Rattle.meaning.specs.Rules.{Memory, any_ready, run_steps, apply_all}
use Rattle.meaning.specs.Calls.{memory_tests, refused_by, run}
use Rattle.port_table.specs.declared.Size.{Size}
use Rattle.wakeups.specs.Wakeups.{flag_at}
use Rattle.run_steps.specs.Runs.{Ended, any_left}

-- what it answers and leaves once the memory is opened
pub record RanBy (s : List ℕ) (steps : ℕ) (M : Memory) (r : RunAnswer) (M' : Memory) : Type 0 where
  pub answers : r
      ≡ Ran (length (run_steps (array_of (description_of s)) steps M)) (any_ready (array_of (description_of s)) M'.state)
  pub leaves : M' ≡ apply_all (array_of (description_of s)) M (run_steps (array_of (description_of s)) steps M)

pub ran_by : {s b : List ℕ} {z : Size} {steps : ℕ} {M : Memory} {done : ℕ} {M' : Memory} {flags : List ℕ} {r : ℕ}
    → Ended s b z steps M done M' flags → r ≡ position (flag_at b M'.state z) (numbers 32768)
    → RanBy s steps M (Ran done (ltb r 32768)) M'
ran_by h e =
    record {
      answers = ap₂ Ran (sym h.count) (sym (any_left h.ready e));
      leaves = sym h.memory;
    }

-- the whole call
module _ (l : Limits) (s : List ℕ) (steps : ℕ) (M : Memory) {n : ℕ} (e : n ≡ refused_by l s (memory_tests (description_of s) M)) where
  pub opened_call : n ≡ 0 → {r : RunAnswer} {M' : Memory} → RanBy s steps M r M'
      → (r ≡ (run l s steps M).answer) × (M' ≡ (run l s steps M).memory)
  unfolding run
  opened_call h t =
      let z : refused_by l s (memory_tests (description_of s) M) ≡ 0 = sym e ∙ h in
      rw z (
        t.answers ∙ ap (λ (N : Memory). Ran (length (run_steps (array_of (description_of s)) steps M))
            (any_ready (array_of (description_of s)) N.state)) t.leaves,
        t.leaves,
      )

  pub refused_call : (n ≡ 0 → ⊥) → (Refused n ≡ (run l s steps M).answer) × (M ≡ (run l s steps M).memory)
  unfolding run
  refused_call h = rw (← e, ne_eqb n 0 h) (refl, refl)
