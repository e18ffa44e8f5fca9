-- Step and Run keep what stands past the words that Accept counts, on any memory, of any description. Assumes nothing.
use Rattle.std.specs.Prelude.{◌≡◌, List, ℕ, drop}
use Rattle.meaning.specs.declared.Limits.{Limits}
use Rattle.meaning.specs.Description.{description_of}
use Rattle.meaning.specs.Rules.{Memory}
use Rattle.meaning.specs.Calls.{state_length, step, run}
use Rattle.meaning.specs.Demand3.{CallStep, CallRun}
use Rattle.network.proofs.Beyond.{call_beyond}
use Rattle.guarantee.proofs.Wired.{wired}

module _ (l : Limits) (s : List ℕ) where
  pub step_beyond : (kind number stream : ℕ) (M : Memory)
      → drop (state_length (description_of s)) (step l s kind number stream M).memory.state
      ≡ drop (state_length (description_of s)) M.state
  step_beyond kind number stream M = call_beyond l s (wired l s) M (CallStep kind number stream)

  pub run_beyond : (n : ℕ) (M : Memory)
      → drop (state_length (description_of s)) (run l s n M).memory.state ≡ drop (state_length (description_of s)) M.state
  run_beyond n M = call_beyond l s (wired l s) M (CallRun n)
