-- One description under two limits, call by call: answered alike, or declined.
use Rattle.std.specs.Prelude.{◌≡◌, List, ℕ}
use Rattle.meaning.specs.declared.Limits.{Limits}
use Rattle.meaning.specs.declared.Row.{Row}
use Rattle.meaning.specs.Rules.{Memory}
use Rattle.meaning.specs.Accept.{accept}
use Rattle.meaning.specs.Answers.{answer_number, ran_number, ready_number, Refused}
use Rattle.meaning.specs.Calls.{table, start, step, run, ready_call, window, result, plain_run}
use Rattle.meaning.specs.Demand1.{Declined, NothingChanged}

-- two limits make no difference to any call: answer and lent lists are the same
pub record AnsweredAlike (l k : Limits) (s : List ℕ) : Type 0 where
  pub accept : accept l s ≡ accept k s
  pub table : (rows : List Row) → ((table l s rows).answer ≡ (table k s rows).answer) × ((table l s rows).rows ≡ (table k s rows).rows)
  pub start : (values : List ℕ) (M : Memory)
      → ((start l s values M).answer ≡ (start k s values M).answer) × ((start l s values M).memory ≡ (start k s values M).memory)
  pub step : (kind number stream : ℕ) (M : Memory)
      → ((step l s kind number stream M).answer ≡ (step k s kind number stream M).answer)
      × ((step l s kind number stream M).memory ≡ (step k s kind number stream M).memory)
  pub run : (n : ℕ) (M : Memory) → ((run l s n M).answer ≡ (run k s n M).answer) × ((run l s n M).memory ≡ (run k s n M).memory)
  pub ready : (words : List ℕ) (M : Memory)
      → ((ready_call l s words M).answer ≡ (ready_call k s words M).answer)
      × ((ready_call l s words M).words ≡ (ready_call k s words M).words)
  pub window : (pipe side : ℕ) (waiting received : List ℕ)
      → ((window l s pipe side waiting received).refusal ≡ (window k s pipe side waiting received).refusal)
      × ((window l s pipe side waiting received).part ≡ (window k s pipe side waiting received).part)
  pub result : (output : List ℕ) (M : Memory)
      → ((result l s output M).answer ≡ (result k s output M).answer) × ((result l s output M).output ≡ (result k s output M).output)
  pub plain : (values output : List ℕ)
      → ((plain_run l s values output).answer ≡ (plain_run k s values output).answer)
      × ((plain_run l s values output).output ≡ (plain_run k s values output).output)

-- every call is declined by k
pub record DeclinedBy (l : Limits) (s : List ℕ) (k : ℕ) : Type 0 where
  pub accept : accept l s ≡ Refused k
  pub table : (rows : List Row) → answer_number (table l s rows).answer ≡ k
  pub start : (values : List ℕ) (M : Memory) → answer_number (start l s values M).answer ≡ k
  pub step : (kind number stream : ℕ) (M : Memory) → answer_number (step l s kind number stream M).answer ≡ k
  pub run : (n : ℕ) (M : Memory) → ran_number (run l s n M).answer ≡ k
  pub ready : (words : List ℕ) (M : Memory) → ready_number (ready_call l s words M).answer ≡ k
  pub window : (pipe side : ℕ) (waiting received : List ℕ) → (window l s pipe side waiting received).refusal ≡ k
  pub result : (output : List ℕ) (M : Memory) → answer_number (result l s output M).answer ≡ k
  pub plain : (values output : List ℕ) → answer_number (plain_run l s values output).answer ≡ k

-- told the limits k, every call is declined, by one number, and changes nothing, or does what it would under the limits l
pub data Serves (l k : Limits) (s : List ℕ) : Type 0 where
  declines : (number : ℕ) → Declined number → DeclinedBy k s number → NothingChanged k s → Serves l k s
  as_under : AnsweredAlike k l s → Serves l k s
