-- Lists of granted steps. Assumes nothing.
use Rattle.std.specs.Prelude.{◌≡◌, Bool, List, [], ◌∷◌, eqb}
use Rattle.std.proofs.Math.Bool.{true}
use Rattle.meaning.specs.Lists.{every, numbers}
use Rattle.meaning.specs.Array.{Array, pipe_number, elements_on}
use Rattle.meaning.specs.Rules.{Memory, ready, apply}
use Rattle.meaning.specs.declared.Step.{Step as RuleStep}
use Rattle.meaning.specs.Demand3.{receives}
use Rattle.network.specs.Ready.{There}

module _ (A : Array) where
  -- a list of granted steps: each is one of the array's and ready when its turn comes
  pub data Grants : Memory → List RuleStep → Type 0 where
    none : {M : Memory} → Grants M []
    step : {M : Memory} {a : RuleStep} {l : List RuleStep} → There A a → ready A M.state a ≡ true → Grants (apply A M a) l
        → Grants M (a ∷ l)

  -- after the steps of a list every pipe is wholly received
  abbrev pub all_done : List RuleStep → Bool
  all_done l = every (λ q. eqb (receives q l) (elements_on A q)) (numbers (pipe_number A))
