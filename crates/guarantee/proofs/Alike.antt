-- One description under two limits: what a call does that is told others than those Accept was told. Assumes nothing.
use Rattle.std.specs.Prelude.{◌≡◌, refl, List, ℕ}
use Rattle.std.proofs.Common.{sym, ◌∙◌}
use Rattle.std.proofs.Math.Decide.{ℕ_discrete}
use Rattle.meaning.specs.declared.Limits.{Limits}
use Rattle.meaning.specs.Accept.{refusal_of}
use Rattle.meaning.specs.Alike.{Serves, Serves.declines, Serves.as_under}
use Rattle.network.specs.Declined.{declined}
use Rattle.guarantee.specs.Alike.{same_refusal}
use Rattle.guarantee.proofs.Demand1.{demand_one}

-- told other limits, a call on a description that is accepted is declined and changes nothing, or does the same
pub serves : (l k : Limits) (s : List ℕ) → refusal_of l s ≡ 0 → Serves l k s
serves l k s e = go (ℕ_discrete (refusal_of k s) 0)
  where
    go : Dec (refusal_of k s ≡ 0) → Serves l k s
    go (yes f) = as_under (same_refusal k l s (f ∙ sym e))
    go (no n) = declines (refusal_of k s) n (declined k s (refusal_of k s) n refl) (demand_one k s).unchanged
