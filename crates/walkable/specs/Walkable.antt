-- A description that 33 and 1 to 10 do not refuse has loops that are laid out, within the gauge's limits. Assumes nothing.
use Rattle.std.specs.Prelude.{◌≡◌, List, ℕ}
use Rattle.std.proofs.Common.{sym, subst, arith}
use Rattle.meaning.specs.declared.Description.{Description}
use Rattle.meaning.specs.declared.Limits.{Limits}
use Rattle.meaning.specs.Limits.{gauge_limits, UpTo}
use Rattle.meaning.specs.Walk.{walk_refusal}
use Rattle.geometry.specs.Descriptions.{walk_layout}
use Rattle.survey.specs.declared.Survey.{Survey}
use Rattle.survey.specs.OfBytes.{SurveyOf}
use Rattle.survey.specs.InRange.{nest_bounded}
use Rattle.survey.specs.Accepted.{walk_within}
use Rattle.walk.specs.Walked.{Walkable}

pub walkable : {l : Limits} {s : List ℕ} {v : Survey} → UpTo l gauge_limits → SurveyOf s v → walk_refusal l s ≡ 0
    → Walkable v.description.nest
walkable {l} {s} u h z =
    let w = walk_within l s z in
    subst (λ (d : Description). Walkable d.nest) (sym h.description_is)
    (record {
      nest = nest_bounded w.0.ranged.nest;
      layout = walk_layout l s z;
      instances = omega (arith, w.1.instances, u.instances);
      processes = omega (arith, w.1.processes, u.processes);
    })
