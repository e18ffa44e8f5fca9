-- The surveys of the bytes of a description, and the flow that was read of one. Assumes nothing.
use Rattle.std.specs.Prelude.{◌≡◌, List, ℕ, ◌<◌, get_or}
use Rattle.std.proofs.Common.{sym, subst}
use Rattle.meaning.specs.Description.{no_stream, description_of}
use Rattle.survey.specs.declared.Flow.{Flow}
use Rattle.survey.specs.declared.Survey.{Survey}
use Rattle.survey.specs.Surveys.{FlowOf, no_flow}

-- a flow that was read
pub flow_is : (v : Survey) (i : ℕ) {f : Flow} → i < v.description.sizes.streams → f ≡ get_or v.flows i no_flow
    → FlowOf v.description.nest (get_or v.description.streams i no_stream) f
flow_is v i l e =
    subst (FlowOf v.description.nest (get_or v.description.streams i no_stream)) (sym e) (v.surveyed.flow i l)

-- of the bytes of a description
pub record SurveyOf (s : List ℕ) (v : Survey) : Type 0 where
  pub description_is : v.description ≡ description_of s
