-- `refuse::survey_of` meets its contract. Assumes nothing.
use mathlib.Core.Path.{ap, ◌∙◌}
use Rattle.meaning.specs.declared.Limits.{Limits}
use Rattle.meaning.specs.Accept.{refusal_of}
use Rattle.refuse.proofs.survey_of.Goals as goal

pub survey_within-requires : goal.survey_within-requires
survey_within-requires c = c.limits_of.ensures.1

pub returns : goal.returns
returns c =
    let s = c.args.s.now in
    let h = c.survey_within.ensures in
    record { number = h.number ∙ ap (λ (l : Limits). refusal_of l s) c.limits_of.ensures.0; surveyed = h.surveyed }
