-- `prospect::own_survey` meets its contract: nothing but the step of the loops is another. Assumes nothing.
use mathlib.Core.Path.{sym, ◌∙◌, ap, subst}
use Rattle.meaning.specs.declared.Nest.{Nest}
use Rattle.meaning.specs.declared.Description.{Description}
use Rattle.meaning.specs.Accept.{refused8}
use Rattle.meaning.specs.HowManyWork.{stepped, with_nest}
use Rattle.decode.specs.Ranged.{Ranged}
use Rattle.survey.specs.InRange.{nest_bounded}
use Rattle.prospect.specs.Own.{Moved, own_ranged}
use Rattle.prospect.proofs.own_survey.Goals as goal

pub own_nest-requires : goal.own_nest-requires
own_nest-requires c = nest_bounded c.requires.0.nest

-- what is surveyed is in range
own_in_range : {d : Description} {n : Nest} → Ranged d → Moved d.nest n → Ranged (with_nest d n)
own_in_range {d} h m = subst (λ (n : Nest). Ranged (with_nest d n)) (sym m.same) (own_ranged h m.small)

pub survey_of-requires : goal.survey_of-requires
survey_of-requires c = (own_in_range c.requires.0 c.own_nest.ensures, c.requires.1)

pub returns : goal.returns
returns c =
    let d = c.args.d in
    let e = c.survey_of.ensures in
    let m = c.own_nest.ensures in
    record {
      same =
          e ∙ ap (with_nest d) m.same
          ∙ ap (λ (t : Description). with_nest d (stepped d.nest t.nest.step)) (sym e);
      ranged = subst Ranged (sym e) (own_in_range c.requires.0 c.own_nest.ensures);
      moves = λ r. ap (λ (t : Description). refused8 t.nest) e ∙ m.moves r;
    }
