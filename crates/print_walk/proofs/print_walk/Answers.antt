-- `print_walk::print_walk` is safe and ends. Assumes nothing.
use mathlib.Core.Path.{sym, subst}
use Rattle.meaning.specs.declared.Description.{Description}
use Rattle.numbering.specs.Ranges.{Bounded}
use Rattle.survey.specs.InRange.{nest_bounded}
use Rattle.survey.specs.Accepted.{walk_within}
use Rattle.print_walk.proofs.print_walk.Goals as goal

pub slice_bounds-print_whole-end : goal.slice_bounds-print_whole-end
slice_bounds-print_whole-end g c = sym c.in-Ok.ensures.surveyed.2.room

pub print_whole-requires : goal.print_whole-requires
print_whole-requires g c =
    let h = c.in-Ok.ensures.surveyed in
    let w = (walk_within _ _ (sym c.in-Ok.ensures.number)).0 in (
      subst (λ (d : Description). Bounded d.nest) (sym h.0.description_is) (nest_bounded w.ranged.nest),
      h.2,
    )
