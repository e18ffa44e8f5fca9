-- `numbering::turns_of` meets its contract. Assumes nothing.
use mathlib.Core.Path.{◌∙◌, ap}
use Rattle.numbering.specs.Ranges.{turns, outer_ranged, middle_ranged, inner_ranged, loop_words}
use Rattle.numbering.specs.Turns.{same_turns}
use Rattle.numbering.proofs.turns_of.Goals as goal

pub returns : goal.returns
returns c =
    let outer = loop_words (outer_ranged c.requires) c.loop_of.ensures in
    let middle = loop_words (middle_ranged c.requires) c.loop_of-2.ensures in
    let inner = loop_words (inner_ranged c.requires) c.loop_of-3.ensures in
    same_turns (c.turn_count.ensures ∙ ap turns outer.0) (c.turn_count-2.ensures ∙ ap turns middle.0)
    (c.turn_count-3.ensures ∙ ap turns inner.0)
