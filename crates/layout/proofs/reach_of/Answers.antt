-- `layout::reach_of` meets its contract: one can go on as often as the coordinate that allows less does; one of the two changes, which
-- bounds it. Assumes nothing.
use mathlib.Core.Path.{sym, ◌∙◌, ap, subst}
use native.Mathlib.Omega.{arith}
use Rattle.layout.specs.Rays.{room_of, Along, along_words, first_along, second_along, reach_least}
use Rattle.layout.proofs.reach_of.Goals as goal

pub room-a-requires : goal.room-a-requires
room-a-requires c = let h = first_along c.requires in subst Along (sym (c.ray_of.ensures ∙ along_words h)) h

pub room-b-requires : goal.room-b-requires
room-b-requires c = let h = second_along c.requires in subst Along (sym (c.ray_of-2.ensures ∙ along_words h)) h

pub returns : goal.returns
returns c =
    let a = c.ray_of.ensures ∙ along_words (first_along c.requires) in
    let b = c.ray_of-2.ensures ∙ along_words (second_along c.requires) in
    let r = reach_least c.requires (c.room-a.ensures ∙ ap room_of a) (c.room-b.ensures ∙ ap room_of b) in
    (omega (arith, r.0), omega (arith, r.1))
