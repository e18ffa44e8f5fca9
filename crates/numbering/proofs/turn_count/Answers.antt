-- `numbering::turn_count` meets its contract. Assumes nothing.
use Rattle.numbering.specs.Ranges.{apart_words, size_words, ranged_apart}
use Rattle.numbering.proofs.turn_count.Goals as goal

pub distance-requires : goal.distance-requires
distance-requires c = apart_words (ranged_apart c.requires)

pub returns : goal.returns
returns c = size_words (ranged_apart c.requires) c.distance.ensures.0
