-- `window::stream_searched` meets its contract: the lanes come as zeros, and are filled for all processes. Assumes nothing.
use mathlib.Core.Path.{refl}
use Rattle.lists.specs.Stores.{replicated}
use Rattle.window.proofs.stream_searched.Goals as goal

pub fill_lanes-requires : goal.fill_lanes-requires
fill_lanes-requires c = record { flowing = c.requires.0; words = refl; zeros = λ i l. replicated 0 3072 i }

pub searched-requires : goal.searched-requires
searched-requires c =
    let p = c.requires in
    (record { seen = c.fill_lanes.ensures; counted = p.0.counted }, p.1)
