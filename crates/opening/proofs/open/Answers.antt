-- `opening::open` meets its contract: its lanes come as zeros. Assumes nothing.
use mathlib.Core.Path.{refl}
use Rattle.opening.proofs.open.Goals as goal

pub open_with_lanes-requires : goal.open_with_lanes-requires
open_with_lanes-requires c = refl
