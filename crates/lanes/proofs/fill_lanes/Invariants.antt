-- `lanes::fill_lanes` meets its contract: the lanes say what the first p processes do to them, and the points are counted on with p.
-- Assumes nothing.
use mathlib.Core.Path.{◌≡◌}
use Prim.Native.Nat.{◌<◌}
use lib.ListN.{get_or}
use Rattle.integers.specs.Vectors.{zero2}
use Rattle.meaning.specs.Space.{points}
use Rattle.numbering.specs.Extents.{boxed}
use Rattle.lanes.specs.Lanes.{Lanes}
use Rattle.lanes.specs.Held.{entry_number, computes}
use Rattle.lanes.proofs.fill_lanes.Given as goal

abbrev pub invariant-loop-p : goal.invariant-loop-p
invariant-loop-p l = let f = l.f in
    (Lanes (entry_number f.nest f.stream) (computes f.nest) f.moving l.processes l.p l.lanes)
    × (l.p < l.processes → l.y ≡ get_or (points (boxed f.space)) l.p zero2)
