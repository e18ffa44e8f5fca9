-- `sweeps::fill_spans` meets its contract: the pass over the instances that are left gives the whole pass. Assumes nothing.
use mathlib.Core.Path.{◌≡◌}
use lib.ListN.{take, drop}
use Rattle.sweeps.specs.Sweep.{sweep}
use Rattle.sweeps.specs.Turns.{turn, Most}
use Rattle.sweeps.proofs.fill_spans.Given as goal

abbrev pub invariant-loop-k : goal.invariant-loop-k
invariant-loop-k l =
    (Most l.k l.points l.spans)
    × (sweep (turn l.back) l.k (drop l.k (take l.instances l.numbers)) l.spans
    ≡ sweep (turn l.back) 0 (take l.instances l.numbers) l.initial.spans)
