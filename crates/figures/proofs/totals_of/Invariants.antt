-- `figures::totals_of` meets its contract: the totals are those of the first i streams, and their blocks hold their lanes. Assumes nothing.
use mathlib.Core.Path.{◌≡◌}
use Rattle.meaning.specs.Description.{streams_of}
use Rattle.lanes.specs.All.{LanesOf}
use Rattle.figures.specs.Shares.{totals_of}
use Rattle.figures.proofs.totals_of.Given as goal

abbrev pub invariant-loop-i : goal.invariant-loop-i
invariant-loop-i l =
    let d = l.v.description in
    (l.totals ≡ totals_of d l.i) × (LanesOf d.nest (streams_of d) l.i l.lanes)
