-- `window::all_searched` meets its contract: the search in what is left of the streams has the answer of the whole; a stream adds at most
-- 4,194,304 to the start. Assumes nothing.
use mathlib.Core.Path.{◌≡◌}
use Prim.Native.Nat.{◌*◌, ◌≤◌}
use lib.ListN.{drop}
use Rattle.meaning.specs.Description.{streams_of}
use Rattle.window.specs.Search.{searched as results, all_lengths}
use Rattle.window.proofs.all_searched.Given as goal

abbrev pub invariant-loop-i : goal.invariant-loop-i
invariant-loop-i l = let d = l.v.description in let w = l.w in
    (w.start ≤ 4194304 * l.i)
    × (results w (all_lengths d.nest (drop l.i (streams_of d))) ≡ results l.initial.w (all_lengths d.nest (streams_of d)))
