-- `window::searched` meets its contract: the search in what is left of the processes has the answer of the whole; no start passes 32 bits,
-- since every pipe has at most 4,096 elements. Assumes nothing.
use mathlib.Core.Path.{◌≡◌}
use Prim.Native.Nat.{◌+◌, ◌*◌, ◌≤◌}
use lib.ListN.{drop}
use Rattle.meaning.specs.Space.{processes}
use Rattle.window.specs.Search.{searched as results, lengths_of, stream_lengths}
use Rattle.window.proofs.searched.Given as goal

abbrev pub invariant-loop-p : goal.invariant-loop-p
invariant-loop-p l = let f = l.f in let w = l.w in
    (w.start ≤ l.initial.w.start + 4096 * l.p)
    × (results w (lengths_of f.nest f.stream (drop l.p (processes f.nest))) ≡ results l.initial.w (stream_lengths f.nest f.stream))
