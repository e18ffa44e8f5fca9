-- `port_fill::stride_of` meets its contract: after i streams the sum is that of their ports and the one word of firings. Assumes nothing.
use mathlib.Core.Path.{◌≡◌}
use Prim.Native.Nat.{◌+◌}
use lib.ListN.{take}
use Rattle.meaning.specs.Lists.{total}
use Rattle.meaning.specs.Description.{streams_of}
use Rattle.addresses.specs.Indices.{port_words}
use Rattle.port_fill.proofs.stride_of.Given as goal

abbrev pub invariant-loop-i : goal.invariant-loop-i
invariant-loop-i l = let d = l.v.description in l.sum ≡ 1 + total (port_words d.nest) (take l.i (streams_of d))
