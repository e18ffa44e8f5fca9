-- `elements::elements_in` meets its contract: after i turns the sum is the number of stream i's first element. Assumes nothing.
use mathlib.Core.Path.{◌≡◌}
use Rattle.meaning.specs.Description.{streams_of}
use Rattle.meaning.specs.Body.{stream_start}
use Rattle.elements.proofs.elements_in.Given as goal

abbrev pub invariant-loop-i : goal.invariant-loop-i
invariant-loop-i l = let d = l.v.description in l.sum ≡ stream_start d.nest (streams_of d) l.i
