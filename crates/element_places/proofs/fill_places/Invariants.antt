-- `element_places::fill_places` meets its contract: the places of the elements of the first i streams stand. Assumes nothing.
use mathlib.Core.Path.{◌≡◌}
use Prim.Native.Nat.{ℕ, ◌<◌}
use lib.ListN.{get_or}
use Rattle.meaning.specs.Description.{streams_of}
use Rattle.meaning.specs.Body.{stream_start}
use Rattle.element_places.specs.Order.{place_of_element}
use Rattle.element_places.proofs.fill_places.Given as goal

abbrev pub invariant-loop-i : goal.invariant-loop-i
invariant-loop-i l =
    let d = l.v.description in
    (e : ℕ) → e < stream_start d.nest (streams_of d) l.i → get_or l.places e 0 ≡ place_of_element d e
