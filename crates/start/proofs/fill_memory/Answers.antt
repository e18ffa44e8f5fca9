-- `start::fill_memory` meets its contract: a value put at its element's place stands in pipe order, and the figures say how many words to
-- clear, no more than the lists have. Assumes nothing.
use native.Mathlib.Omega.{arith}
use Rattle.start.specs.Call.{elements_is, words_is, putting, memory_filled}
use Rattle.start.proofs.fill_memory.Goals as goal

pub fill_places-requires : goal.fill_places-requires
fill_places-requires c = let p = c.requires in
    (p.0.placeable, p.1, omega arith, p.2, omega arith)

pub put_values-requires : goal.put_values-requires
put_values-requires c =
    putting c.requires.0 c.fill_places.ensures
    (omega (arith, c.fill_places.auto.places))

pub clear-requires : goal.clear-requires
clear-requires c =
    let p = c.requires.0 in
    omega (arith, elements_is p, p.received)

pub clear-requires-2 : goal.clear-requires-2
clear-requires-2 c = let p = c.requires.0 in omega (arith, words_is p, p.state)

pub returns : goal.returns
returns c =
    memory_filled c.requires.0
    c.fill_places.ensures c.put_values.ensures
    c.clear.ensures c.clear-2.ensures
