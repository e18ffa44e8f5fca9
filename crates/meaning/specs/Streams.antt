-- Document 01, words of the trade: of a stream its line, move and hop, its box and its elements.
use Rattle.std.specs.Prelude.{Bool, cond, List, ℕ}
use Rattle.integers.specs.Differences.{up}
use Rattle.integers.specs.Vectors.{zero2, image}
use Rattle.integers.specs.declared.V3.{V3}
use Rattle.integers.specs.declared.V2.{V2}
use Rattle.meaning.specs.declared.Nest.{Nest}
use Rattle.meaning.specs.declared.Stream.{Stream}
use Rattle.meaning.specs.Lists.{any}
use Rattle.meaning.specs.Loops.{instances, line_of, place_of, step_of, increment}
use Rattle.meaning.specs.Space.{eq2, points, box_of}

-- "the shortest such vector for its index map, turned the same way"
abbrev pub line : Nest → Stream → V3
line n s = line_of n s.map

-- "move zero: the stream is stationary, its move is its loading vector and its hop 1"
abbrev pub stationary : Nest → Stream → Bool
stationary n s = eq2 (place_of n (line n s)) zero2

abbrev pub move : Nest → Stream → V2
move n s = cond (stationary n s) s.loading (place_of n (line n s))

abbrev pub hop : Nest → Stream → ℕ
hop n s = cond (stationary n s) 1 (up (step_of n (line n s)))

-- "the least box around its index map's values. Its elements lie in row order"
abbrev pub elements : Nest → Stream → List V2
elements n s = points (box_of n s.map)

-- an instance touches the element that the index map sends it to
abbrev pub touches : Stream → V3 → V2 → Bool
touches s x e = eq2 (image s.map x) e

abbrev pub touched : Nest → Stream → V2 → Bool
touched n s e = any (λ x. touches s x e) (instances n)

-- index map times increment: how far apart the elements of a process's consecutive instances lie
abbrev pub pass : Nest → Stream → V2
pass n s = image s.map (increment n)
