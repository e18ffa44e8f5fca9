-- Document 01, the body and the plain run: lines, one instance on a store, the store after the first instances.
use Rattle.std.specs.Prelude.{cond, List, [], ◌∷◌, ◌++◌, map, ℕ, ◌+◌, length, get_or, set, take}
use Rattle.integers.specs.Vectors.{image}
use Rattle.integers.specs.declared.V3.{V3}
use Rattle.meaning.specs.declared.Nest.{Nest}
use Rattle.meaning.specs.declared.Stream.{Stream}
use Rattle.meaning.specs.declared.Line.{Line}
use Rattle.meaning.specs.declared.Description.{Description}
use Rattle.meaning.specs.Lists.{total}
use Rattle.meaning.specs.Loops.{instances}
use Rattle.meaning.specs.Space.{box_of, row_index}
use Rattle.meaning.specs.Streams.{elements}
use Rattle.meaning.specs.Operations.{operate}
use Rattle.meaning.specs.Guards.{admits}
use Rattle.meaning.specs.Description.{streams_of, lines_of}

-- ---- lines

-- what a line makes of the values of the streams and the two scratch values
abbrev pub result_of : Line → List ℕ → ℕ
result_of l vs = operate l.operation (get_or vs l.first 0) (get_or vs l.second 0)

-- one line of instance x: its result is put into its target, or, if its guard does not admit it, all values stay
abbrev pub run_line : V3 → Line → List ℕ → List ℕ
run_line x l vs = cond (admits l x) (set vs l.target (result_of l vs)) vs

unfoldable pub run_lines : V3 → List Line → List ℕ → List ℕ
run_lines x [] vs = vs
run_lines x (l ∷ ls) vs = run_lines x ls (run_line x l vs)

-- the body of instance x on the streams' values: "m and m+1 are scratch, zero at the start of every instance"
abbrev pub body : Description → V3 → List ℕ → List ℕ
body d x vs = take (length vs) (run_lines x (lines_of d) (vs ++ (0 ∷ 0 ∷ [])))

-- ---- the store: a value for each element, "element order is by stream, and so within each"

-- the number of stream i's first element, and E
abbrev pub stream_start : Nest → List Stream → ℕ → ℕ
stream_start n ss i = total (λ s. length (elements n s)) (take i ss)

abbrev pub element_count : Nest → List Stream → ℕ
element_count n ss = total (λ s. length (elements n s)) ss

-- the numbers of the elements that instance x touches, by stream; k is the number of the first element of all
unfoldable pub touched_from : Nest → ℕ → List Stream → V3 → List ℕ
touched_from n k [] x = []
touched_from n k (s ∷ ss) x = (k + row_index (box_of n s.map) (image s.map x)) ∷ touched_from n (k + length (elements n s)) ss x

abbrev pub touched_by : Description → V3 → List ℕ
touched_by d x = touched_from d.nest 0 (streams_of d) x

-- the values at some places, and new ones put there
abbrev pub gather : List ℕ → List ℕ → List ℕ
gather store es = map (λ e. get_or store e 0) es

unfoldable pub scatter : List ℕ → List ℕ → List ℕ → List ℕ
scatter store [] vs = store
scatter store (e ∷ es) [] = store
scatter store (e ∷ es) (v ∷ vs) = scatter (set store e v) es vs

-- ---- the plain run

-- one instance on a store
unfoldable pub execute : Description → V3 → List ℕ → List ℕ
execute d x store = scatter store (touched_by d x) (body d x (gather store (touched_by d x)))

unfoldable pub execute_all : Description → List V3 → List ℕ → List ℕ
execute_all d [] store = store
execute_all d (x ∷ xs) store = execute_all d xs (execute d x store)

-- the store after the first j instances of the written order
abbrev pub store_after : Description → ℕ → List ℕ → List ℕ
store_after d j store = execute_all d (take j (instances d.nest)) store

-- "a final value is what the plain run, on the values given to Start, leaves in that element"
abbrev pub final_values : Description → List ℕ → List ℕ
final_values d values = execute_all d (instances d.nest) values
