-- The documents' designs as a user gives them, bytes, and what the cases lend to a call.
use Rattle.std.specs.Prelude.{List, [], ◌∷◌, ◌++◌, ℕ, length, get_or, replicate, ℤ, pos, negsuc}
use Rattle.meaning.specs.declared.Nest.{Nest}
use Rattle.meaning.specs.declared.Stream.{Stream}
use Rattle.meaning.specs.declared.Row.{Row}
use Rattle.meaning.specs.Limits.{gauge_limits}
use Rattle.meaning.specs.Lists.{each}
use Rattle.meaning.specs.Description.{bytes, no_stream, description_of}
use Rattle.meaning.specs.Rules.{Memory}
use Rattle.meaning.specs.Calls.{start}

-- ---- bodies: streams a, b, c are 0, 1, 2, scratch is 3

-- a line with its guard: loop number, comparison, bound; and one that always runs
abbrev pub guarded : ℕ → ℕ → ℕ → ℕ → ℤ → ℤ → ℤ → List ℤ
guarded op target first second loop comparison bound =
    pos op ∷ pos target ∷ pos first ∷ pos second ∷ loop ∷ comparison ∷ bound ∷ []

abbrev pub line : ℕ → ℕ → ℕ → ℕ → List ℤ
line op target first second = guarded op target first second (pos 0) (pos 0) (pos 0)

-- the words of lines, one behind the other
abbrev pub words_of : List (List ℤ) → List ℤ
words_of body = each (λ l. l) body

-- scratch := a times b by an operation, c := c + scratch
abbrev pub product_by : ℕ → List (List ℤ)
product_by op = line op 3 0 1 ∷ line 1 2 2 3 ∷ []

abbrev pub product : List (List ℤ)
product = product_by 3

-- c := scratch, which is zero, under a guard
abbrev pub clear : ℕ → ℕ → ℤ → List ℤ
clear loop comparison bound = guarded 0 2 3 3 (pos loop) (pos comparison) bound

-- ---- designs

-- the polynomial product on loops 0..m and 0..n: step, place and c's map as two words, loading of a, b and c as three, body
abbrev pub polynomial_by : List (List ℤ) → ℕ → ℕ → List ℤ → List ℤ → List ℤ → List ℤ → List ℕ
polynomial_by body m n step place c loading =
    bytes
    ((pos 2 ∷ pos 3 ∷ pos (length body) ∷ pos 0 ∷ pos 0 ∷ pos m ∷ pos n ∷ pos 1 ∷ pos 1 ∷ [])
    ++ (step ++ (place ++ ((pos 1 ∷ pos 0 ∷ pos 0 ∷ pos 1 ∷ []) ++ (c ++ (loading ++ words_of body))))))

abbrev pub polynomial : ℕ → ℕ → List ℤ → List ℤ → List ℤ → List ℤ → List ℕ
polynomial = polynomial_by product

abbrev pub pair : ℤ → ℤ → List ℤ
pair i j = i ∷ j ∷ []

-- design one with some body, and with the product by an operation, on loops 0..n twice
abbrev pub design_one_with : List (List ℤ) → ℕ → List ℕ
design_one_with body n =
    polynomial_by body n n (pair (pos 2) (pos 1)) (pair (pos 1) (pos 0)) (pair (pos 1) (pos 1)) (pos 1 ∷ pos 0 ∷ pos 0 ∷ [])

abbrev pub design_one_by : ℕ → ℕ → List ℕ
design_one_by op n = design_one_with (product_by op) n

-- "loops 0..2 and 0..2, directions 1, step 2i+j, streams a: i, b: j, c: i+j. Design one: place i, loading 1 for a. Design two: place i+j,
-- loading 1 for c"
abbrev pub design_one : List ℕ
design_one = design_one_by 3 2

abbrev pub design_two : List ℕ
design_two = polynomial 2 2 (pair (pos 2) (pos 1)) (pair (pos 1) (pos 1)) (pair (pos 1) (pos 1)) (pos 0 ∷ pos 0 ∷ pos 1 ∷ [])

-- "a 1,2,3, b 4,5,6, c zeros"
abbrev pub values : List ℕ
values = 1 ∷ 2 ∷ 3 ∷ 4 ∷ 5 ∷ 6 ∷ 0 ∷ 0 ∷ 0 ∷ 0 ∷ 0 ∷ []

-- the same as 16.16 numbers (request 2.1)
abbrev pub fixed_values : List ℕ
fixed_values = 65536 ∷ 131072 ∷ 196608 ∷ 262144 ∷ 327680 ∷ 393216 ∷ 0 ∷ 0 ∷ 0 ∷ 0 ∷ 0 ∷ []

-- the same with c as it comes, not cleared (request 2.5)
abbrev pub uncleared : List ℕ
uncleared = 1 ∷ 2 ∷ 3 ∷ 4 ∷ 5 ∷ 6 ∷ 9 ∷ 8 ∷ 7 ∷ 6 ∷ 5 ∷ []

-- design one with loop 0 from right to left, step −2i+j and the body scratch := a times b, c := scratch − c, whose order counts; the hop of
-- c is 3
abbrev pub turned : List ℕ
turned =
    bytes
    ((pos 2 ∷ pos 3 ∷ pos 2 ∷ pos 0 ∷ pos 0 ∷ pos 2 ∷ pos 2 ∷ negsuc 0 ∷ pos 1 ∷ negsuc 1 ∷ pos 1 ∷ pos 1 ∷ pos 0 ∷ [])
    ++ ((pos 1 ∷ pos 0 ∷ pos 0 ∷ pos 1 ∷ pos 1 ∷ pos 1 ∷ []) ++ ((pos 1 ∷ pos 0 ∷ pos 0 ∷ []) ++ (line 3 3 0 1 ++ line 2 2 3 2))))

-- request 2.2's decimating filter on loops 0..m and 0..n: place 2i+j, step 3i+j, streams y: i, x: 2i+j with loading 1, w: i+j; body scratch
-- := x times w, y := y + scratch, so that each y is a sum over its window, and the windows begin at every second x
abbrev pub decimating : ℕ → ℕ → List ℕ
decimating m n =
    bytes
    ((pos 2 ∷ pos 3 ∷ pos 2 ∷ pos 0 ∷ pos 0 ∷ pos m ∷ pos n ∷ pos 1 ∷ pos 1 ∷ pos 3 ∷ pos 1 ∷ pos 2 ∷ pos 1 ∷ [])
    ++ ((pos 1 ∷ pos 0 ∷ pos 2 ∷ pos 1 ∷ pos 1 ∷ pos 1 ∷ []) ++ ((pos 0 ∷ pos 1 ∷ pos 0 ∷ []) ++ (line 3 3 1 2 ++ line 1 0 0 3))))

-- the matrix product on loops 0..1, 0..n and 0..1, the last in direction d, step i+j+d·k, place as six words, loading of c as two, body:
-- streams a: (i,k), b: (k,j), c: (i,j)
abbrev pub matrices_by : List (List ℤ) → ℕ → ℤ → List ℤ → List ℤ → List ℕ
matrices_by body n d place loading =
    bytes
    ((pos 3 ∷ pos 3 ∷ pos (length body) ∷ pos 0 ∷ pos 0 ∷ pos 0 ∷ pos 1 ∷ pos n ∷ pos 1 ∷ pos 1 ∷ pos 1 ∷ d ∷ pos 1 ∷ pos 1 ∷ d ∷ [])
    ++ (place ++ ((pos 1 ∷ pos 0 ∷ pos 0 ∷ pos 0 ∷ pos 0 ∷ pos 1 ∷ []) ++ ((pos 0 ∷ pos 0 ∷ pos 1 ∷ pos 0 ∷ pos 1 ∷ pos 0 ∷ [])
    ++ ((pos 1 ∷ pos 0 ∷ pos 0 ∷ pos 0 ∷ pos 1 ∷ pos 0 ∷ []) ++ ((pos 0 ∷ pos 0 ∷ pos 0 ∷ pos 0 ∷ []) ++ (loading ++ words_of body)))))))

abbrev pub matrices : ℕ → List ℤ → List ℕ
matrices n place = matrices_by product n (pos 1) place (pair (pos 0) (pos 0))

-- 2 by 2 with place (i−k, j−k): 9 processes, 2 of them null; with place (i+k, j+k) the increment is (1,1,−1)
abbrev pub matrix_product : List ℕ
matrix_product = matrices 1 (pos 1 ∷ pos 0 ∷ negsuc 0 ∷ pos 0 ∷ pos 1 ∷ negsuc 0 ∷ [])

abbrev pub matrix_rising : List ℕ
matrix_rising = matrices 1 (pos 1 ∷ pos 0 ∷ pos 1 ∷ pos 0 ∷ pos 1 ∷ pos 1 ∷ [])

-- and 2 by 2 times a column, place (i−k, j−k): 6 processes, 2 of them null
abbrev pub column_product : List ℕ
column_product = matrices 0 (pos 1 ∷ pos 0 ∷ negsuc 0 ∷ pos 0 ∷ pos 1 ∷ negsuc 0 ∷ [])

-- 2 by 2 times a column with some body, place (i, j), so that c is kept, and the last loop from right to left: 2 processes
abbrev pub column_with : List (List ℤ) → List ℕ
column_with body = matrices_by body 0 (negsuc 0) (pos 1 ∷ pos 0 ∷ pos 0 ∷ pos 0 ∷ pos 1 ∷ pos 0 ∷ []) (pair (pos 1) (pos 0))

-- ---- request 2.5: sums that a guard clears where they begin

-- design one, c cleared under i = 0 and under j = 2
abbrev pub cleared_one : List ℕ
cleared_one = design_one_with (clear 0 1 (pos 0) ∷ clear 1 1 (pos 2) ∷ product) 2

-- the same product on loops 1..3 and −1..1, both from right to left, step −2i−j, c cleared under i at least 3 and under j at most −1
abbrev pub cleared_turned : List ℕ
cleared_turned =
    bytes
    ((pos 2 ∷ pos 3 ∷ pos 4 ∷ pos 1 ∷ negsuc 0 ∷ pos 3 ∷ pos 1 ∷ negsuc 0 ∷ negsuc 0 ∷ negsuc 1 ∷ negsuc 0 ∷ pos 1 ∷ pos 0 ∷ [])
    ++ ((pos 1 ∷ pos 0 ∷ pos 0 ∷ pos 1 ∷ pos 1 ∷ pos 1 ∷ []) ++ ((pos 1 ∷ pos 0 ∷ pos 0 ∷ [])
    ++ words_of (clear 0 3 (pos 3) ∷ clear 1 2 (negsuc 0) ∷ product))))

-- 2 by 2 times a column, k from right to left, c cleared under k = 1
abbrev pub cleared_column : List ℕ
cleared_column = column_with (clear 2 1 (pos 1) ∷ product)

-- ---- request 2.7: places and elements that lie apart

-- 2 by 2 with place (i+j, i−j), c kept: 9 processes, every second one of a row null
abbrev pub matrix_slanted : List ℕ
matrix_slanted = matrices_by product 1 (pos 1) (pos 1 ∷ pos 1 ∷ pos 0 ∷ pos 1 ∷ negsuc 0 ∷ pos 0 ∷ []) (pair (pos 1) (pos 0))

-- y := y + x on loops 0..2 twice, place 2i, step 2i+j, streams x: i, y: i, both kept: 5 processes, every second one null
abbrev pub spaced : List ℕ
spaced =
    bytes
    ((pos 2 ∷ pos 2 ∷ pos 1 ∷ pos 0 ∷ pos 0 ∷ pos 2 ∷ pos 2 ∷ pos 1 ∷ pos 1 ∷ pos 2 ∷ pos 1 ∷ pos 2 ∷ pos 0 ∷ [])
    ++ ((pos 1 ∷ pos 0 ∷ pos 1 ∷ pos 0 ∷ pos 1 ∷ pos 1 ∷ []) ++ line 1 1 1 0))

-- one instance, place −3i, step 2i+j, six streams with index maps i, 2i, 3i, 4i, −4i and −2i, all kept
abbrev pub six_streams : List ℕ
six_streams =
    bytes
    ((pos 2 ∷ pos 6 ∷ pos 1 ∷ pos 0 ∷ pos 0 ∷ pos 0 ∷ pos 0 ∷ pos 1 ∷ pos 1 ∷ pos 2 ∷ pos 1 ∷ negsuc 2 ∷ pos 0 ∷ [])
    ++ ((pos 1 ∷ pos 0 ∷ pos 2 ∷ pos 0 ∷ pos 3 ∷ pos 0 ∷ pos 4 ∷ pos 0 ∷ negsuc 3 ∷ pos 0 ∷ negsuc 1 ∷ pos 0 ∷ [])
    ++ ((pos 1 ∷ pos 1 ∷ pos 1 ∷ pos 1 ∷ pos 1 ∷ pos 1 ∷ []) ++ line 0 0 1 1)))

-- one instance of three loops, place (i, j), step i+j+k, one stream with index map (4i+4j, 4i−4j), kept
abbrev pub far_apart : List ℕ
far_apart =
    bytes
    ((pos 3 ∷ pos 1 ∷ pos 1 ∷ pos 0 ∷ pos 0 ∷ pos 0 ∷ pos 0 ∷ pos 0 ∷ pos 0 ∷ pos 1 ∷ pos 1 ∷ pos 1 ∷ pos 1 ∷ pos 1 ∷ pos 1 ∷ [])
    ++ ((pos 1 ∷ pos 0 ∷ pos 0 ∷ pos 0 ∷ pos 1 ∷ pos 0 ∷ pos 4 ∷ pos 4 ∷ pos 0 ∷ pos 4 ∷ negsuc 3 ∷ pos 0 ∷ pos 1 ∷ pos 0 ∷ [])
    ++ line 0 0 0 0))

-- the divisors of place and of three streams, none above 1
abbrev pub undivided : List ℕ
undivided = 1 ∷ 1 ∷ 1 ∷ 1 ∷ 0 ∷ 0 ∷ 0 ∷ []

-- a 1,2 above 3,4, b 5,6 above 7,8, c zeros
abbrev pub matrix_values : List ℕ
matrix_values = 1 ∷ 2 ∷ 3 ∷ 4 ∷ 5 ∷ 6 ∷ 7 ∷ 8 ∷ 0 ∷ 0 ∷ 0 ∷ 0 ∷ []

-- of a description its nest and stream i
abbrev pub nest : List ℕ → Nest
nest s = (description_of s).nest

abbrev pub stream : List ℕ → ℕ → Stream
stream s i = get_or (description_of s).streams i no_stream

-- lent as they come, full of junk: a row, and lists for e elements with a state of n words
abbrev pub blank : Row
blank =
    record {
      point = record { a = pos 7; b = pos 7 };
      count = 7;
      first = record { x = pos 7; y = pos 7; z = pos 7 };
      last = record { x = pos 7; y = pos 7; z = pos 7 };
      soak = [];
      drain = [];
    }

abbrev pub lent : ℕ → ℕ → Memory
lent e n = record { waiting = replicate e 7; received = replicate e 8; state = replicate n 9 }

-- a design started on some values, or on those above, on a state of n words
abbrev pub started_with : List ℕ → List ℕ → ℕ → Memory
started_with s vs n = (start gauge_limits s vs (lent (length vs) n)).memory

abbrev pub started_on : List ℕ → ℕ → Memory
started_on s n = started_with s values n
