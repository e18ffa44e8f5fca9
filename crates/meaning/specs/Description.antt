-- Document 01, "The description": signed words as bytes and bytes to words, the length that the sizes give, the range of every word,
-- decoding; refusals 1 to 5.
use Rattle.std.specs.Prelude.{Bool, not, cond, ◌&&◌, ◌||◌, List, [], ◌∷◌, map, ◌++◌, ℕ, suc, ◌+◌, ◌*◌, ◌-◌, ◌/◌, ◌%◌, eqb, leb, ltb, length}
use Rattle.std.specs.Prelude.{take, replicate, ℤ, pos, negsuc}
use Rattle.std.specs.Int.Signed.{le_z, lt_z}
use Rattle.std.specs.Int.{w32}
use Rattle.std.proofs.Common.{of_z}
use Rattle.integers.specs.Bytes.{bits_at, word_at}
use Rattle.integers.specs.Words.{eq_z}
use Rattle.integers.specs.Vectors.{zero2, zero3}
use Rattle.integers.specs.declared.V3.{V3}
use Rattle.integers.specs.declared.V2.{V2}
use Rattle.integers.specs.declared.Matrix.{Matrix}
use Rattle.meaning.specs.declared.Range.{Range}
use Rattle.meaning.specs.declared.Sizes.{Sizes}
use Rattle.meaning.specs.declared.Nest.{Nest}
use Rattle.meaning.specs.declared.Stream.{Stream}
use Rattle.meaning.specs.declared.Line.{Line}
use Rattle.meaning.specs.declared.Description.{Description}
use Rattle.meaning.specs.Lists.{every, any, each, numbers, numbers_from}
use Rattle.meaning.specs.Operations.{last_operation}
use Rattle.meaning.specs.Guards.{last_comparison}

-- ---- words as bytes

-- "signed 32-bit words, least byte first": the bytes of 32 bits, and of words
abbrev pub bytes_of : ℕ → List ℕ
bytes_of u = u % 256 ∷ u / 256 % 256 ∷ u / 65536 % 256 ∷ u / 16777216 % 256 ∷ []

abbrev pub bytes : List ℤ → List ℕ
bytes ws = each (λ w. bytes_of (of_z w32 w)) ws

-- ---- sizes and lengths

abbrev pub sizes : ℕ → ℕ → ℕ → Sizes
sizes r m b = record { loops = r; streams = m; lines = b }

-- "first three sizes: loops r, streams m, body lines b"; as bits, so that a negative one is far out of range
abbrev pub sizes_of : List ℕ → Sizes
sizes_of s = sizes (bits_at s 0) (bits_at s 1) (bits_at s 2)

-- the words of a matrix: "r−1 rows of r words"
abbrev pub matrix_words : Sizes → ℕ
matrix_words z = (z.loops - 1) * z.loops

-- the word at which each part begins: left and right bounds, directions, steps, place, index map i, loading vector i, line i
abbrev pub left_at : Sizes → ℕ
left_at z = 3

abbrev pub right_at : Sizes → ℕ
right_at z = left_at z + z.loops

abbrev pub direction_at : Sizes → ℕ
direction_at z = right_at z + z.loops

abbrev pub step_at : Sizes → ℕ
step_at z = direction_at z + z.loops

abbrev pub place_at : Sizes → ℕ
place_at z = step_at z + z.loops

abbrev pub map_at : Sizes → ℕ → ℕ
map_at z i = place_at z + matrix_words z + i * matrix_words z

abbrev pub loading_at : Sizes → ℕ → ℕ
loading_at z i = map_at z z.streams + i * (z.loops - 1)

-- the words of a line: operation, target, first and second operand; loop number, comparison and bound of its guard
abbrev pub line_words : ℕ
line_words = 7

abbrev pub line_at : Sizes → ℕ → ℕ
line_at z i = loading_at z z.streams + i * line_words

-- the number of words that the sizes give
abbrev pub words_of : Sizes → ℕ
words_of z = line_at z z.lines

-- ---- ranges

infix 20 ◌to◌
abbrev pub ◌to◌ : ℤ → ℤ → Range
lo to hi = record { least = lo; greatest = hi }

abbrev pub between : ℤ → ℤ → ℤ → Bool
between lo hi w = le_z lo w && le_z w hi

abbrev pub within : Range → ℤ → Bool
within r w = between r.least r.greatest w

-- the range of word j of a line: operations 0 to 6 (5 before request 2.1), targets and operands 0 to m+1; of its guard (request 2.5) the
-- loop number 0 to r−1, the comparison 0 to 3, the bound −64 to 64
abbrev pub line_range : Sizes → ℕ → Range
line_range z j =
    cond (eqb j 0) (pos 0 to pos last_operation)
    (cond (ltb j 4) (pos 0 to pos (suc z.streams))
    (cond (eqb j 4) (pos 0 to pos (z.loops - 1))
    (cond (eqb j 5) (pos 0 to pos last_comparison)
    (negsuc 63 to pos 64))))

-- the range of word k, if it is no direction: bounds −64 to 64, steps −8 to 8, matrix words −4 to 4, loading −1 to 1, then lines
abbrev pub range_at : Sizes → ℕ → Range
range_at z k =
    cond (ltb k (direction_at z)) (negsuc 63 to pos 64)
    (cond (ltb k (place_at z)) (negsuc 7 to pos 8)
    (cond (ltb k (loading_at z 0)) (negsuc 3 to pos 4)
    (cond (ltb k (line_at z 0)) (negsuc 0 to pos 1)
    (line_range z ((k - line_at z 0) % line_words)))))

abbrev pub is_direction : Sizes → ℕ → Bool
is_direction z k = not (ltb k (direction_at z)) && ltb k (step_at z)

-- word k is in its range; "directions (1 or −1)"
abbrev pub in_range : Sizes → ℕ → ℤ → Bool
in_range z k w = cond (is_direction z k) (eq_z w (pos 1) || eq_z w (negsuc 0)) (within (range_at z k) w)

-- ---- decoding: two loops become three

-- r words from word k on, as a vector; pad is its third component for two loops
abbrev pub vector_at : List ℕ → Sizes → ℕ → ℤ → V3
vector_at s z k pad = record { x = word_at s k; y = word_at s (k + 1); z = cond (eqb z.loops 2) pad (word_at s (k + 2)) }

-- the second row of a matrix of two loops
abbrev pub unit3 : V3
unit3 = record { x = pos 0; y = pos 0; z = pos 1 }

abbrev pub matrix_at : List ℕ → Sizes → ℕ → Matrix
matrix_at s z k = record { top = vector_at s z k (pos 0); low = cond (eqb z.loops 2) unit3 (vector_at s z (k + 3) (pos 0)) }

unfoldable pub nest_of : List ℕ → Sizes → Nest
nest_of s z =
    record {
      left = vector_at s z (left_at z) (pos 0);
      right = vector_at s z (right_at z) (pos 0);
      direction = vector_at s z (direction_at z) (pos 1);
      step = vector_at s z (step_at z) (pos 0);
      place = matrix_at s z (place_at z);
    }

abbrev pub loading_of : List ℕ → Sizes → ℕ → V2
loading_of s z k = record { a = word_at s k; b = cond (eqb z.loops 2) (pos 0) (word_at s (k + 1)) }

unfoldable pub stream_of : List ℕ → Sizes → ℕ → Stream
stream_of s z i = record { map = matrix_at s z (map_at z i); loading = loading_of s z (loading_at z i) }

unfoldable pub body_line : List ℕ → Sizes → ℕ → Line
body_line s z i =
    record {
      operation = bits_at s (line_at z i);
      target = bits_at s (line_at z i + 1);
      first = bits_at s (line_at z i + 2);
      second = bits_at s (line_at z i + 3);
      index = bits_at s (line_at z i + 4);
      comparison = bits_at s (line_at z i + 5);
      bound = word_at s (line_at z i + 6);
    }

abbrev pub no_stream : Stream
no_stream = record { map = record { top = zero3; low = zero3 }; loading = zero2 }

abbrev pub no_line : Line
no_line = record { operation = 0; target = 0; first = 0; second = 0; index = 0; comparison = 0; bound = pos 0 }

-- of given sizes, and of its own
abbrev pub decoded : List ℕ → Sizes → Description
decoded s z =
    record {
      sizes = z;
      nest = nest_of s z;
      streams = map (stream_of s z) (numbers z.streams) ++ replicate (6 - z.streams) no_stream;
      lines = map (body_line s z) (numbers z.lines) ++ replicate (8 - z.lines) no_line;
    }

unfoldable pub description_of : List ℕ → Description
description_of s = decoded s (sizes_of s)

-- the streams and lines in use
abbrev pub streams_of : Description → List Stream
streams_of d = take d.sizes.streams d.streams

abbrev pub lines_of : Description → List Line
lines_of d = take d.sizes.lines d.lines

-- "a stream is written if it is some line's target"
abbrev pub written : Description → ℕ → Bool
written d i = any (λ l. eqb l.target i) (lines_of d)

-- ---- refusals 1 to 5

-- 1: "under 12 bytes"
abbrev pub refused1 : List ℕ → Bool
refused1 s = ltb (length s) 12

-- 2: "a size out of range"
abbrev pub refused2 : Sizes → Bool
refused2 z =
    not (leb 2 z.loops && leb z.loops 3) || not (leb 1 z.streams && leb z.streams 6)
    || not (leb 1 z.lines && leb z.lines 8)

-- 3: "not the length that the sizes give"
abbrev pub refused3 : List ℕ → Sizes → Bool
refused3 s z = not (eqb (length s) (4 * words_of z))

-- 4: "a word out of range"
abbrev pub refused4 : List ℕ → Sizes → Bool
refused4 s z = not (every (λ k. in_range z k (word_at s k)) (numbers_from 3 (words_of z - 3)))

-- 5: "a left bound above its right"
abbrev pub refused5 : Nest → Bool
refused5 n = lt_z n.right.x n.left.x || lt_z n.right.y n.left.y || lt_z n.right.z n.left.z
