-- Demand 2, "a description is accepted exactly if it meets 01's conditions": the conditions said a second time, for people, as propositions
-- about the description's words and points, with none of Accept's tests in them. That Accept answers by them, both ways, is
-- `accepted-exactly` and `refused-exactly` of guarantee.
use Rattle.std.specs.Prelude.{◌≡◌, ◌↔◌, ℕ, ◌+◌, ◌*◌, ◌-◌, ◌≤◌, ◌<◌, length, get_or, ℤ, pos, negsuc, ◌+ℤ◌, ◌-ℤ◌, ◌*ℤ◌, ◌≤ℤ◌, ◌<ℤ◌}
use mathlib.Core.List.{List, [], ◌∷◌, ◌++◌, Memᴰ as In}
use Rattle.integers.specs.Bytes.{word_at}
use Rattle.integers.specs.Vectors.{zero2, zero3, add3, scale3, image}
use Rattle.integers.specs.declared.V3.{V3}
use Rattle.integers.specs.declared.V2.{V2}
use Rattle.integers.specs.declared.Matrix.{Matrix}
use Rattle.meaning.specs.declared.Limits.{Limits}
use Rattle.meaning.specs.declared.Sizes.{Sizes}
use Rattle.meaning.specs.declared.Nest.{Nest}
use Rattle.meaning.specs.declared.Stream.{Stream}
use Rattle.meaning.specs.declared.Line.{Line as BodyLine}
use Rattle.meaning.specs.declared.Description.{Description}
use Rattle.meaning.specs.Answers.{Accepted, Refused}
use Rattle.meaning.specs.Lists.{each, numbers}
use Rattle.meaning.specs.Loops.{step_of, place_of}
use Rattle.meaning.specs.Space.{Box}
use Rattle.meaning.specs.Points.{Direction, Between, Within, At, IsLine, Inside}
use Rattle.meaning.specs.Operations.{last_operation}
use Rattle.meaning.specs.Description.{sizes_of, matrix_words, left_at, right_at, direction_at, step_at, place_at, map_at, loading_at}
use Rattle.meaning.specs.Description.{line_at}
use Rattle.meaning.specs.Description.{description_of, no_stream, streams_of, lines_of}
use Rattle.meaning.specs.Accept.{accept, figures, divisors}

-- ---- 33: the board

-- "0 gauge or 1 bench"
abbrev pub Known : Limits → Type 0
Known l = l.board ≤ 1

-- ---- 1 to 4: the words

-- "loops r (2 or 3), streams m (1 to 6), body lines b (1 to 8)"
pub record SizesFit (z : Sizes) : Type 0 where
  pub loops : (2 ≤ z.loops) × (z.loops ≤ 3)
  pub streams : (1 ≤ z.streams) × (z.streams ≤ 6)
  pub lines : (1 ≤ z.lines) × (z.lines ≤ 8)

-- document 01: the sizes; left and right bounds, directions, step; place; by stream an index map; by stream a loading vector; by line four
-- words
abbrev pub former_total : Sizes → ℕ
former_total z =
    let r = z.loops in let m = z.streams in 3 + 4 * r + (r - 1) * r + m * ((r - 1) * r) + m * (r - 1) + 4 * z.lines

-- request 2.5: "each line gains three words after its four"
abbrev pub word_total : Sizes → ℕ
word_total z = former_total z + 3 * z.lines

-- the guard of line i, request 2.5: "a loop number (0 to r−1), a comparison (0 always, 1 equal, 2 at most, 3 at least) and a bound from −64
-- to 64"
pub record GuardFits (s : List ℕ) (z : Sizes) (i : ℕ) : Type 0 where
  pub index : Between (pos 0) (pos (z.loops - 1)) (word_at s (line_at z i + 4))
  pub comparison : Between (pos 0) (pos 3) (word_at s (line_at z i + 5))
  pub bound : Between (negsuc 63) (pos 64) (word_at s (line_at z i + 6))

-- "bounds −64 to 64, directions 1 or −1, step −8 to 8, matrix words −4 to 4, loading −1 to 1, operations 0 to 5, targets and operands 0 to
-- m+1"; operations 0 to 6 by request 2.1
pub record WordsFit (s : List ℕ) (z : Sizes) : Type 0 where
  pub left : (j : ℕ) → j < z.loops → Between (negsuc 63) (pos 64) (word_at s (left_at z + j))
  pub right : (j : ℕ) → j < z.loops → Between (negsuc 63) (pos 64) (word_at s (right_at z + j))
  pub direction : (j : ℕ) → j < z.loops → Direction (word_at s (direction_at z + j))
  pub step : (j : ℕ) → j < z.loops → Between (negsuc 7) (pos 8) (word_at s (step_at z + j))
  pub place : (j : ℕ) → j < matrix_words z → Between (negsuc 3) (pos 4) (word_at s (place_at z + j))
  pub map : (i j : ℕ) → i < z.streams → j < matrix_words z → Between (negsuc 3) (pos 4) (word_at s (map_at z i + j))
  pub loading : (i j : ℕ) → i < z.streams → j < z.loops - 1 → Between (negsuc 0) (pos 1) (word_at s (loading_at z i + j))
  pub operation : (i : ℕ) → i < z.lines → Between (pos 0) (pos last_operation) (word_at s (line_at z i))
  pub target : (i : ℕ) → i < z.lines → Between (pos 0) (pos (z.streams + 1)) (word_at s (line_at z i + 1))
  pub first : (i : ℕ) → i < z.lines → Between (pos 0) (pos (z.streams + 1)) (word_at s (line_at z i + 2))
  pub second : (i : ℕ) → i < z.lines → Between (pos 0) (pos (z.streams + 1)) (word_at s (line_at z i + 3))
  pub guard : (i : ℕ) → i < z.lines → GuardFits s z i

-- ---- 5 to 8 and 10: the loops and place

-- no left bound above its right
pub record BoundsFit (n : Nest) : Type 0 where
  pub inx : n.left.x ≤ℤ n.right.x
  pub iny : n.left.y ≤ℤ n.right.y
  pub inz : n.left.z ≤ℤ n.right.z

-- how many instances: the product of how far each loop runs
abbrev pub extent : ℤ → ℤ → ℤ
extent left right = right -ℤ left +ℤ pos 1

abbrev pub volume : Nest → ℤ
volume n = (extent n.left.x n.right.x *ℤ extent n.left.y n.right.y) *ℤ extent n.left.z n.right.z

-- rank r−1: no whole combination of the rows is zero but the trivial one (of two loops the second row is that of the third loop: the first
-- is not zero)
abbrev pub FullRank : Matrix → Type 0
FullRank m = (a b : ℤ) → add3 (scale3 a m.top) (scale3 b m.low) ≡ zero3 → (a ≡ pos 0) × (b ≡ pos 0)

-- there is a shortest vector that the matrix sends to zero whose step is positive (and no other: `line-unique` of geometry)
abbrev pub HasLine : Nest → Matrix → Type 0
HasLine n m = (u : V3) × IsLine n m u

-- "the smallest box around" a matrix's values at "all instances": it has them all, and a box that has them all has its corners (there is
-- one and no other: `box-found` and `one-box` of guarantee)
pub record LeastBox (n : Nest) (m : Matrix) (k : Box) : Type 0 where
  pub has : (x : V3) → Within n x → Inside k (image m x)
  pub least : (j : Box) → ((x : V3) → Within n x → Inside j (image m x)) → Inside j k.lo × Inside j k.hi

-- how many points a box has
abbrev pub area : Box → ℤ
area k = extent k.lo.a k.hi.a *ℤ extent k.lo.b k.hi.b

-- the processes are the points of the process space
abbrev pub FewProcesses : Limits → Nest → Type 0
FewProcesses l n = (k : Box) → LeastBox n n.place k → area k ≤ℤ pos l.processes

-- ---- 11 to 17: a stream

-- a component from −1 to 1
abbrev pub Small : ℤ → Type 0
Small c = Between (negsuc 0) (pos 1) c

abbrev pub SmallMove : Nest → Stream → Type 0
SmallMove n s = (u : V3) → IsLine n s.map u → Small (place_of n u).a × Small (place_of n u).b

-- a stream moves if its line does not stay at one process
abbrev pub Moves : Nest → V3 → Type 0
Moves n u = place_of n u ≡ zero2 → ⊥

abbrev pub ShortHop : Limits → Nest → Stream → Type 0
ShortHop l n s = (u : V3) → IsLine n s.map u → Moves n u → step_of n u ≤ℤ pos l.hop

-- "a stream is written if it is some line's target"
abbrev pub Written : Description → ℕ → Type 0
Written d i = (t : BodyLine) × In t (lines_of d) × (t.target ≡ i)

-- the first non-zero component has the sign of that loop's direction
pub data Onward (direction v : V3) : Type 0 where
  by_first : pos 0 <ℤ (direction.x *ℤ v.x) → Onward direction v
  by_second : v.x ≡ pos 0 → pos 0 <ℤ (direction.y *ℤ v.y) → Onward direction v
  by_third : v.x ≡ pos 0 → v.y ≡ pos 0 → pos 0 <ℤ (direction.z *ℤ v.z) → Onward direction v

abbrev pub KeepsOrder : Nest → Stream → Type 0
KeepsOrder n s = (u : V3) → IsLine n s.map u → Onward n.direction u

-- moving without a loading vector, or stationary with one
abbrev pub LoadingFits : Nest → Stream → Type 0
LoadingFits n s = (u : V3) → IsLine n s.map u → (Moves n u → s.loading ≡ zero2) × (place_of n u ≡ zero2 → s.loading ≡ zero2 → ⊥)

-- every element of its box has an instance that the map sends to it
abbrev pub AllTouched : Nest → Stream → Type 0
AllTouched n s = (k : Box) → LeastBox n s.map k → (e : V2) → Inside k e → (x : V3) × At n s.map e x

-- ---- all of them

abbrev pub stream_of : Description → ℕ → Stream
stream_of d i = get_or (streams_of d) i no_stream

pub record StreamMeets (l : Limits) (d : Description) (i : ℕ) : Type 0 where
  pub rank : FullRank (stream_of d i).map
  pub line : HasLine d.nest (stream_of d i).map
  pub move : SmallMove d.nest (stream_of d i)
  pub hop : ShortHop l d.nest (stream_of d i)
  pub order : Written d i → KeepsOrder d.nest (stream_of d i)
  pub loading : LoadingFits d.nest (stream_of d i)
  pub touched : AllTouched d.nest (stream_of d i)

pub record Meets (l : Limits) (s : List ℕ) : Type 0 where
  pub board : Known l
  pub begins : 12 ≤ length s
  pub sizes : SizesFit (sizes_of s)
  pub long : length s ≡ 4 * word_total (sizes_of s)
  pub words : WordsFit s (sizes_of s)
  pub bounds : BoundsFit (description_of s).nest
  pub instances : volume (description_of s).nest ≤ℤ pos l.instances
  pub rank : FullRank (description_of s).nest.place
  pub increment : HasLine (description_of s).nest (description_of s).nest.place
  pub processes : FewProcesses l (description_of s).nest
  pub streams : (i : ℕ) → i < (sizes_of s).streams → StreamMeets l (description_of s) i

-- DEMAND 2: accepted exactly if it meets the conditions
abbrev pub AcceptedExactly : Type 0
AcceptedExactly = (l : Limits) (s : List ℕ) → (accept l s ≡ Accepted (figures (description_of s)) (divisors (description_of s))) ↔ Meets l s

-- ---- refused by the number of the first that fails

-- the conditions one by one; those of a stream with its number
pub data Condition : Type 0 where
  Board Begins Sizes-fit Long Words-fit Bounds-fit Instances Place-rank Increment Processes : Condition
  Rank Line Move Hop Order Loading Touched : ℕ → Condition

-- what each asks
abbrev pub Asks : Limits → List ℕ → Condition → Type 0
Asks l s Board = Known l
Asks l s Begins = 12 ≤ length s
Asks l s Sizes-fit = SizesFit (sizes_of s)
Asks l s Long = length s ≡ 4 * word_total (sizes_of s)
Asks l s Words-fit = WordsFit s (sizes_of s)
Asks l s Bounds-fit = BoundsFit (description_of s).nest
Asks l s Instances = volume (description_of s).nest ≤ℤ pos l.instances
Asks l s Place-rank = FullRank (description_of s).nest.place
Asks l s Increment = HasLine (description_of s).nest (description_of s).nest.place
Asks l s Processes = FewProcesses l (description_of s).nest
Asks l s (Rank i) = FullRank (stream_of (description_of s) i).map
Asks l s (Line i) = HasLine (description_of s).nest (stream_of (description_of s) i).map
Asks l s (Move i) = SmallMove (description_of s).nest (stream_of (description_of s) i)
Asks l s (Hop i) = ShortHop l (description_of s).nest (stream_of (description_of s) i)
Asks l s (Order i) = Written (description_of s) i → KeepsOrder (description_of s).nest (stream_of (description_of s) i)
Asks l s (Loading i) = LoadingFits (description_of s).nest (stream_of (description_of s) i)
Asks l s (Touched i) = AllTouched (description_of s).nest (stream_of (description_of s) i)

-- document 01's number for each, request 2.9's for the board; 9 has none any more (request 2.2)
abbrev pub number_of : Condition → ℕ
number_of Board = 33
number_of Begins = 1
number_of Sizes-fit = 2
number_of Long = 3
number_of Words-fit = 4
number_of Bounds-fit = 5
number_of Instances = 6
number_of Place-rank = 7
number_of Increment = 8
number_of Processes = 10
number_of (Rank i) = 11
number_of (Line i) = 12
number_of (Move i) = 13
number_of (Hop i) = 14
number_of (Order i) = 15
number_of (Loading i) = 16
number_of (Touched i) = 17

-- the order in which they are listed: "33 … before 1"; "then by stream, lowest first, and for each in this order"
abbrev pub of_stream : ℕ → List Condition
of_stream i = Rank i ∷ Line i ∷ Move i ∷ Hop i ∷ Order i ∷ Loading i ∷ Touched i ∷ []

abbrev pub conditions : ℕ → List Condition
conditions streams =
    Board ∷ Begins ∷ Sizes-fit ∷ Long ∷ Words-fit ∷ Bounds-fit ∷ Instances ∷ Place-rank ∷ Increment ∷ Processes
    ∷ each of_stream (numbers streams)

-- of conditions in order, one of number k fails, and those before it hold
pub record First (Holds : Condition → Type 0) (listed : List Condition) (k : ℕ) : Type 0 where
  pub passed : List Condition
  pub failed : Condition
  pub rest : List Condition
  pub order : listed ≡ passed ++ (failed ∷ rest)
  pub number : number_of failed ≡ k
  pub holds : (c : Condition) → In c passed → Holds c
  pub fails : Holds failed → ⊥

-- accepted, or refused by the first of some conditions that fails
pub data AnsweredBy (l : Limits) (s : List ℕ) (listed : List Condition) : Type 0 where
  accepted : accept l s ≡ Accepted (figures (description_of s)) (divisors (description_of s)) → AnsweredBy l s listed
  refused : (k : ℕ) → accept l s ≡ Refused k → First (Asks l s) listed k → AnsweredBy l s listed

abbrev pub FirstFails : Limits → List ℕ → ℕ → Type 0
FirstFails l s k = First (Asks l s) (conditions (sizes_of s).streams) k

-- DEMAND 2: refused by k exactly if the condition of k fails and those listed before it hold
abbrev pub RefusedExactly : Type 0
RefusedExactly = (l : Limits) (s : List ℕ) (k : ℕ) → (accept l s ≡ Refused k) ↔ FirstFails l s k
