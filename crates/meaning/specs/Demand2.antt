-- Demand 2 beside the conditions: what the call Table leaves, that every pass of the loops is run by one processor, and what the call Plain
-- run leaves; for every description that Accept accepts (`demand-two` of guarantee). Equations are numbered as in the report.
use Rattle.std.specs.Prelude.{◌≡◌, ◌↔◌, true, ℕ, suc, ◌≤◌, ◌<◌, length, get_or, drop, ℤ, pos, ◌+ℤ◌, ◌*ℤ◌, ◌≤ℤ◌, ◌<ℤ◌}
use mathlib.Core.List.{List, [], ◌++◌, Memᴰ as In}
use Rattle.integers.specs.Vectors.{zero2, zero3, shift2, shift3, image}
use Rattle.integers.specs.declared.V3.{V3}
use Rattle.integers.specs.declared.V2.{V2}
use Rattle.meaning.specs.declared.Limits.{Limits}
use Rattle.meaning.specs.declared.Nest.{Nest}
use Rattle.meaning.specs.declared.Stream.{Stream}
use Rattle.meaning.specs.declared.Description.{Description}
use Rattle.meaning.specs.declared.Row.{Row}
use Rattle.meaning.specs.Answers.{Done}
use Rattle.meaning.specs.Sorted.{Sorted, Distinct}
use Rattle.meaning.specs.Loops.{step_of, place_of, increment}
use Rattle.meaning.specs.Space.{Box, processes}
use Rattle.meaning.specs.Points.{Within, Earlier, At, IsLine, Inside, RowOrder}
use Rattle.meaning.specs.Streams.{line, move, pass}
use Rattle.meaning.specs.Description.{description_of}
use Rattle.meaning.specs.Body.{execute_all}
use Rattle.meaning.specs.Accept.{Accepts}
use Rattle.meaning.specs.Conditions.{LeastBox, Moves, stream_of}
use Rattle.meaning.specs.Array.{array_of}
use Rattle.meaning.specs.State.{Firings, read}
use Rattle.meaning.specs.declared.Step.TheVariants.{Fire}
use Rattle.meaning.specs.Rules.{ready, do_fire, fire_instance}
use Rattle.meaning.specs.Calls.{length_of, table, plain_run}

-- ---- processes and their instances

-- the points of the process space, "the smallest box around the places of all instances" (2), each once, in row order
pub record ProcessSpace (n : Nest) (ys : List V2) : Type 0 where
  pub box : Box
  pub smallest : LeastBox n n.place box
  pub members : (y : V2) → In y ys ↔ Inside box y
  pub sorted : Sorted RowOrder ys

-- the instances of process y, each once
pub record InstancesOf (n : Nest) (y : V2) (xs : List V3) : Type 0 where
  pub members : (x : V3) → In x xs ↔ At n n.place y x
  pub once : Distinct xs

-- "first and last of a process are its instances of least and greatest step"
pub record IsFirst (n : Nest) (y : V2) (x : V3) : Type 0 where
  pub here : At n n.place y x
  pub least : (x' : V3) → At n n.place y x' → step_of n x ≤ℤ step_of n x'

pub record IsLast (n : Nest) (y : V2) (x : V3) : Type 0 where
  pub here : At n n.place y x
  pub greatest : (x' : V3) → At n n.place y x' → step_of n x' ≤ℤ step_of n x

-- w is directly before z among the instances of process y
pub record Adjacent (n : Nest) (y : V2) (w z : V3) : Type 0 where
  pub from : At n n.place y w
  pub to : At n n.place y z
  pub before : step_of n w <ℤ step_of n z
  pub none : (x : V3) → At n n.place y x → step_of n w <ℤ step_of n x → step_of n x <ℤ step_of n z → ⊥

-- ---- the elements of a pipe

-- process y uses element e of stream s
abbrev pub Uses : Nest → Stream → V2 → V2 → Type 0
Uses n s y e = (x : V3) × At n n.place y x × (image s.map x ≡ e)

-- process y' is k moves on from process y
abbrev pub Ahead : Nest → Stream → ℤ → V2 → V2 → Type 0
Ahead n s k y y' = y' ≡ shift2 y k (move n s)

-- an element's rank along a moving pipe: the report's increment_s • e
abbrev pub along : V2 → V2 → ℤ
along v e = v.a *ℤ e.a +ℤ v.b *ℤ e.b

-- the elements of the pipe through process y: "those that its processes use", each once, "those of a moving pipe in the order of index map
-- times increment; those of a stationary pipe in the order in which the pipe passes the processes that hold them"
pub record PipeElements (n : Nest) (s : Stream) (y : V2) (es : List V2) : Type 0 where
  pub members : (e : V2) → In e es ↔ ((k : ℤ) × (y' : V2) × Ahead n s k y y' × Uses n s y' e)
  pub moving : Moves n (line n s) → Sorted (λ e e'. along (pass n s) e <ℤ along (pass n s) e') es
  pub stationary : place_of n (line n s) ≡ zero2
      → Sorted (λ e e'. (k : ℕ) × (p : V2) × (p' : V2) × Uses n s p e × Uses n s p' e' × Ahead n s (pos (suc k)) p p') es

-- "soak and drain count the pipe's elements before the first and after the last that a process uses"
pub record Soaks (n : Nest) (s : Stream) (y : V2) (es : List V2) (soak drain : ℕ) : Type 0 where
  pub before : List V2
  pub used : List V2
  pub after : List V2
  pub all : es ≡ before ++ (used ++ after)
  pub soaked : length before ≡ soak
  pub drained : length after ≡ drain
  pub some : 0 < length used
  pub uses : (e : V2) → In e used → Uses n s y e
  pub not_before : (e : V2) → In e before → Uses n s y e → ⊥
  pub not_after : (e : V2) → In e after → Uses n s y e → ⊥

-- the report's first_s and last_s, the first and the last element of a moving pipe (section 6.4), and how far they lie from an element that
-- is used
pub record PipeEnds (n : Nest) (s : Stream) (es : List V2) (first last : V2) : Type 0 where
  pub first_in : In first es
  pub first_least : (e : V2) → In e es → along (pass n s) first ≤ℤ along (pass n s) e
  pub last_in : In last es
  pub last_greatest : (e : V2) → In e es → along (pass n s) e ≤ℤ along (pass n s) last
  -- (6) and (7)
  pub from_first : (x : V3) → Within n x → In (image s.map x) es → (k : ℕ) × (image s.map x ≡ shift2 first (pos k) (pass n s))
  pub to_last : (x : V3) → Within n x → In (image s.map x) es → (k : ℕ) × (last ≡ shift2 (image s.map x) (pos k) (pass n s))

-- ---- a row of the table

-- the words of stream s in the row of a computing process, with first and last of the row
pub record StreamWords (n : Nest) (s : Stream) (y : V2) (first last : V3) (soak drain : ℕ) : Type 0 where
  pub elements : List V2
  pub pipe : PipeElements n s y elements
  pub soaks : Soaks n s y elements soak drain
  -- (8) and (9), of a moving stream
  pub report : Moves n (line n s) → (f : V2) × (l : V2) × PipeEnds n s elements f l
      × (image s.map first ≡ shift2 f (pos soak) (pass n s))
      × (l ≡ shift2 (image s.map last) (pos drain) (pass n s))

pub record ComputingRow (d : Description) (y : V2) (r : Row) : Type 0 where
  pub first : IsFirst d.nest y r.first
  pub last : IsLast d.nest y r.last
  -- (3) and (4)
  pub apart : (w z : V3) → Adjacent d.nest y w z → shift3 w (pos 1) (increment d.nest) ≡ z
  pub steps : (k : ℕ) × (r.last ≡ shift3 r.first (pos k) (increment d.nest)) × (r.count ≡ suc k)
  pub streams : (i : ℕ) → i < d.sizes.streams
      → StreamWords d.nest (stream_of d i) y r.first r.last (get_or r.soak i 0) (get_or r.drain i 0)

-- "a null row has zeros after its point and the pipe's length (0 without a pipe) as soak"
pub record NullWords (n : Nest) (s : Stream) (y : V2) (soak drain : ℕ) : Type 0 where
  pub elements : List V2
  pub pipe : PipeElements n s y elements
  pub soaked : soak ≡ length elements
  pub drained : drain ≡ 0
  -- (10), of a moving stream
  pub report : Moves n (line n s) → 0 < length elements
      → (f : V2) × (l : V2) × PipeEnds n s elements f l × ((k : ℕ) × (l ≡ shift2 f (pos k) (pass n s)) × (soak ≡ suc k))

pub record NullRow (d : Description) (y : V2) (r : Row) : Type 0 where
  pub first : r.first ≡ zero3
  pub last : r.last ≡ zero3
  pub streams : (i : ℕ) → i < d.sizes.streams → NullWords d.nest (stream_of d i) y (get_or r.soak i 0) (get_or r.drain i 0)

pub record RowSays (d : Description) (y : V2) (r : Row) : Type 0 where
  pub point : r.point ≡ y
  pub count : (xs : List V3) × InstancesOf d.nest y xs × (r.count ≡ length xs)
  pub computing : (x : V3) → At d.nest d.nest.place y x → ComputingRow d y r
  pub null : ((x : V3) → At d.nest d.nest.place y x → ⊥) → NullRow d y r
  -- "row words past the loops and streams in use are 0"
  pub past_loops : d.sizes.loops ≡ 2 → (r.point.b ≡ pos 0) × (r.first.z ≡ pos 0) × (r.last.z ≡ pos 0)
  pub past_streams : (i : ℕ) → d.sizes.streams ≤ i → (get_or r.soak i 0 ≡ 0) × (get_or r.drain i 0 ≡ 0)

-- a row that is not there
abbrev pub no_row : Row
no_row = record { point = zero2; count = 0; first = zero3; last = zero3; soak = []; drain = [] }

abbrev pub row_at : List Row → ℕ → Row
row_at rows p = get_or rows p no_row

-- TABLE, lent some rows, leaves others: "one row for each process, in row order"; rows past P stay
pub record TableSays (d : Description) (lent left : List Row) : Type 0 where
  pub increment : IsLine d.nest d.nest.place (increment d.nest)
  pub lines : (i : ℕ) → i < d.sizes.streams → IsLine d.nest (stream_of d i).map (line d.nest (stream_of d i))
  pub space : ProcessSpace d.nest (processes d.nest)
  pub long : length left ≡ length lent
  pub rows : (p : ℕ) → p < length (processes d.nest) → RowSays d (get_or (processes d.nest) p zero2) (row_at left p)
  pub beyond : drop (length (processes d.nest)) left ≡ drop (length (processes d.nest)) lent

-- ---- "every pass of the loops is run by one processor"

-- by the rows, process p runs x as its f-th pass: first + f increments
pub record RunBy (n : Nest) (rows : List Row) (x : V3) (p f : ℕ) : Type 0 where
  pub process : p < length (processes n)
  pub firing : f < (row_at rows p).count
  pub same : shift3 (row_at rows p).first (pos f) (increment n) ≡ x

pub record RunOnce (n : Nest) (rows : List Row) (x : V3) : Type 0 where
  pub process : ℕ
  pub firing : ℕ
  pub by : RunBy n rows x process firing
  pub only : (p f : ℕ) → RunBy n rows x p f → (p ≡ process) × (f ≡ firing)

pub record EveryPass (d : Description) (rows : List Row) : Type 0 where
  pub once : (x : V3) → Within d.nest x → RunOnce d.nest rows x
  pub nothing_else : (x : V3) (p f : ℕ) → RunBy d.nest rows x p f → At d.nest d.nest.place (row_at rows p).point x
  -- the last pass is the row's last
  pub ends : (p f : ℕ) → p < length (processes d.nest) → (row_at rows p).count ≡ suc f
      → (row_at rows p).last ≡ shift3 (row_at rows p).first (pos f) (increment d.nest)
  -- what Fire runs, in any state in which it is ready: first + firings increments
  pub fires : (st : List ℕ) (p : ℕ) → p < length (processes d.nest) → ready (array_of d) st (Fire p) ≡ true
      → RunBy d.nest rows (shift3 (row_at rows p).first (pos (read (array_of d) st (Firings p))) (increment d.nest)) p
      (read (array_of d) st (Firings p))
      × (do_fire (array_of d) st p
      ≡ fire_instance (array_of d) st p (shift3 (row_at rows p).first (pos (read (array_of d) st (Firings p))) (increment d.nest)))

-- ---- the plain run

-- the instances, each once, "loop 0 outermost, direction 1 from left to right bound, −1 from right to left"
pub record WrittenOrder (n : Nest) (xs : List V3) : Type 0 where
  pub members : (x : V3) → In x xs ↔ Within n x
  pub once : Distinct xs
  pub sorted : Sorted (Earlier n.direction) xs

-- PLAIN RUN leaves what executing the lines of each instance in that order leaves
pub record PlainSays (d : Description) (values output : List ℕ) : Type 0 where
  pub order : List V3
  pub written : WrittenOrder d.nest order
  pub leaves : output ≡ execute_all d order values

-- ---- all of it

pub record Demand2 (l : Limits) (s : List ℕ) : Type 0 where
  pub table : (lent : List Row) → length (processes (description_of s).nest) ≤ length lent
      → ((table l s lent).answer ≡ Done) × TableSays (description_of s) lent (table l s lent).rows
      × EveryPass (description_of s) (table l s lent).rows
  pub plain : (values output : List ℕ) → length values ≡ length_of (description_of s) → length output ≡ length_of (description_of s)
      → ((plain_run l s values output).answer ≡ Done) × PlainSays (description_of s) values (plain_run l s values output).output

-- DEMAND 2
abbrev pub DemandTwo : Type 0
DemandTwo = (l : Limits) (s : List ℕ) → Accepts l s → Demand2 l s
