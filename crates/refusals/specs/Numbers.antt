-- The numbers of refusals, and answers by number. Assumes nothing.
use Rattle.std.specs.Prelude.{◌≡◌, refl, cond, ℕ, suc, ◌<◌, eqb, Option, Some, None, Result, Ok, Err}
use Rattle.std.proofs.Common.{arith, ap}
use Rattle.refusals.specs.declared.Refusal.{Refusal}
use Rattle.refusals.specs.declared.Refusal.TheVariants.{Bytes, Sizes, Length, Range, Bounds, Instances, PlaceRank, StillIncrement}
use Rattle.refusals.specs.declared.Refusal.TheVariants.{Processes, MapRank, StillLine, Move, Hop, Order, Loading, Untouched, Rows, Pipe}
use Rattle.refusals.specs.declared.Refusal.TheVariants.{Values, State, Unsound, NoStep, NotReady, NotOut, Received, Words, Output, Seed}
use Rattle.refusals.specs.declared.Refusal.TheVariants.{Made, Room, Board, Entries}

-- the number of a refusal
abbrev pub number_of : Refusal → ℕ
number_of Bytes = 1
number_of Sizes = 2
number_of Length = 3
number_of Range = 4
number_of Bounds = 5
number_of Instances = 6
number_of PlaceRank = 7
number_of StillIncrement = 8
number_of Processes = 10
number_of MapRank = 11
number_of StillLine = 12
number_of Move = 13
number_of Hop = 14
number_of Order = 15
number_of Loading = 16
number_of Untouched = 17
number_of Rows = 18
number_of Pipe = 19
number_of Values = 20
number_of State = 21
number_of Unsound = 22
number_of NoStep = 23
number_of NotReady = 24
number_of NotOut = 25
number_of Received = 26
number_of Words = 27
number_of Output = 28
number_of Seed = 29
number_of Made = 30
number_of Room = 31
number_of Board = 33
number_of Entries = 34

-- the number of an answer's refusal, 0 if it is none
abbrev pub refusal_number : {A : Type 0} → Result A Refusal → ℕ
refusal_number (Ok v) = 0
refusal_number (Err e) = number_of e

-- an answer as the documents have it, with its refusal by number
abbrev pub numbered : {A : Type 0} → Result A Refusal → Result A ℕ
numbered (Ok v) = Ok v
numbered (Err e) = Err (number_of e)

-- ---- no refusal is 0, and no two have one number

pub number-positive : (e : Refusal) → 0 < number_of e
number-positive Bytes = omega arith
number-positive Sizes = omega arith
number-positive Length = omega arith
number-positive Range = omega arith
number-positive Bounds = omega arith
number-positive Instances = omega arith
number-positive PlaceRank = omega arith
number-positive StillIncrement = omega arith
number-positive Processes = omega arith
number-positive MapRank = omega arith
number-positive StillLine = omega arith
number-positive Move = omega arith
number-positive Hop = omega arith
number-positive Order = omega arith
number-positive Loading = omega arith
number-positive Untouched = omega arith
number-positive Rows = omega arith
number-positive Pipe = omega arith
number-positive Values = omega arith
number-positive State = omega arith
number-positive Unsound = omega arith
number-positive NoStep = omega arith
number-positive NotReady = omega arith
number-positive NotOut = omega arith
number-positive Received = omega arith
number-positive Words = omega arith
number-positive Output = omega arith
number-positive Seed = omega arith
number-positive Made = omega arith
number-positive Room = omega arith
number-positive Board = omega arith
number-positive Entries = omega arith

abbrev pub refusal_of_number : ℕ → Option Refusal
refusal_of_number n =
    cond (eqb n 1) (Some Bytes) (
    cond (eqb n 2) (Some Sizes) (
    cond (eqb n 3) (Some Length) (
    cond (eqb n 4) (Some Range) (
    cond (eqb n 5) (Some Bounds) (
    cond (eqb n 6) (Some Instances) (
    cond (eqb n 7) (Some PlaceRank) (
    cond (eqb n 8) (Some StillIncrement) (
    cond (eqb n 10) (Some Processes) (
    cond (eqb n 11) (Some MapRank) (
    cond (eqb n 12) (Some StillLine) (
    cond (eqb n 13) (Some Move) (
    cond (eqb n 14) (Some Hop) (
    cond (eqb n 15) (Some Order) (
    cond (eqb n 16) (Some Loading) (
    cond (eqb n 17) (Some Untouched) (
    cond (eqb n 18) (Some Rows) (
    cond (eqb n 19) (Some Pipe) (
    cond (eqb n 20) (Some Values) (
    cond (eqb n 21) (Some State) (
    cond (eqb n 22) (Some Unsound) (
    cond (eqb n 23) (Some NoStep) (
    cond (eqb n 24) (Some NotReady) (
    cond (eqb n 25) (Some NotOut) (
    cond (eqb n 26) (Some Received) (
    cond (eqb n 27) (Some Words) (
    cond (eqb n 28) (Some Output) (
    cond (eqb n 29) (Some Seed) (
    cond (eqb n 30) (Some Made) (
    cond (eqb n 31) (Some Room) (
    cond (eqb n 33) (Some Board) (
    cond (eqb n 34) (Some Entries) None)))))))))))))))))))))))))))))))

pub refusal_of_number-number_of : (e : Refusal) → refusal_of_number (number_of e) ≡ Some e
refusal_of_number-number_of Bytes = refl
refusal_of_number-number_of Sizes = refl
refusal_of_number-number_of Length = refl
refusal_of_number-number_of Range = refl
refusal_of_number-number_of Bounds = refl
refusal_of_number-number_of Instances = refl
refusal_of_number-number_of PlaceRank = refl
refusal_of_number-number_of StillIncrement = refl
refusal_of_number-number_of Processes = refl
refusal_of_number-number_of MapRank = refl
refusal_of_number-number_of StillLine = refl
refusal_of_number-number_of Move = refl
refusal_of_number-number_of Hop = refl
refusal_of_number-number_of Order = refl
refusal_of_number-number_of Loading = refl
refusal_of_number-number_of Untouched = refl
refusal_of_number-number_of Rows = refl
refusal_of_number-number_of Pipe = refl
refusal_of_number-number_of Values = refl
refusal_of_number-number_of State = refl
refusal_of_number-number_of Unsound = refl
refusal_of_number-number_of NoStep = refl
refusal_of_number-number_of NotReady = refl
refusal_of_number-number_of NotOut = refl
refusal_of_number-number_of Received = refl
refusal_of_number-number_of Words = refl
refusal_of_number-number_of Output = refl
refusal_of_number-number_of Seed = refl
refusal_of_number-number_of Made = refl
refusal_of_number-number_of Room = refl
refusal_of_number-number_of Board = refl
refusal_of_number-number_of Entries = refl
