-- The plain run said a second time, for people, in plain propositions: what each operation puts, when a line runs, what lines and loops
-- leave. That Plain run writes exactly that, and the network too, is `runs-loops` of requests.
use Rattle.std.specs.Prelude.{◌≡◌, ◌↔◌, true, ℕ, suc, ◌+◌, ◌*◌, ◌^◌, ◌≤◌, ◌<◌, length, get_or, set, ℤ, ◌≤ℤ◌}
use mathlib.Core.List.{List, [], ◌∷◌, ◌++◌, Memᴰ as In}
use Rattle.integers.specs.declared.V3.{V3}
use Rattle.meaning.specs.declared.Limits.{Limits}
use Rattle.meaning.specs.declared.Line.{Line}
use Rattle.meaning.specs.declared.Description.{Description}
use Rattle.meaning.specs.Answers.{Done}
use Rattle.meaning.specs.Loops.{instances}
use Rattle.meaning.specs.Operations.{modulus}
use Rattle.meaning.specs.Description.{description_of, lines_of}
use Rattle.meaning.specs.Body.{touched_by, gather, scatter}
use Rattle.meaning.specs.Accept.{Accepts}
use Rattle.meaning.specs.Rules.{Memory}
use Rattle.meaning.specs.Calls.{length_of, start, result, plain_run}
use Rattle.meaning.specs.Demand3.{Told, memory_after, granted_by, all_received}

-- ---- what a line puts into its target

-- "taken modulo 2^32": r is a word, and n is r beside a multiple of 2^32
pub record Modulo (n r : ℕ) : Type 0 where
  pub word : r < modulus
  pub multiple : ℕ
  pub beside : n ≡ multiple * modulus + r

-- "divided by 2^16, rounded down"
pub record Divided (n q : ℕ) : Type 0 where
  pub most : q * 2 ^ 16 ≤ n
  pub next : n < suc q * 2 ^ 16

-- operation op puts r for the operands a and b: "0 copy the first, 1 add, 2 subtract, 3 multiply, 4 smaller, 5 larger"; 6: "the exact
-- product is divided by 2^16, rounded down, and taken modulo 2^32"
pub data Puts (a b : ℕ) : ℕ → ℕ → Type 0 where
  copies : Puts a b 0 a
  adds : {r : ℕ} → Modulo (a + b) r → Puts a b 1 r
  subtracts : {r : ℕ} → r < modulus → Modulo (r + b) a → Puts a b 2 r
  multiplies : {r : ℕ} → Modulo (a * b) r → Puts a b 3 r
  smaller : {r : ℕ} → (a ≤ b → r ≡ a) → (b ≤ a → r ≡ b) → Puts a b 4 r
  larger : {r : ℕ} → (a ≤ b → r ≡ b) → (b ≤ a → r ≡ a) → Puts a b 5 r
  fixed : {q r : ℕ} → Divided (a * b) q → Modulo q r → Puts a b 6 r

-- ---- whether a line runs

-- the index of a loop number at instance x: its own coordinate
pub data Index (x : V3) : ℕ → ℤ → Type 0 where
  of_first : Index x 0 x.x
  of_second : Index x 1 x.y
  of_third : Index x 2 x.z

-- "0 always, 1 equal, 2 at most, 3 at least"
pub data Compares (v bound : ℤ) : ℕ → Type 0 where
  always : Compares v bound 0
  equal : v ≡ bound → Compares v bound 1
  at_most : v ≤ℤ bound → Compares v bound 2
  at_least : bound ≤ℤ v → Compares v bound 3

-- "the line runs only if that index compares so"
pub record Runs (x : V3) (t : Line) : Type 0 where
  pub index : ℤ
  pub is_index : Index x t.index index
  pub compares : Compares index t.bound t.comparison

-- ---- what is left

-- lines of instance x in order, on the values of the streams and the two scratch values; a line that does not run leaves its target
pub data LinesLeave (x : V3) : List Line → List ℕ → List ℕ → Type 0 where
  none : {vs : List ℕ} → LinesLeave x [] vs vs
  runs : {t : Line} {ts : List Line} {vs ws : List ℕ} {r : ℕ} → Runs x t
      → Puts (get_or vs t.first 0) (get_or vs t.second 0) t.operation r
      → LinesLeave x ts (set vs t.target r) ws → LinesLeave x (t ∷ ts) vs ws
  stays : {t : Line} {ts : List Line} {vs ws : List ℕ} → (Runs x t → ⊥) → LinesLeave x ts vs ws → LinesLeave x (t ∷ ts) vs ws

-- instances in order, on a value for each element; scratch is "zero at the start of every instance"
pub data LoopsLeave (d : Description) : List V3 → List ℕ → List ℕ → Type 0 where
  none : {store : List ℕ} → LoopsLeave d [] store store
  next : {x : V3} {xs : List V3} {store vs left : List ℕ} → LinesLeave x (lines_of d) (gather store (touched_by d x) ++ (0 ∷ 0 ∷ [])) vs
      → LoopsLeave d xs (scatter store (touched_by d x) vs) left → LoopsLeave d (x ∷ xs) store left

-- values are unsigned 32-bit
abbrev pub Words : List ℕ → Type 0
Words values = (v : ℕ) → In v values → v < modulus

-- ---- the calls

pub record RunsLoops (l : Limits) (s : List ℕ) : Type 0 where
  -- PLAIN RUN writes what the loops leave, and they leave nothing else
  pub plain : Accepts l s → (values output : List ℕ) → Words values → length values ≡ length_of (description_of s)
      → length output ≡ length_of (description_of s) → (left : List ℕ)
      → LoopsLeave (description_of s) (instances (description_of s).nest) values left
      ↔ (plain_run l s values output ≡ record { answer = Done; output = left })
  -- THE NETWORK: after a start and any calls, when all values are out, Result answers and writes what Plain run does
  pub network : (values : List ℕ) (M : Memory) → (start l s values M).answer ≡ Done → (cs : List Told)
      → all_received (description_of s) (granted_by s (start l s values M).memory cs) ≡ true → (output : List ℕ)
      → length output ≡ length_of (description_of s)
      → result l s output (memory_after s (start l s values M).memory cs) ≡ plain_run l s values output
