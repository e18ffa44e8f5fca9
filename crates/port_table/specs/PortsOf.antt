-- A port table with the rows of an array. Assumes nothing.
use Rattle.std.specs.Prelude.{◌≡◌, List, [], ◌∷◌, ℕ, ◌+◌, ◌*◌, ◌≤◌, ◌<◌, length}
use Rattle.meaning.specs.Limits.{gauge_limits, pipes_most}
use Rattle.meaning.specs.Array.{Array, process_count, stream_count, pipe_number}
use Rattle.ports.specs.declared.Port.{Port}
use Rattle.ports.specs.declared.End.{End}
use Rattle.ports.specs.Rows.{row_of}
use Rattle.ports.specs.Ports.{PortFits}
use Rattle.ports.specs.Ends.{end_of, EndFits}
use Rattle.port_table.specs.declared.Size.{Size}
use Rattle.port_table.specs.Rows.{port_read, end_read}

-- the words of a port table: five for each port, three for each pipe
abbrev pub port_table_words : ℕ
port_table_words = gauge_limits.processes * 30 + pipes_most * 3

-- the row of process p and stream i, the six rows of process p, and the row of pipe q
abbrev pub port_at : List ℕ → ℕ → ℕ → Port
port_at l p i = port_read l (30 * p + 5 * i)

abbrev pub ports_at : List ℕ → ℕ → List Port
ports_at l p = port_at l p 0 ∷ port_at l p 1 ∷ port_at l p 2 ∷ port_at l p 3 ∷ port_at l p 4 ∷ port_at l p 5 ∷ []

abbrev pub end_at : List ℕ → ℕ → End
end_at l q = end_read l (30720 + 3 * q)

-- the size of an array that has streams
pub record SizeOf (A : Array) (z : Size) : Type 0 where
  pub processes : z.processes ≡ process_count A
  pub streams : z.streams ≡ stream_count A
  pub pipes : z.pipes ≡ pipe_number A
  pub some : 0 < z.streams

-- the port table of an array
pub record PortsOf (A : Array) (l : List ℕ) : Type 0 where
  pub words : length l ≡ port_table_words
  pub ports : (p i : ℕ) → p < process_count A → i < stream_count A → port_at l p i ≡ row_of A p i
  pub ends : (q : ℕ) → q < pipe_number A → end_at l q ≡ end_of A q

-- a port table whose rows' words lie in a state of n words
pub record RowsFit (n : ℕ) (l : List ℕ) (z : Size) : Type 0 where
  pub words : length l ≡ port_table_words
  pub processes : z.processes ≤ 1024
  pub some : 0 < z.streams
  pub streams : z.streams ≤ 6
  pub pipes : z.pipes ≤ 6144
  pub ports : (p i : ℕ) → p < z.processes → i < z.streams → PortFits n (port_at l p i)
  pub small : (p i : ℕ) → p < z.processes → i < z.streams → (port_at l p i).at + 4 ≤ 4294967296
  pub ends : (q : ℕ) → q < z.pipes → EndFits n (end_at l q)

-- and whose pipes' parts lie in lists of e words
abbrev pub PartsFit : ℕ → List ℕ → Size → Type 0
PartsFit e l z = (q : ℕ) → q < z.pipes → (end_at l q).offset + (end_at l q).total ≤ e
