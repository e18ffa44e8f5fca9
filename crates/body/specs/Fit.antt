-- What an instance's lines and places have to fit: the eight registers, for at most six streams and two scratch values, and the store.
use Rattle.std.specs.Prelude.{List, ℕ, suc, ◌≤◌, ◌<◌, length, get_or}
use Rattle.std.proofs.Common.{arith}
use Rattle.meaning.specs.declared.Line.{Line}
use Rattle.meaning.specs.Description.{no_line}

-- "targets and operands run from 0 to m+1"
pub record Within (m : ℕ) (l : Line) : Type 0 where
  pub target : l.target ≤ suc m
  pub first : l.first ≤ suc m
  pub second : l.second ≤ suc m

-- the first n lines, of m streams
pub record Fit (m n : ℕ) (ls : List Line) : Type 0 where
  pub streams : m ≤ 6
  pub lines : n ≤ 8
  pub within : (i : ℕ) → i < n → Within m (get_or ls i no_line)

-- the places of an instance in a store of e values, one for each stream
pub record Places (e : ℕ) (ps : List ℕ) : Type 0 where
  pub streams : length ps ≤ 6
  pub within : (i : ℕ) → i < length ps → get_or ps i 0 < e

-- an instance: its lines and its places
pub record Runnable (n : ℕ) (ls : List Line) (e : ℕ) (ps : List ℕ) : Type 0 where
  pub lines : Fit (length ps) n ls
  pub places : Places e ps

-- what fits fewer streams fits six
pub fit_six : {m n : ℕ} {ls : List Line} → Fit m n ls → Fit 6 n ls
fit_six f =
    record {
      streams = omega arith;
      lines = f.lines;
      within = λ i h.
          let w = f.within i h in
          record {
            target = omega (arith, w.target);
            first = omega (arith, w.first);
            second = omega (arith, w.second);
          };
    }
