-- `ReadySet::lowest_bit` meets its contract: a word has 64 bits. Assumes nothing.
use mathlib.Core.Path.{refl}
use native.Mathlib.Omega.{arith}
use lib.Count.{trailing_le}
use lib.ListN.{get_or}
use Rattle.ready_set.proofs.ReadySet.lowest_bit.Goals as goal

pub overflow_cast-result : goal.overflow_cast-result
overflow_cast-result c = let a = c.args in record { fits = omega (arith, trailing_le 64 (get_or a.self.now.words a.k 0)) }

pub returns : goal.returns
returns c = let a = c.args in (refl, trailing_le 64 (get_or a.self.now.words a.k 0))
