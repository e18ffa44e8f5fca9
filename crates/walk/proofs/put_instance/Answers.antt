-- `walk::put_instance` meets its contract: three stores of numbers that 8 bits hold, none of which changes the length, so each of the three
-- words lies within the walk. Assumes nothing.
use native.Mathlib.Omega.{arith}
use lib.ListN.{length-set}
use Rattle.walk.specs.Words.{narrows, narrowed, put_by}
use Rattle.walk.proofs.put_instance.Goals as goal

pub overflow_cast-walk : goal.overflow_cast-walk
overflow_cast-walk c = narrows c.requires.1.xs

pub overflow_cast-walk-2 : goal.overflow_cast-walk-2
overflow_cast-walk-2 c = narrows c.requires.1.ys

pub bounds-walk-k-2 : goal.bounds-walk-k-2
bounds-walk-k-2 c = simp length-set (omega arith)

pub overflow_cast-walk-3 : goal.overflow_cast-walk-3
overflow_cast-walk-3 c = narrows c.requires.1.zs

pub returns : goal.returns
returns c =
    let h = c.requires.1 in
    put_by c.args.walk.now c.args.k c.args.v (narrowed h.xs) (narrowed h.ys) (narrowed h.zs)
