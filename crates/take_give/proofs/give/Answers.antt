-- `take_give::give` meets its contract: a port that may give has a free place after it, and has given less than it took, so no count passes
-- 32 bits. Assumes nothing.
use native.Mathlib.Omega.{arith}
use Rattle.take_give.specs.Moves.{give_facts}
use Rattle.take_give.proofs.give.Goals as goal

pub bounds-state-k : goal.bounds-state-k
bounds-state-k c =
    omega (arith, give_facts c.args.state.now c.args.k c.requires.1)

pub overflow_cast-state : goal.overflow_cast-state
overflow_cast-state c =
    omega (arith, give_facts c.args.state.now c.args.k c.requires.1)
