-- `take_give::take` meets its contract: a port that may take has a value before it, and has taken less than was put in, so no count passes
-- 32 bits. Assumes nothing.
use native.Mathlib.Omega.{arith}
use Rattle.take_give.specs.Moves.{take_facts}
use Rattle.take_give.proofs.take.Goals as goal

pub bounds-state-at : goal.bounds-state-at
bounds-state-at c =
    omega (arith, take_facts c.args.state.now c.args.k c.requires.1)

pub overflow_sub-n : goal.overflow_sub-n
overflow_sub-n c =
    omega (arith, take_facts c.args.state.now c.args.k c.requires.1)

pub move_down-requires : goal.move_down-requires
move_down-requires c =
    omega (arith, take_facts c.args.state.now c.args.k c.requires.1)

pub overflow_cast-state : goal.overflow_cast-state
overflow_cast-state c =
    omega (arith, take_facts c.args.state.now c.args.k c.requires.1, c.slice_known-1.given c.args.k.before)
