-- `send_receive::send` meets its contract: an end that may send has sent less than its total and has a free place, so the count and the
-- place are in range. Assumes nothing.
use native.Mathlib.Omega.{arith}
use Rattle.send_receive.specs.Moves.{send_facts}
use Rattle.send_receive.proofs.send.Goals as goal

pub bounds-waiting-e : goal.bounds-waiting-e
bounds-waiting-e c =
    omega (arith, send_facts c.args.state.now c.args.e c.requires.2)

pub bounds-state-e : goal.bounds-state-e
bounds-state-e c =
    omega (arith, send_facts c.args.state.now c.args.e c.requires.2)

pub overflow_cast-state : goal.overflow_cast-state
overflow_cast-state c =
    omega (arith, send_facts c.args.state.now c.args.e c.requires.2)
