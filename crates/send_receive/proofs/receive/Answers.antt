-- `send_receive::receive` meets its contract: an end that may receive has received less than its total and has a value before it, so the
-- counts are in range. Assumes nothing.
use native.Mathlib.Omega.{arith}
use Rattle.send_receive.specs.Moves.{receive_facts}
use Rattle.send_receive.proofs.receive.Goals as goal

pub bounds-state-e : goal.bounds-state-e
bounds-state-e c =
    omega (arith, receive_facts c.args.state.now c.args.e c.requires.2)

pub bounds-out-e : goal.bounds-out-e
bounds-out-e c =
    omega (arith, receive_facts c.args.state.now c.args.e c.requires.2)

pub overflow_sub-n : goal.overflow_sub-n
overflow_sub-n c =
    omega (arith, receive_facts c.args.state.now c.args.e c.requires.2)

pub move_down-requires : goal.move_down-requires
move_down-requires c =
    omega (arith, receive_facts c.args.state.now c.args.e c.requires.2)

pub overflow_cast-state : goal.overflow_cast-state
overflow_cast-state c =
    omega (arith, receive_facts c.args.state.now c.args.e c.requires.2)
