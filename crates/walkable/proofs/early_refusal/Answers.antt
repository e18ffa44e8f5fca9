-- `walkable::early_refusal` meets its contract. Assumes nothing.
use native.Mathlib.Omega.{arith}
use borrow.Author.Tests.{lt-ltb, le-ltb}
use Rattle.decode.specs.Refusals.{refuses, passes}
use Rattle.walkable.proofs.early_refusal.Goals as goal

pub returns-then-limits-gt1 : goal.returns-then-limits-gt1
returns-then-limits-gt1 c = refuses 33 _ (lt-ltb 1 c.args.limits.board (omega arith))

pub returns : goal.returns
returns c = passes 33 _ (le-ltb 1 c.args.limits.board (omega arith)) c.refusal.ensures
