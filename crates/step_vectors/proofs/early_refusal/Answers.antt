-- `step_vectors::early_refusal` meets its contract. Assumes nothing.
use borrow.Author.Tests.{lt-ltb, le-ltb}
use Rattle.decode.specs.Refusals.{refuses, passes}
use Rattle.step_vectors.proofs.early_refusal.Goals as goal

pub returns-then-board-gt1 : goal.returns-then-board-gt1
returns-then-board-gt1 c = refuses 33 _ (lt-ltb _ _ c.if-board-gt1.true)

pub returns-then-k-gt3 : goal.returns-then-k-gt3
returns-then-k-gt3 c = passes 33 _ (le-ltb _ _ c.if-board-gt1.false) (refuses 34 _ (lt-ltb _ _ c.if-k-gt3.true))

pub returns : goal.returns
returns c =
    passes 33 _ (le-ltb _ _ c.if-board-gt1.false) (passes 34 _ (le-ltb _ _ c.if-k-gt3.false) c.refusal.ensures)
