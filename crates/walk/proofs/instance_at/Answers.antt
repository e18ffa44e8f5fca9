-- `walk::instance_at` meets its contract: each word holds what 8 bits do, and so do the 32 that it is read into. Assumes nothing.
use borrow.Author.Rules.{rules}
use Rattle.integers.specs.Vectors.{same3}
use Rattle.walk.specs.Words.{widened}
use Rattle.walk.proofs.instance_at.Goals as goal

pub returns : goal.returns
returns c =
    same3 (widened c.from.ensures (search rules)) (widened c.from-2.ensures (search rules))
    (widened c.from-3.ensures (search rules))
