-- `word_ranges::bound_refused` meets its contract. Assumes nothing.
use Rattle.std.proofs.Common.{rules}
use Rattle.word_ranges.proofs.bound_refused.Goals as goal

pub returns-then-n-2 : goal.returns-then-n-2
returns-then-n-2 c = search rules depth 9

pub returns-else-n-2 : goal.returns-else-n-2
returns-else-n-2 c = search rules depth 9
