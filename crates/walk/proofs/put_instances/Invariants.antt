-- `walk::put_instances` meets its contract: after k turns k instances are stored. Assumes nothing.
use lib.IntN.{pos}
use Rattle.integers.specs.Vectors.{shift3}
use Rattle.walk.specs.Words.{Lined}
use Rattle.walk.proofs.put_instances.Given as goal

abbrev pub invariant-loop-k : goal.invariant-loop-k
invariant-loop-k l = Lined (λ i. shift3 l.first (pos i) l.increment) l.from l.k l.initial.walk l.walk
