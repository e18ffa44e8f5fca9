-- `stream_tests::rank_refused` meets its contract. Assumes nothing.
use mathlib.Core.Path.{◌∙◌, ap}
use Prim.Native.Nat.{ℕ}
use lib.Dec.{eqb}
use Rattle.survey.specs.Small.{rank_by_divisor}
use Rattle.stream_tests.proofs.rank_refused.Goals as goal

pub returns : goal.returns
returns c = ap (λ (k : ℕ). eqb k 0) c.requires.flow.divisor_is ∙ rank_by_divisor c.args.f.stream.map
