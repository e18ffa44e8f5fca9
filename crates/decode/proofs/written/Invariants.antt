-- `decode::written` meets its contract: what is left of the lines in use has the answer of all. Assumes nothing.
use Rattle.std.proofs.Common.{◌≡◌, drop}
use Rattle.std.specs.Prelude.{eqb}
use Rattle.meaning.specs.Lists.{any}
use Rattle.decode.proofs.written.Given as goal

abbrev pub invariant-loop-line : goal.invariant-loop-line
invariant-loop-line l = any (λ x. eqb x.target l.i) (drop l.line-index l.line-items) ≡ any (λ x. eqb x.target l.i) l.line-items
