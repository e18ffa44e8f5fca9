-- `ports::move_down` meets its contract: what is left to move from turn i on gives the whole. Assumes nothing.
use mathlib.Core.Path.{sym, ◌∙◌}
use native.Mathlib.Omega.{arith}
use native.Mathlib.Numerals.{unary_clauses}
use Rattle.ports.specs.Links.{move_next, move_end}
use Rattle.ports.proofs.move_down.Goals as goal

pub loop-i-init : goal.loop-i-init
loop-i-init c = simp unary_clauses

pub loop-i-preserved : goal.loop-i-preserved
loop-i-preserved c =
    sym (move_next c.loop-i.state c.args.first c.loop-i.i c.args.n (omega arith)) ∙ c.loop-i.invariant

pub returns : goal.returns
returns c = sym (move_end c.loop-i.state c.args.first c.loop-i.i c.args.n (omega arith)) ∙ c.loop-i.invariant
