-- `guards::compares` meets its contract. Assumes nothing.
use mathlib.Core.Path.{refl}
use native.Mathlib.Omega.{arith}
use borrow.Author.Tests.{ne_eqb}
use Rattle.integers.specs.Words.{eq_bits}
use borrow.Author.Rules.{rules}
use Rattle.guards.proofs.compares.Goals as goal

pub returns-in-0 : goal.returns-in-0
returns-in-0 c = rw c.in-0.is refl

pub returns-in-1 : goal.returns-in-1
returns-in-1 c = rw c.in-1.is (eq_bits c.args.v c.args.bound c.ranges.v.sfits c.ranges.bound.sfits)

pub returns-in-2 : goal.returns-in-2
returns-in-2 c = rw c.in-2.is (search rules)

pub returns-in_default : goal.returns-in_default
returns-in_default c = let k = c.args.c in rw (ne_eqb k 0 (omega arith), ne_eqb k 1 (omega arith), ne_eqb k 2 (omega arith)) (search rules)
