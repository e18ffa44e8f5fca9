-- `guards::index_of` meets its contract. Assumes nothing.
use native.Mathlib.Omega.{arith}
use borrow.Author.Tests.{ne_eqb}
use Rattle.integers.specs.Words.{tower}
use Rattle.guards.proofs.index_of.Goals as goal

pub returns-in-0 : goal.returns-in-0
returns-in-0 c = rw c.in-0.is (tower _ c.struct_told-1.given.0.1)

pub returns-in-1 : goal.returns-in-1
returns-in-1 c = rw c.in-1.is (tower _ c.struct_told-in-1-1.given.1.0.1)

pub returns-in_default : goal.returns-in_default
returns-in_default c = let k = c.args.i in
    rw (ne_eqb k 0 (omega arith), ne_eqb k 1 (omega arith)) (tower _ c.struct_told-in_default-1.given.1.1.0.1)
