-- `window::counted` meets its contract: a search that has found stays; with none left to pass over it finds this pipe, and with some left
-- one can be taken off. Assumes nothing.
use native.Mathlib.Omega.{arith}
use Rattle.window.specs.Search.{count_found, count_here, count_on}
use Rattle.window.proofs.counted.Goals as goal

pub returns-in-Some : goal.returns-in-Some
returns-in-Some c = let a = c.args in (count_found a.w a.length c.in-Some.is, omega arith)

pub returns-then-w-eq0 : goal.returns-then-w-eq0
returns-then-w-eq0 c = let a = c.args in (count_here a.w a.length c.in-None.is c.if-w-eq0.true, omega arith)

pub returns-else-w-eq0 : goal.returns-else-w-eq0
returns-else-w-eq0 c = let a = c.args in (count_on a.w a.length c.in-None.is c.if-w-eq0.false, omega arith)
