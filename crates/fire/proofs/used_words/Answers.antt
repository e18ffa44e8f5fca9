-- `fire::used_words` meets its contract: after s turns the first s words stand there. Assumes nothing.
use mathlib.Core.Path.{sym}
use native.Mathlib.Omega.{arith}
use lib.ListN.{replicate}
use Rattle.fire.specs.Firing.{used_in}
use Rattle.integers.specs.Fill.{fill_zero, fill_step}
use Rattle.fire.proofs.used_words.Goals as goal

pub loop-s-init : goal.loop-s-init
loop-s-init c = sym (fill_zero _ _)

pub bounds-ports-s : goal.bounds-ports-s
bounds-ports-s c = omega (arith, c.requires.most)

pub bounds-out-s : goal.bounds-out-s
bounds-out-s c = omega (arith, c.requires.most)

pub loop-s-preserved : goal.loop-s-preserved
loop-s-preserved c =
    rw (c.used.ensures, c.loop-s.invariant) (sym (fill_step (used_in c.args.ports) c.loop-s.s (replicate 6 0)))
