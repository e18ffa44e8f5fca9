-- `walk::put_instances` meets its contract: after k turns k instances are stored. Assumes nothing.
use mathlib.Core.Path.{sym, subst}
use Prim.Native.Nat.{◌+◌}
use native.Mathlib.Omega.{arith}
use lib.IntN.{pos}
use Rattle.integers.specs.Vectors.{shift3}
use Rattle.vectors.specs.Within.{Within}
use Rattle.walk.specs.Words.{Lined, lined_none, lined_on}
use Rattle.walk.proofs.put_instances.Goals as goal

pub loop-k-init : goal.loop-k-init
loop-k-init c = lined_none _ _ _

pub overflow_add-from : goal.overflow_add-from
overflow_add-from c = let p = c.requires in omega arith

pub later-requires : goal.later-requires
later-requires c = let p = c.requires in (p.small, p.short, omega arith)

pub put_instance-requires : goal.put_instance-requires
put_instance-requires c =
    let p = c.requires in (
      omega (arith, p.fits, p.room),
      subst (Within 64) (sym c.later.ensures) (p.inside _ (omega arith)),
    )

pub loop-k-preserved : goal.loop-k-preserved
loop-k-preserved c =
    let l = c.loop-k in
    let a = c.args in
    subst (Lined (λ i. shift3 a.first (pos i) a.increment) a.from (l.k + 1) a.walk.now) (sym c.put_instance.ensures)
    (lined_on l.invariant (omega (arith, c.requires.fits, c.requires.room)) c.later.ensures)
