-- `print_walk::print_visits` is safe and ends. Assumes nothing.
use mathlib.Core.Path.{sym, subst}
use native.Mathlib.Omega.{arith}
use Rattle.vectors.specs.Within.{Within}
use Rattle.print_walk.proofs.print_visits.Goals as goal

pub instance_at-requires : goal.instance_at-requires
instance_at-requires g c = let p = c.requires in omega (arith, p.words)

pub print_visit-requires : goal.print_visit-requires
print_visit-requires g c =
    let p = c.requires in
    (p.nest, subst (Within 64) (sym c.instance_at.ensures) (p.small c.loop-k.k (omega arith)))
