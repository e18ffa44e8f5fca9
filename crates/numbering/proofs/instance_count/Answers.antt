-- `numbering::instance_count` meets its contract: each loop has as many values as turns, from 1 to 129, and the instances are their
-- combinations. Assumes nothing.
use mathlib.Core.Path.{◌∙◌, ap, sym}
use Prim.Native.Nat.{◌*◌}
use native.Mathlib.Omega.{arith}
use Rattle.numbering.specs.declared.Turns.{Turns}
use Rattle.numbering.specs.Turns.{turning, plane_most, all_some, all_most, instances_length}
use Rattle.numbering.proofs.instance_count.Goals as goal

pub overflow_mul-result : goal.overflow_mul-result
overflow_mul-result c =
    record { fits = omega (arith, plane_most (turning c.args.n c.turns_of-t.ensures c.requires)) }

pub overflow_mul-result-2 : goal.overflow_mul-result-2
overflow_mul-result-2 c =
    record { fits = omega (arith, all_most (turning c.args.n c.turns_of-t.ensures c.requires)) }

pub returns : goal.returns
returns c =
    let e = c.turns_of-t.ensures in
    let h = turning c.args.n e c.requires in
    (ap (λ (t : Turns). t.outer * (t.middle * t.inner)) e ∙ sym (instances_length c.args.n), all_some h, all_most h)
