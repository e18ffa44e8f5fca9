-- `compare::walk_lines` is safe and ends. Assumes nothing.
use Rattle.std.proofs.Common.{sym, arith, ◌*◌, length-take-le}
use Rattle.compare.proofs.walk_lines.Goals as goal

pub slice_bounds-print_visits-end : goal.slice_bounds-print_visits-end
slice_bounds-print_visits-end g c =
    let v = c.in-Ok.v in
    let h = c.in-Ok.ensures.surveyed in
    sym (length-take-le (3 * v.loops.instances) c.walk_of.new.walk (omega (arith, h.2.few, h.2.room, v.surveyed.ground.instances_is)))
