-- `written_order::run_instances` meets its contract: what is left of the instances leads to the final values. Assumes nothing.
use mathlib.Core.Path.{refl, sym, ◌∙◌, ap}
use Prim.Native.Nat.{◌+◌, ◌<◌}
use native.Mathlib.Omega.{arith}
use lib.ListN.{length, drop}
use Rattle.meaning.specs.Loops.{instances}
use Rattle.meaning.specs.Body.{execute_all}
use Rattle.counting.specs.Course.{next_of, after_zero, after_next, reached, reached_small}
use Rattle.survey.specs.InRange.{nest_bounded}
use Rattle.written_order.specs.Run.{run_next, run_end}
use Rattle.written_order.proofs.run_instances.Goals as goal

pub course_of-course-requires : goal.course_of-course-requires
course_of-course-requires c = nest_bounded c.requires.0.few.ranged.nest

pub loop-k-init : goal.loop-k-init
loop-k-init c = (refl, sym (after_zero _))

pub run_instance-requires : goal.run_instance-requires
run_instance-requires c =
    let l = c.loop-k in
    let p = c.requires in
    let t : l.k < length (instances c.args.v.description.nest) = omega (arith, c.args.v.surveyed.ground.instances_is) in (
      p.0,
      c.args.v.surveyed.in_use,
      p.1,
      t,
      omega arith,
      reached (nest_bounded p.0.few.ranged.nest) c.course_of-course.ensures.0 l.invariant.1 t,
    )

pub next-x-requires : goal.next-x-requires
next-x-requires c =
    let l = c.loop-k in
    let p = c.requires in
    let e = c.course_of-course.ensures in
    (e.1, reached_small (nest_bounded p.0.few.ranged.nest) e.0 l.invariant.1 (omega (arith, c.args.v.surveyed.ground.instances_is)))

pub loop-k-preserved : goal.loop-k-preserved
loop-k-preserved c =
    let l = c.loop-k in
    let d = c.args.v.description in
    let xs = instances d.nest in
    let course = c.course_of-course.result in (
      ap (execute_all d (drop (l.k + 1) xs)) c.run_instance.ensures
          ∙ run_next d xs l.k l.store (omega (arith, c.args.v.surveyed.ground.instances_is)) ∙ l.invariant.0,
      c.next-x.ensures ∙ ap (next_of course) l.invariant.1 ∙ sym (after_next course l.k),
    )

pub returns : goal.returns
returns c =
    let d = c.args.v.description in
    run_end d (instances d.nest) _ c.loop-k.store (omega (arith, c.args.v.surveyed.ground.instances_is)) ∙ c.loop-k.invariant.0
