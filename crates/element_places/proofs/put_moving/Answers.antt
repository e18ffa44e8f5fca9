-- `element_places::put_moving` meets its contract: the line has one that computes, and its pipe is the pipe of the entry. Assumes nothing.
use native.Mathlib.Omega.{arith}
use Rattle.element_places.specs.Lent.{somebody, running, run_here, fitting, run_said}
use Rattle.element_places.proofs.put_moving.Goals as goal

pub one_at-requires : goal.one_at-requires
one_at-requires c = let p = c.requires in (p.0.near, p.1)

pub overflow_sub-q : goal.overflow_sub-q
overflow_sub-q c = let p = c.requires in omega (arith, somebody p.0 p.2 p.1 c.one_at.ensures)

pub run_of-r-requires : goal.run_of-r-requires
run_of-r-requires c = let p = c.requires in running p.0 p.2 p.1 c.one_at.ensures

pub put_run-requires : goal.put_run-requires
put_run-requires c =
    let p = c.requires in
    fitting p.0 (run_here p.0 p.2 p.1 c.one_at.ensures c.run_of-r.ensures)

pub returns : goal.returns
returns c =
    let p = c.requires in
    run_said p.0 (run_here p.0 p.2 p.1 c.one_at.ensures c.run_of-r.ensures) c.put_run.ensures
