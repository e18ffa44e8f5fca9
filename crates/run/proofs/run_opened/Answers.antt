-- `run::run_opened` meets its contract: the flags are kept true of the state, so after the steps the lowest one set tells whether any step
-- is ready. Assumes nothing.
use native.Mathlib.Omega.{arith}
use Rattle.run_steps.specs.Turn.{table_asks, flags_ask, starts}
use Rattle.run.specs.Call.{ran_by}
use Rattle.run.proofs.run_opened.Goals as goal

pub program_of-g-requires : goal.program_of-g-requires
program_of-g-requires c = c.args.v.surveyed.ground

pub fill_wakeups-requires : goal.fill_wakeups-requires
fill_wakeups-requires c = table_asks c.requires.0

pub fill_flags-requires : goal.fill_flags-requires
fill_flags-requires c =
    flags_ask c.requires.0 c.new-set.ensures

pub run_steps-done-requires : goal.run_steps-done-requires
run_steps-done-requires c =
    let p = c.program_of-g.ensures in
    let h = c.requires in
    starts h.0 h.1.description_is p.0 p.1 h.2 (omega arith)
    c.fill_wakeups.ensures
    c.fill_flags.ensures

pub returns : goal.returns
returns c =
    let e = c.run_steps-done.ensures in
    ran_by e (c.lowest.ensures _ e.ready.kept)
