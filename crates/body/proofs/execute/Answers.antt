-- `body::execute` meets its contract: both scratch registers are zero at the start, and no line reaches past them. Assumes nothing.
use mathlib.Core.Path.{◌∙◌, ap}
use lib.ListN.{take}
use Rattle.meaning.specs.Body.{run_lines, scatter}
use Rattle.body.specs.Fit.{fit_six}
use Rattle.body.specs.Execute.{execute_registers}
use Rattle.body.proofs.execute.Goals as goal

pub run_lines-requires : goal.run_lines-requires
run_lines-requires c = fit_six c.requires.lines

pub returns : goal.returns
returns c =
    c.scatter.ensures
    ∙ ap (scatter c.args.store.now c.args.places.now)
    (c.run_lines.ensures ∙ ap (run_lines c.args.x (take c.args.count c.args.lines)) c.gather-registers.ensures)
    ∙ execute_registers c.args.x c.args.count c.args.lines c.args.store.now c.args.places.now c.requires.lines
