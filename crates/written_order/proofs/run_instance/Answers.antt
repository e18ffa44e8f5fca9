-- `written_order::run_instance` meets its contract: row k of the table holds the elements that instance k touches, so that its lines run on
-- these. Assumes nothing.
use mathlib.Core.Path.{sym, subst₂}
use Rattle.body.specs.Fit.{Runnable}
use Rattle.written_order.specs.Places.{lent, runnable}
use Rattle.written_order.specs.Run.{executed}
use Rattle.written_order.proofs.run_instance.Goals as goal

pub execute-requires : goal.execute-requires
execute-requires c =
    let d = c.args.d in
    let p = c.requires in
    subst₂ (Runnable d.sizes.lines d.lines) (sym p.4) (sym (lent d c.args.table.now c.args.k p.2 p.3))
    (runnable d p.1 p.0 c.args.k p.3)

pub returns : goal.returns
returns c =
    executed c.args.d c.args.k c.args.table.now c.args.store.now c.requires.2 c.requires.3 c.requires.5
    c.execute.ensures
