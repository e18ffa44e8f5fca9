-- `port_rows::row_of` meets its contract: a process is on a pipe exactly if its line has elements. Assumes nothing.
use Rattle.port_rows.specs.Strands.{row_bare, row_held}
use Rattle.port_rows.proofs.row_of.Goals as goal

pub returns-then-total-eq0 : goal.returns-then-total-eq0
returns-then-total-eq0 c =
    row_bare c.requires.0.near c.pipe_total-total.ensures c.args.g c.if-total-eq0.true
    c.off_of.ensures

pub returns-else-total-eq0 : goal.returns-else-total-eq0
returns-else-total-eq0 c =
    row_held c.requires.0.near c.pipe_total-total.ensures c.args.g c.if-total-eq0.false c.port_of.ensures
