-- `port_fill::put_port` meets its contract: p is below 1,024 and i below 6, so that its five words lie in the table, and each number of the
-- row fits its part of a word. Assumes nothing.
use mathlib.Core.Path.{sym, subst}
use native.Mathlib.Omega.{arith}
use Rattle.pipes.specs.Elements.{few}
use Rattle.port_table.specs.Rows.{PortWide}
use Rattle.port_fill.specs.Widths.{row_wide}
use Rattle.port_fill.specs.Strung.{port_put}
use Rattle.port_fill.proofs.put_port.Goals as goal

pub overflow_mul-p : goal.overflow_mul-p
overflow_mul-p c =
    let p = c.requires in
    record { fits = omega (arith, p.has_port_lem.near.lt, few p.has_port_lem.near) }

pub overflow_add-p : goal.overflow_add-p
overflow_add-p c =
    let p = c.requires in
    record { fits = omega (arith, p.has_port_lem.near.lt, few p.has_port_lem.near, p.stream) }

pub put_port-requires : goal.put_port-requires
put_port-requires c =
    let p = c.requires in (
      omega (arith, p.has_port_lem.near.lt, few p.has_port_lem.near, p.stream),
      subst PortWide (sym c.row_of-k.ensures)
          (row_wide p.narrow p.has_port_lem.near.seen.flows.laid p.has_port_lem.near.lt p.small),
    )

pub returns : goal.returns
returns c =
    let a = c.args in
    port_put a.f.nest a.f.stream a.g a.i a.p a.ports.now c.row_of-k.ensures
    c.put_port.ensures
