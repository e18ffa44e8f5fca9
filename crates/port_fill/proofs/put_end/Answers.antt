-- `port_fill::put_end` meets its contract: at most 5,120 pipes of other streams and fewer than 1,024 of its own come before it, so that its
-- row lies in the table. Assumes nothing.
use mathlib.Core.Path.{sym, subst}
use native.Mathlib.Omega.{arith}
use Rattle.pipe_parts.specs.Starts.{one_yes, one_no}
use Rattle.port_table.specs.Rows.{EndWide}
use Rattle.port_fill.specs.Widths.{end_wide}
use Rattle.port_fill.specs.Strung.{end_on, end_off, end_elements, end_put, end_left}
use Rattle.port_fill.proofs.put_end.Goals as goal

pub end_of-e-requires : goal.end_of-e-requires
end_of-e-requires c = let p = c.requires in
    (p.flows, p.lt, p.narrow, omega (arith, p.pipe), end_elements p c.if-total-eq0.false)

pub overflow_add-base : goal.overflow_add-base
overflow_add-base c = let p = c.requires in record { fits = omega (arith, p.based, p.pipe) }

pub overflow_mul-base : goal.overflow_mul-base
overflow_mul-base c = let p = c.requires in record { fits = omega (arith, p.based, p.pipe) }

pub overflow_add-base-else-total-eq0 : goal.overflow_add-base-else-total-eq0
overflow_add-base-else-total-eq0 c = let p = c.requires in record { fits = omega (arith, p.based, p.pipe) }

pub overflow_cast-base : goal.overflow_cast-base
overflow_cast-base c = let p = c.requires in record { fits = omega (arith, p.based, p.pipe) }

pub put_end-requires : goal.put_end-requires
put_end-requires c =
    let a = c.args in
    let p = c.requires in (
      omega (arith, p.based, p.pipe),
      subst EndWide (sym c.end_of-e.ensures)
          (end_wide p.narrow p.flows.laid p.lt p.small a.start a.j p.begins (omega (arith, p.pipe))),
    )

pub returns-then-total-eq0 : goal.returns-then-total-eq0
returns-then-total-eq0 c =
    let a = c.args in
    let t = end_off c.requires c.if-total-eq0.true in (
      one_no a.f.nest a.f.stream a.p t,
      end_left a.f.nest a.f.stream a.g a.start a.base a.j a.p a.ports.now t,
    )

pub returns-else-total-eq0 : goal.returns-else-total-eq0
returns-else-total-eq0 c =
    let a = c.args in
    let t = end_on c.requires c.if-total-eq0.false in (
      one_yes a.f.nest a.f.stream a.p t,
      end_put a.f.nest a.f.stream a.g a.start a.base a.j a.p a.ports.now t
          c.end_of-e.ensures c.put_end.ensures,
    )
