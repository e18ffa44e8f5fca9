-- `port_fill::put_ports` meets its contract: the rows of the first p processes are written. Assumes nothing.
use mathlib.Core.Path.{◌≡◌}
use Rattle.port_fill.specs.Strung.{port_rows}
use Rattle.port_fill.proofs.put_ports.Given as goal

abbrev pub invariant-loop-p : goal.invariant-loop-p
invariant-loop-p l = l.ports ≡ port_rows l.f.nest l.f.stream l.g l.i l.p l.initial.ports
