-- `port_fill::put_ports` meets its contract: the rows of the first p processes are written. Assumes nothing.
use mathlib.Core.Path.{◌≡◌, sym, ◌∙◌, ap}
use Prim.Native.Nat.{ℕ}
use native.Mathlib.Omega.{arith}
use Rattle.port_fill.specs.Marks.{marks_zero}
use Rattle.port_fill.specs.Strung.{port_rows, port_fillable, ports_turn}
use Rattle.port_fill.proofs.put_ports.Goals as goal

pub loop-p-init : goal.loop-p-init
loop-p-init c = sym (marks_zero _ _ _ _ _)

pub put_port-requires : goal.put_port-requires
put_port-requires c = port_fillable c.requires c.loop-p.p (omega arith)

pub loop-p-preserved : goal.loop-p-preserved
loop-p-preserved c =
    let a = c.args in
    ports_turn a.f.nest a.f.stream a.g a.i c.loop-p.p a.ports.now c.loop-p.invariant c.put_port.ensures

pub returns : goal.returns
returns c =
    let a = c.args in
    let e : c.loop-p.p ≡ a.processes = omega arith in
    c.loop-p.invariant ∙ ap (λ (k : ℕ). port_rows a.f.nest a.f.stream a.g a.i k a.ports.now) e
