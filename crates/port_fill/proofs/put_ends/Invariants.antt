-- `port_fill::put_ends` meets its contract: the heads of the first p processes and the rows of the pipes that enter there are written, the
-- count is that of those pipes, and the start is where the part of the next one begins. Assumes nothing.
use mathlib.Core.Path.{◌≡◌}
use Rattle.pipe_parts.specs.Starts.{start_at, entered_at}
use Rattle.pipe_parts.specs.Heads.{Heads}
use Rattle.port_fill.specs.Strung.{end_rows}
use Rattle.port_fill.proofs.put_ends.Given as goal

abbrev pub invariant-loop-p : goal.invariant-loop-p
invariant-loop-p l = let f = l.f in
    (l.start ≡ start_at f.nest f.stream l.first l.p)
    × (l.j ≡ entered_at f.nest f.stream l.p) × (Heads f.nest f.stream l.p l.heads)
    × (l.ports ≡ end_rows f.nest f.stream l.g l.first l.base l.p l.initial.ports)
