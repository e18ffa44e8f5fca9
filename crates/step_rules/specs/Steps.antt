-- Readiness and effect of a step by the rows of a port table, as the code has them. Assumes nothing.
use Rattle.std.specs.Prelude.{Bool, List, ℕ, take}
use Rattle.meaning.specs.declared.Description.{Description}
use Rattle.meaning.specs.declared.Step.{Step}
use Rattle.meaning.specs.declared.Step.TheVariants.{Send, Take, Fire, Give, Receive}
use Rattle.meaning.specs.Loops.{increment}
use Rattle.meaning.specs.Rules.{Memory, memory_of}
use Rattle.geometry.specs.Processes.{run_at}
use Rattle.layout.specs.Spans.{process_of}
use Rattle.ports.specs.Links.{word}
use Rattle.take_give.specs.Moves.{can_take, taken, can_give, given}
use Rattle.send_receive.specs.Moves.{can_send, sent, can_receive, received, received_list}
use Rattle.fire.specs.Firing.{can_fire, fired}
use Rattle.port_table.specs.PortsOf.{port_at, ports_at, end_at}
use Rattle.step_rules.specs.declared.Program.{Program}

abbrev pub program_of : Description → Program
program_of d = record { nest = d.nest; increment = increment d.nest; lines = d.lines; count = d.sizes.lines }

-- by the port table b of m streams
unfoldable pub can_by : List ℕ → List ℕ → ℕ → Step → Bool
can_by b st m (Send q) = can_send st (end_at b q)
can_by b st m (Take p i) = can_take st (port_at b p i)
can_by b st m (Fire p) = can_fire st (ports_at b p) m
can_by b st m (Give p i) = can_give st (port_at b p i)
can_by b st m (Receive q) = can_receive st (end_at b q)

abbrev pub fired_by : Program → ℕ → List ℕ → List ℕ → ℕ → List ℕ
fired_by g m b st p =
    fired (run_at g.nest (process_of g.nest p) (word st (port_at b p 0).fired)) (take g.count g.lines) st (ports_at b p) m

unfoldable pub act_by : Program → ℕ → List ℕ → Memory → Step → Memory
act_by g m b M (Send q) = memory_of M.waiting M.received (sent M.waiting M.state (end_at b q))
act_by g m b M (Take p i) = memory_of M.waiting M.received (taken M.state (port_at b p i))
act_by g m b M (Fire p) = memory_of M.waiting M.received (fired_by g m b M.state p)
act_by g m b M (Give p i) = memory_of M.waiting M.received (given M.state (port_at b p i))
act_by g m b M (Receive q) =
    memory_of M.waiting (received_list M.received M.state (end_at b q)) (received M.state (end_at b q))
