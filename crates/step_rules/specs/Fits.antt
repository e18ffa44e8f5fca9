-- Port tables, programs and steps that fit. Assumes nothing.
use Rattle.std.specs.Prelude.{◌≡◌, refl, true, List, ℕ, zero, suc, ◌≤◌, ◌<◌, length, get_or}
use Rattle.std.proofs.Common.{arith}
use Rattle.meaning.specs.declared.Step.{Step}
use Rattle.meaning.specs.declared.Step.TheVariants.{Send, Take, Fire, Give, Receive}
use Rattle.meaning.specs.Loops.{increment}
use Rattle.meaning.specs.Space.{processes, count}
use Rattle.numbering.specs.Ranges.{Bounded}
use Rattle.vectors.specs.Within.{Within}
use Rattle.layout.specs.Spans.{process_of, Spans}
use Rattle.body.specs.Fit.{Fit}
use Rattle.ports.specs.Links.{word}
use Rattle.fire.specs.Firing.{no_port, ProcessFits, can_fire, fire_facts}
use Rattle.port_table.specs.declared.Size.{Size}
use Rattle.port_table.specs.PortsOf.{port_at, ports_at, RowsFit}
use Rattle.instances.specs.Runs.{Runs}
use Rattle.step_rules.specs.declared.Program.{Program}

-- a send and a receive are of a pipe, a fire is of a process, a take and a give are of a process and a stream
abbrev pub Inside : Size → Step → Type 0
Inside z (Send q) = q < z.pipes
Inside z (Take p i) = (p < z.processes) × (i < z.streams)
Inside z (Fire p) = p < z.processes
Inside z (Give p i) = (p < z.processes) × (i < z.streams)
Inside z (Receive q) = q < z.pipes

-- what the processes of a port table run
pub record Programmed (g : Program) (spans b : List ℕ) (z : Size) : Type 0 where
  pub nest : Bounded g.nest
  pub increment : g.increment ≡ increment g.nest
  pub within : Within 200 g.increment
  pub held : Spans g.nest spans
  pub words : length spans ≡ 3072
  pub processes : z.processes ≡ length (processes g.nest)
  pub counts : (p : ℕ) → p < z.processes → (port_at b p 0).count ≡ count g.nest (process_of g.nest p)
  pub most : (p : ℕ) → p < z.processes → (port_at b p 0).count ≤ 4096
  pub lines : Fit z.streams g.count g.lines

-- the rows of a process, by stream
pub ports_at_lem : (b : List ℕ) (p s : ℕ) → s < 6 → get_or (ports_at b p) s no_port ≡ port_at b p s
ports_at_lem b p zero h = refl
ports_at_lem b p (suc zero) h = refl
ports_at_lem b p (suc (suc zero)) h = refl
ports_at_lem b p (suc (suc (suc zero))) h = refl
ports_at_lem b p (suc (suc (suc (suc zero)))) h = refl
ports_at_lem b p (suc (suc (suc (suc (suc zero))))) h = refl
ports_at_lem b p (suc (suc (suc (suc (suc (suc s)))))) h = absurd (omega arith)

module _ {n : ℕ} {b : List ℕ} {z : Size} (f : RowsFit n b z) (p : ℕ) (h : p < z.processes) where
  pub process_fits : ProcessFits n (ports_at b p) z.streams
  process_fits =
      record {
        some = f.some;
        most = f.streams;
        small = λ s l. rw (ports_at_lem b p s (omega (arith, f.streams))) (f.small p s h l);
        ports = λ s l. rw (ports_at_lem b p s (omega (arith, f.streams))) (f.ports p s h l);
      }

-- the next instance of a process that can fire
pub next_runs : {n : ℕ} {b : List ℕ} {z : Size} {g : Program} {spans : List ℕ} (st : List ℕ) (p : ℕ) → RowsFit n b z
    → Programmed g spans b z
    → p < z.processes → can_fire st (ports_at b p) z.streams ≡ true
    → Runs g.nest g.increment spans p (word st (port_at b p 0).fired)
next_runs {b = b} {z} {g} st p f w h e =
    let l = fire_facts st (ports_at b p) z.streams e in
    record {
      computes = record {
        nest = w.nest;
        held = w.held;
        words = w.words;
        few = omega (arith, w.processes, f.processes);
        process = omega (arith, w.processes);
        some = omega (arith, l, w.counts p h);
      };
      increment = w.increment;
      within = w.within;
      firing = omega (arith, l, w.most p h);
    }
