-- Once a memory is opened, the rows of the port table fit it, and the steps by the port table are those of the array. Assumes nothing.
use Rattle.std.specs.Prelude.{◌≡◌, refl, List, ℕ, ◌<◌, length}
use Rattle.std.proofs.Common.{sym, ◌∙◌, ap, subst, arith}
use Rattle.meaning.specs.declared.Description.{Description}
use Rattle.meaning.specs.Loops.{increment}
use Rattle.meaning.specs.Array.{array_of, process_count, count_at}
use Rattle.meaning.specs.Rules.{Memory}
use Rattle.meaning.specs.Calls.{length_of}
use Rattle.vectors.specs.Within.{Within}
use Rattle.layout.specs.Spans.{Spans}
use Rattle.body.specs.Fit.{Fit}
use Rattle.ports.specs.declared.Port.{Port}
use Rattle.sound_rows.specs.Rows.{row_uses}
use Rattle.port_table.specs.declared.Size.{Size}
use Rattle.port_table.specs.PortsOf.{port_at, SizeOf, RowsFit, PartsFit}
use Rattle.step_rules.specs.Steps.{program_of}
use Rattle.step_rules.specs.Fits.{Programmed}
use Rattle.step_rules.specs.Meaning.{Stands, Performs}
use Rattle.opening.specs.Opening.{Grounds, Stood}

module _ {d : Description} (g : Grounds d) {M : Memory} {b : List ℕ} {z : Size} (o : Stood d M b z) where
  pub size_of_lem : SizeOf (array_of d) z
  size_of_lem = subst (SizeOf (array_of d)) (sym o.size) g.size

  pub fits : RowsFit (length M.state) b z
  fits = subst (RowsFit (length M.state) b) (sym o.size) (g.rows b (length M.state) o.table o.state)

  pub waiting_fits : PartsFit (length M.waiting) b z
  waiting_fits q h =
      omega (arith, o.waiting, subst (PartsFit (length_of d) b) (sym o.size) (g.parts b o.table) q h)

  pub received_fits : PartsFit (length M.received) b z
  received_fits q h =
      omega (arith, o.received, subst (PartsFit (length_of d) b) (sym o.size) (g.parts b o.table) q h)

  pub stands : Stands (array_of d) b z
  stands = record { table = o.table; size = size_of_lem; few = fits.streams; regular = g.regular }

  -- the rows of a process say how many instances it runs
  count_is : (p : ℕ) → p < z.processes → (port_at b p 0).count ≡ count_at (array_of d) p
  count_is p h =
      let l : p < process_count (array_of d) = omega (arith, size_of_lem.processes) in
      ap (λ (r : Port). r.count) (o.table.ports p 0 l (omega (arith, size_of_lem.streams, size_of_lem.some)))
      ∙ (row_uses (array_of d) p 0).count

  pub programmed : {spans : List ℕ} → Spans d.nest spans → length spans ≡ 3072 → Within 200 (increment d.nest)
      → Programmed (program_of d) spans b z
  programmed e l w =
      record {
        nest = g.described.nest;
        increment = refl;
        within = w;
        held = e;
        words = l;
        processes = ap (λ (z : Size). z.processes) o.size;
        counts = λ p h. count_is p h ∙ g.counts p (omega (arith, size_of_lem.processes));
        most = λ p h. omega (arith, count_is p h, g.counts_most p (omega (arith, size_of_lem.processes)));
        lines = subst (λ (m : ℕ). Fit m d.sizes.lines d.lines) (sym (ap (λ (z : Size). z.streams) o.size)) g.lines;
      }

pub performs : {d : Description} → Grounds d → Performs (array_of d) (program_of d)
performs g = record { lines = g.lines_are; instances = λ p f h l. sym (g.instances p h f l) }
