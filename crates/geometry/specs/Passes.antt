-- Every pass of the loops is run by one processor, once, and no processor runs anything else: by rows that say of each process its point,
-- count, first and last, and by what Fire runs. Assumes directions of 1 or −1 and an increment of positive step, which `Layout` says and
-- every accepted description has.
use Rattle.std.specs.Prelude.{◌≡◌, refl, true, ℕ, suc, ◌<◌, T, ltb, length, get_or, pos}
use Rattle.std.proofs.Common.{sym, ◌∙◌, ap, subst, subst₂, arith, ltb→lt}
use mathlib.Core.List.{List, []}
use Rattle.std.proofs.Math.ListN.{length-map}
use Rattle.integers.specs.Vectors.{zero3, zero2, shift3}
use Rattle.integers.specs.declared.V3.{V3}
use Rattle.integers.specs.declared.V2.{V2}
use Rattle.meaning.specs.declared.Nest.{Nest}
use Rattle.meaning.specs.declared.Description.{Description}
use Rattle.meaning.specs.declared.Row.{Row}
use Rattle.meaning.specs.Lists.{every, numbers}
use Rattle.meaning.specs.Loops.{place_of, increment}
use Rattle.meaning.specs.Space.{row_index, space, processes, count, first, last}
use Rattle.meaning.specs.Array.{runs, array_of, runs_of, count_at, instance_at, process_count, stream_count}
use Rattle.meaning.specs.State.{Firings, read}
use Rattle.meaning.specs.declared.Step.TheVariants.{Fire}
use Rattle.meaning.specs.Rules.{ready, ready_to_use, fire_instance}
use Rattle.meaning.specs.Points.{Within, At}
use Rattle.meaning.specs.Demand2.{row_at, RunBy, RunOnce, EveryPass}
use Rattle.lists.specs.Members.{map_at}
use Rattle.geometry.specs.Numbers.{and_left}
use Rattle.geometry.specs.Boxes.{box_has}
use Rattle.geometry.specs.RowOrder.{row_at_lem, row_lt, row_number}
use Rattle.geometry.specs.Segments.{segment}
use Rattle.geometry.specs.Processes.{Layout, run_at, firing_of}

-- a row says this of process y
pub record RowOf (n : Nest) (y : V2) (r : Row) : Type 0 where
  pub point : r.point ≡ y
  pub count : r.count ≡ count n y
  pub first : r.first ≡ first n y
  pub last : r.last ≡ last n y
