-- The counts of the processes add up to the number of instances. Assumes directions of 1 or −1.
use Rattle.std.specs.Prelude.{◌≡◌, refl, List, ◌≤◌, length}
use Rattle.std.proofs.Common.{sym, ◌∙◌, ap, arith}
use Rattle.integers.specs.declared.V3.{V3}
use Rattle.meaning.specs.declared.Nest.{Nest}
use Rattle.meaning.specs.Lists.{total, each}
use Rattle.meaning.specs.Loops.{instances, place_of}
use Rattle.meaning.specs.Space.{space, processes, instances_at, count}
use Rattle.meaning.specs.Points.{Directed, At}
use Rattle.meaning.specs.Sorted.{Distinct}
use Rattle.lists.specs.Members.{in_each, each_in, each_length}
use Rattle.geometry.specs.Sorting.{sorted_each, fewer}
use Rattle.geometry.specs.Instances.{within_in, in_within, distinct}
use Rattle.geometry.specs.Boxes.{row_distinct, inside_points, points_sorted}
use Rattle.geometry.specs.Segments.{sent_distinct, at_in, in_at, at_box}

module _ {n : Nest} (dirs : Directed n) where
  -- the instances, process by process
  abbrev by_process : List V3
  by_process = each (instances_at n) (processes n)

  by_process_distinct : Distinct by_process
  by_process_distinct =
      sorted_each {R = λ y y'. y ≡ y' → ⊥} {S = λ x x'. x ≡ x' → ⊥} (instances_at n) (sent_distinct dirs n.place)
      (λ y y' x x' r i j e. r (sym (in_at dirs {m = n.place} y x i).to ∙ ap (place_of n) e ∙ (in_at dirs {m = n.place} y' x' j).to))
      (row_distinct (points_sorted (space n)))

  -- every instance is at one process
  pub counts_total : total (count n) (processes n) ≡ length (instances n)
  counts_total =
      let a : length by_process ≤ length (instances n) =
      fewer by_process_distinct
      (λ x i. let r = each_in (instances_at n) (processes n) i in within_in dirs (in_at dirs {m = n.place} r.from x r.is).within) in
      let b : length (instances n) ≤ length by_process =
      fewer (distinct dirs)
      (λ x i.
      let r : At n n.place (place_of n x) x = record { within = in_within dirs i; to = refl } in
      in_each (instances_at n) (inside_points (space n) (place_of n x) (at_box dirs r)) (at_in dirs r)) in
      omega (arith, each_length (instances_at n) (processes n))
