-- A whole walk by process comes to every instance exactly once and to nothing else, process by process in row order and along each
-- process's own line from first to last. Assumes directions of 1 or −1 and an increment of positive step, which `Layout` says.
use Rattle.std.specs.Prelude.{◌≡◌, Bool, ℕ, suc, ◌<◌, length, pos}
use Rattle.std.proofs.Math.Path.{refl, sym, ap}
use Rattle.std.proofs.Common.{◌∙◌, subst, arith}
use mathlib.Core.List.Memᴰ
use mathlib.Core.List.Memᴰ.{map as in_map}
use mathlib.Core.List.{Memᴰ as In}
use Rattle.std.specs.Int.Signed.{<ℤ_irrefl}
use Rattle.integers.specs.Vectors.{shift3}
use Rattle.integers.specs.declared.V3.{V3}
use Rattle.integers.specs.declared.V2.{V2}
use Rattle.meaning.specs.declared.Nest.{Nest}
use Rattle.meaning.specs.Lists.{any, numbers}
use Rattle.meaning.specs.Loops.{instances, place_of, increment}
use Rattle.meaning.specs.Space.{row_index, space, processes, count, first, last}
use Rattle.meaning.specs.Sorted.{Sorted, Distinct}
use Rattle.meaning.specs.Points.{Within}
use Rattle.meaning.specs.Walk.{own_line, walk, process_number, ComesBefore, WholeWalk}
use Rattle.lists.specs.Members.{any_same, map_in, in_each, each_in, numbers_in, in_numbers}
use Rattle.geometry.specs.Sorting.{sorted_map, sorted_with, sorted_by_map, sorted_each, numbers_sorted, fewer, rearranged}
use Rattle.geometry.specs.Instances.{within_in, in_within, distinct}
use Rattle.geometry.specs.Boxes.{inside_points}
use Rattle.geometry.specs.RowOrder.{numbers_rise}
use Rattle.geometry.specs.Segments.{at_box, segment}
use Rattle.geometry.specs.Processes.{Layout, RunAt, run_at, firing_of}
use Rattle.geometry.proofs.Processes.{firing_lt, instance_firing, instance_at_lem}
use Rattle.geometry.proofs.Firings.{Sooner, sooner_later}

module _ {n : Nest} (layout : Layout n) where
  -- ---- one line

  on_line : (y : V2) (x : V3) → In x (own_line n y) → RunAt n y x
  on_line y x i =
      let r = map_in (run_at n y) (numbers (count n y)) i in
      subst (RunAt n y) (sym r.is) (instance_at_lem layout y r.from (omega (arith, (numbers_in 0 (count n y) r.mem).1)))

  line_has : {x : V3} → Within n x → In x (own_line n (place_of n x))
  line_has {x} w =
      Memᴰ.cast (sym (instance_firing layout w))
      (in_map (run_at n (place_of n x))
      (in_numbers 0 (count n (place_of n x)) (firing_of n x) (omega arith) (omega (arith, firing_lt layout w))))

  line_sorted : (y : V2) → Sorted (Sooner n) (own_line n y)
  line_sorted y = sorted_by_map (run_at n y) (sooner_later layout y) (numbers_sorted 0 (count n y))

  -- ---- the walk

  pub nothing_else : (x : V3) → In x (walk n) → Within n x
  unfolding walk
  nothing_else x i = let r = each_in (own_line n) (processes n) i in (on_line r.from x r.is).within

  every : (x : V3) → Within n x → In x (walk n)
  unfolding walk
  every x w =
      in_each (own_line n)
      (inside_points (space n) (place_of n x) (at_box layout.dirs {m = n.place} (record { within = w; to = refl }))) (line_has w)

  in_order : Sorted (ComesBefore n) (walk n)
  unfolding walk
  in_order =
      sorted_each {R = λ y y'. row_index (space n) y < row_index (space n) y'} {S = ComesBefore n} (own_line n)
      (λ y. sorted_map
      (λ x x' r. let e : process_number n x ≡ process_number n x' = ap (row_index (space n)) (r.0.to ∙ sym r.1.to) in
      record { never_fall = omega arith; rise = λ _. r.2 })
      (sorted_with (RunAt n y) (on_line y) (line_sorted y)))
      (λ y y' x x' r i j.
      let e = ap (row_index (space n)) (on_line y x i).to in
      let e' = ap (row_index (space n)) (on_line y' x' j).to in
      record { never_fall = omega arith; rise = λ q. absurd (omega arith) })
      (numbers_rise (space n))

  once : Distinct (walk n)
  once =
      sorted_map (λ x x' b e. <ℤ_irrefl (subst (Sooner n x) (sym e) (b.rise (ap (process_number n) e)))) in_order

  to_last : (y : V2) (k : ℕ) → count n y ≡ suc k → shift3 (first n y) (pos k) (increment n) ≡ last n y
  to_last y k e =
      let w = segment layout.dirs layout.inc (instance_at_lem layout y 0 (omega arith)) in
      let z : k ≡ w.span = omega (arith, w.size) in ap (run_at n y) z ∙ sym w.end

  -- as many as there are instances
  pub walk_length : length (walk n) ≡ length (instances n)
  walk_length =
      let a = fewer once (λ x i. within_in layout.dirs (nothing_else x i)) in
      let b = fewer (distinct layout.dirs) (λ x i. every x (in_within layout.dirs i)) in
      omega (arith, a, b)

  pub whole_walk : WholeWalk n
  whole_walk =
      record {
        every = every;
        once = once;
        nothing_else = nothing_else;
        in_order = in_order;
        to_last = to_last;
        rearranged = rearranged once (λ x i. within_in layout.dirs (nothing_else x i)) (omega (arith, walk_length));
      }

  -- what some instance of the walk is like, some instance is
  pub any_on_walk : (f : V3 → Bool) → any f (walk n) ≡ any f (instances n)
  any_on_walk f =
      any_same f (λ x i. within_in layout.dirs (nothing_else x i)) (λ x i. every x (in_within layout.dirs i))
