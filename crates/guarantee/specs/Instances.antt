-- The instances by number in written order: which process fires each and as its how-manieth, and back; the counts add up to them. Assumes a
-- description that is not refused.
use Rattle.std.specs.Prelude.{◌≡◌, Bool, ◌&&◌, ℕ, ◌<◌, T, eqb, get_or}
use Rattle.std.proofs.Common.{sym, ◌∙◌, ap₂, subst, zero-add, arith, eqb→eq}
use Rattle.std.proofs.Math.Path.{ap}
use mathlib.Core.List.{List, []}
use Rattle.std.proofs.Math.Dec.{eqb_refl}
use Rattle.std.proofs.Math.ListN.{length, length-map, get_or-eq_default}
use Rattle.integers.specs.Vectors.{zero3, zero2}
use Rattle.integers.specs.declared.V3.{V3}
use Rattle.integers.specs.declared.V2.{V2}
use Rattle.meaning.specs.declared.Nest.{Nest}
use Rattle.meaning.specs.declared.Description.{Description}
use Rattle.meaning.specs.Lists.{position, total, numbers}
use Rattle.meaning.specs.Loops.{instances, place_of}
use Rattle.meaning.specs.Space.{row_index, space, processes, count}
use Rattle.meaning.specs.Array.{runs, Array, array_of, runs_of, count_at, instance_at, process_count}
use Rattle.meaning.specs.Points.{Within, Inside}
use Rattle.lists.specs.Members.{map_at, numbers_length, numbers_at}
use Rattle.lists.specs.Sums.{total_map, total_ext, total_numbers}
use Rattle.geometry.specs.Numbers.{and_left, and_right, both}
use Rattle.geometry.specs.Places.{get_d_in, found, distinct_at, position_is}
use Rattle.geometry.specs.Instances.{within_in, in_within, distinct}
use Rattle.geometry.specs.Boxes.{points_inside, box_has}
use Rattle.geometry.specs.RowOrder.{row_at_lem, row_lt, row_number}
use Rattle.geometry.specs.Processes.{run_at, firing_of}
use Rattle.geometry.proofs.Processes.{firing_lt, instance_firing, instance_at_lem, firing_instance}
use Rattle.geometry.proofs.Firings.{runs_length, runs_at}
use Rattle.geometry.specs.Counts.{counts_total}
use Rattle.geometry.proofs.Passes.{instance_is}
use Rattle.geometry.specs.Descriptions.{Laid}
use Rattle.geometry.specs.Arrays.{one_number}
use Rattle.abstract_network.specs.Cases.{Order, less, at_least, order}

-- the i-th instance of the written order
abbrev pub instance_number : Description → ℕ → V3
instance_number d i = get_or (instances d.nest) i zero3

module _ (d : Description) where
  abbrev pub instance_count : ℕ
  instance_count = length (instances d.nest)

  -- the process that fires instance i, and as its how-manieth
  abbrev pub owner : ℕ → ℕ
  owner i = row_index (space d.nest) (place_of d.nest (instance_number d i))

  abbrev pub firing : ℕ → ℕ
  firing i = firing_of d.nest (instance_number d i)

  -- the instance that process p fires f-th
  abbrev pub instance_of : ℕ → ℕ → ℕ
  instance_of p f = position (λ i. eqb (owner i) p && eqb (firing i) f) (numbers instance_count)

module _ {d : Description} (laid : Laid d) where
  abbrev n : Nest
  n = d.nest

  abbrev A : Array
  A = array_of d

  -- ---- processes by number

  pub process_count_lem : process_count A ≡ length (processes n)
  unfolding array_of
  process_count_lem = length-map (processes n) (runs n)

  -- the process with a point's number runs that point's instances
  runs_of_lem : {p : V2} → Inside (space n) p → runs_of A (row_index (space n) p) ≡ runs n p
  unfolding array_of
  runs_of_lem {p} h =
      map_at (runs n) (processes n) (row_index (space n) p) zero2 [] (row_lt (space n) p h) ∙ ap (runs n) (row_at_lem (space n) p zero2 h)

  pub count_at_lem : {p : V2} → Inside (space n) p → count_at A (row_index (space n) p) ≡ count n p
  count_at_lem {p} h = ap length (runs_of_lem h) ∙ runs_length laid.layout p

  pub run_at_lem : {p : V2} → Inside (space n) p → (f : ℕ) → f < count n p → instance_at A (row_index (space n) p) f ≡ run_at n p f
  run_at_lem {p} h f c = ap (λ (l : List V3). get_or l f zero3) (runs_of_lem h) ∙ runs_at laid.layout p f zero3 c

  -- a number that has a count is a point's
  pub counted_lt : (p f : ℕ) → f < count_at A p → p < process_count A
  counted_lt p f h = go (order p (process_count A))
    where
      go : Order p (process_count A) → p < process_count A
      go (less l) = l
      go (at_least l) = absurd (omega (arith, ap length (get_or-eq_default A.runs [] l)))

  pub point_inside : (p : ℕ) → p < process_count A → Inside (space n) (get_or (processes n) p zero2)
  point_inside p h = points_inside (space n) (get_or (processes n) p zero2)
      (get_d_in (processes n) p zero2 (omega (arith, process_count_lem)))

  pub point_number : (p : ℕ) → p < process_count A → row_index (space n) (get_or (processes n) p zero2) ≡ p
  point_number p h = row_number (space n) p zero2 (omega (arith, process_count_lem))

  -- ---- instances by number

  pub within : (i : ℕ) → i < instance_count d → Within n (instance_number d i)
  within i h = in_within laid.layout.dirs (get_d_in (instances n) i zero3 h)

  pub owner_inside : (i : ℕ) → i < instance_count d → Inside (space n) (place_of n (instance_number d i))
  owner_inside i h = box_has laid.layout.dirs n.place (within i h)

  -- process and firing determine the instance
  one_instance : (i j : ℕ) → i < instance_count d → j < instance_count d → owner d i ≡ owner d j → firing d i ≡ firing d j → i ≡ j
  one_instance i j h k e f =
      distinct_at (distinct laid.layout.dirs) i j zero3 h k
      (sym (instance_firing laid.layout (within i h)) ∙ ap₂ (run_at n) (one_number (space n) (owner_inside i h) (owner_inside j k) e) f
      ∙ instance_firing laid.layout (within j k))

  number_at : (j : ℕ) → j < instance_count d → get_or (numbers (instance_count d)) j 0 ≡ j
  number_at j h = numbers_at 0 (instance_count d) j 0 h ∙ zero-add j

  -- from an instance to its process and firing, and back
  pub instance_of_lem : (i : ℕ) → i < instance_count d
      → (firing d i < count_at A (owner d i)) × (instance_of d (owner d i) (firing d i) ≡ i)
  instance_of_lem i h = (
    subst (λ (c : ℕ). firing d i < c) (sym (count_at_lem (owner_inside i h))) (firing_lt laid.layout (within i h)),
    position_is is (numbers (instance_count d)) i 0 (omega (arith, numbers_length 0 (instance_count d)))
        (subst (λ (j : ℕ). T (is j)) (sym (number_at i h))
        (both (eqb (owner d i) (owner d i)) (eqb (firing d i) (firing d i)) (eqb_refl (owner d i)) (eqb_refl (firing d i))))
        (λ j l t. not_sooner j l (subst (λ (j : ℕ). T (is j)) (number_at j (omega arith)) t)),
  )
    where
      is : ℕ → Bool
      is j = eqb (owner d j) (owner d i) && eqb (firing d j) (firing d i)

      not_sooner : (j : ℕ) → j < i → T (is j) → ⊥
      not_sooner j l t =
          let e : j ≡ i =
          one_instance j i (omega arith) h
          (eqb→eq (owner d j) (owner d i) (and_left (eqb (owner d j) (owner d i)) (eqb (firing d j) (firing d i)) t))
          (eqb→eq (firing d j) (firing d i) (and_right (eqb (owner d j) (owner d i)) (eqb (firing d j) (firing d i)) t)) in
          omega arith

  pub instance_back : (p f : ℕ) → f < count_at A p
      → (instance_of d p f < instance_count d) × (owner d (instance_of d p f) ≡ p) × (firing d (instance_of d p f) ≡ f)
  instance_back p f h =
      let l = counted_lt p f h in
      let y = get_or (processes n) p zero2 in
      let c = (instance_is d laid.layout p f l h).0 in
      let w = instance_at_lem laid.layout y f c in
      let r = found zero3 (within_in laid.layout.dirs w.within) in
      let o : owner d r.at ≡ p = ap (λ (x : V3). row_index (space n) (place_of n x)) r.is ∙ ap (row_index (space n)) w.to
      ∙ point_number p l in
      let g : firing d r.at ≡ f = ap (firing_of n) r.is ∙ firing_instance laid.layout y f c in
      let e : instance_of d p f ≡ r.at = ap₂ (instance_of d) (sym o) (sym g) ∙ (instance_of_lem r.at r.lt).1 in
      (subst (λ (i : ℕ). i < instance_count d) (sym e) r.lt, ap (owner d) e ∙ o, ap (firing d) e ∙ g)

  -- it is what that process fires then
  pub instance_same : (i : ℕ) → i < instance_count d → instance_at A (owner d i) (firing d i) ≡ instance_number d i
  instance_same i h =
      run_at_lem (owner_inside i h) (firing d i) (firing_lt laid.layout (within i h)) ∙ instance_firing laid.layout (within i h)

  -- the counts of all processes add up to the instances
  pub instances_add : total (count_at A) (numbers (process_count A)) ≡ instance_count d
  unfolding array_of
  instances_add =
      total_numbers length [] A.runs ∙ total_map length (runs n) (processes n) ∙ total_ext _ _ (runs_length laid.layout) (processes n)
      ∙ counts_total laid.layout.dirs
