-- The instances of a process in step order, as it fires them: first, first + increment, .., last, with no gap. Assumes directions of 1 or
-- −1 and an increment of positive step, which `Layout` says.
use Rattle.std.specs.Prelude.{◌≡◌, refl, Bool, true, false, not, cond, ℕ, ◌<◌, T, length, get_or, ℤ, pos, ◌-ℤ◌, ◌≤ℤ◌, ◌<ℤ◌}
use Rattle.std.proofs.Common.{sym, ◌∙◌, ap, subst, subst₂, zero-add, arith}
use mathlib.Core.List.Memᴰ
use mathlib.Core.List.Memᴰ.{head as here}
use mathlib.Core.List.Memᴰ.{map as in_map}
use mathlib.Core.List.Memᴰ.{tail as there}
use mathlib.Core.List.{List, [], ◌∷◌, map, Memᴰ as In}
use Rattle.std.proofs.lemmas.List.{length-map}
use Rattle.std.specs.Int.Signed.{lt_z, lt_z_no, <ℤ_irrefl, <ℤ-≤ℤ_trans}
use Rattle.integers.specs.Differences.{gaps, lt_in}
use Rattle.integers.specs.Variables.{linear}
use Rattle.integers.specs.Vectors.{shift3}
use Rattle.integers.proofs.Vectors.{dot_shift}
use Rattle.integers.specs.declared.V3.{V3}
use Rattle.integers.specs.declared.V2.{V2}
use Rattle.meaning.specs.declared.Nest.{Nest}
use Rattle.meaning.specs.Lists.{numbers}
use Rattle.meaning.specs.Loops.{step_of, increment}
use Rattle.meaning.specs.Space.{instances_at, count, first}
use Rattle.meaning.specs.Array.{insert_by_step, by_step, runs}
use Rattle.meaning.specs.Sorted.{Sorted, Sorted.none, Sorted.more}
use Rattle.lists.specs.Members.{map_in, map_at, numbers_in, in_numbers, numbers_length, numbers_at}
use Rattle.geometry.specs.Sorting.{sorted_map, sorted_with, sorted_by_map, numbers_sorted, sorted_unique}
use Rattle.geometry.specs.Numbers.{not_zero, lt_le, positive_not, zero_on, on_less, on_one, zero_shift3}
use Rattle.geometry.specs.Lines.{on_line}
use Rattle.geometry.specs.Segments.{sent_distinct, at_in, in_at, numbered}
use Rattle.geometry.specs.Processes.{Layout, RunAt, run_at}
use Rattle.geometry.proofs.Processes.{instance_at_lem}

-- x has the smaller step
abbrev pub Sooner : Nest → V3 → V3 → Type 0
Sooner n x x' = step_of n x <ℤ step_of n x'

-- ---- sorting by step keeps the members

insert_in : (n : Nest) (x : V3) (l : List V3) {z : V3} → In z (insert_by_step n x l) → In z (x ∷ l)
unfolding insert_by_step
insert_in n x [] i = i
insert_in n x (y ∷ l) {z} i = go (lt_z (step_of n y) (step_of n x)) (insert_in n x l) i
  where
    swap : In z (x ∷ l) → In z (x ∷ y ∷ l)
    swap (here e) = here e
    swap (there k) = there (there k)

    go : (b : Bool) → (In z (insert_by_step n x l) → In z (x ∷ l)) → In z (cond b (y ∷ insert_by_step n x l) (x ∷ y ∷ l)) → In z (x ∷ y ∷ l)
    go true ih (here e) = there (here e)
    go true ih (there k) = swap (ih k)
    go false ih i = i

in_insert : (n : Nest) (x : V3) (l : List V3) {z : V3} → In z (x ∷ l) → In z (insert_by_step n x l)
unfolding insert_by_step
in_insert n x [] i = i
in_insert n x (y ∷ l) {z} i = go (lt_z (step_of n y) (step_of n x)) (in_insert n x l) i
  where
    go : (b : Bool) → (In z (x ∷ l) → In z (insert_by_step n x l)) → In z (x ∷ y ∷ l) → In z (cond b (y ∷ insert_by_step n x l) (x ∷ y ∷ l))
    go true ih (here e) = there (ih (here e))
    go true ih (there (here e)) = here e
    go true ih (there (there k)) = there (ih (there k))
    go false ih i = i

by_step_in : (n : Nest) (l : List V3) {z : V3} → In z (by_step n l) → In z l
unfolding by_step
by_step_in n [] i = i
by_step_in n (x ∷ l) {z} i = go (insert_in n x (by_step n l) i) (by_step_in n l)
  where
    go : In z (x ∷ by_step n l) → (In z (by_step n l) → In z l) → In z (x ∷ l)
    go (here e) ih = here e
    go (there k) ih = there (ih k)

in_by_step : (n : Nest) (l : List V3) {z : V3} → In z l → In z (by_step n l)
unfolding by_step
in_by_step n [] {z = z} i = elim i [ ]
in_by_step n (x ∷ l) (here e) = in_insert n x (by_step n l) (here e)
in_by_step n (x ∷ l) (there k) = in_insert n x (by_step n l) (there (in_by_step n l k))

-- ---- and sorts, where no two steps are equal

sooner_or : (n : Nest) (x y : V3) → (step_of n x ≡ step_of n y → ⊥) → T (not (lt_z (step_of n y) (step_of n x))) → Sooner n x y
sooner_or n x y f t = go (step_of n x) (step_of n y) (lt_z_no t) f
  where
    differ : (a b : ℤ) → b -ℤ a ≡ pos 0 → a ≡ b
    differ = linear 0 2 _ λ p m. simp gaps (omega arith)

    rest : (a b : ℤ) → a ≤ℤ b → pos 0 ≤ℤ (b -ℤ a)
    rest = linear 0 2 _ λ p m. simp gaps (omega arith)

    back : (a b : ℤ) → pos 0 <ℤ (b -ℤ a) → a <ℤ b
    back = linear 0 2 _ λ p m. simp gaps (omega arith)

    go : (a b : ℤ) → a ≤ℤ b → (a ≡ b → ⊥) → a <ℤ b
    go a b h f = back a b (not_zero (b -ℤ a) (rest a b h) (λ e. f (differ a b e)))

insert_sorted : (n : Nest) (x : V3) {l : List V3} → Sorted (Sooner n) l → ((y : V3) → In y l → step_of n x ≡ step_of n y → ⊥)
    → Sorted (Sooner n) (insert_by_step n x l)
unfolding insert_by_step
insert_sorted n x none f = more {x = x} {l = []} (λ y k. elim k [ ]) none
insert_sorted n x (more {x = y} {l} h s) f =
    go (lt_z (step_of n y) (step_of n x)) (λ t. record { lt = t }) (sooner_or n x y (f y (here refl)))
    (insert_sorted n x s (λ z k. f z (there k)))
  where
    first_of : Sooner n y x → (z : V3) → In z (x ∷ l) → Sooner n y z
    first_of r z (here e) = subst (Sooner n y) (sym e) r
    first_of r z (there k) = h z k

    behind : Sooner n x y → (z : V3) → In z (y ∷ l) → Sooner n x z
    behind r z (here e) = subst (Sooner n x) (sym e) r
    behind r z (there k) = <ℤ-≤ℤ_trans r (lt_le (h z k))

    go : (b : Bool) → (T b → Sooner n y x) → (T (not b) → Sooner n x y) → Sorted (Sooner n) (insert_by_step n x l)
        → Sorted (Sooner n) (cond b (y ∷ insert_by_step n x l) (x ∷ y ∷ l))
    go true g g' ih = more (λ z k. first_of (g tt) z (insert_in n x l k)) ih
    go false g g' ih = more (behind (g' tt)) (more h s)

by_step_sorted : (n : Nest) {l : List V3} → Sorted (λ x x'. step_of n x ≡ step_of n x' → ⊥) l → Sorted (Sooner n) (by_step n l)
unfolding by_step
by_step_sorted n none = none
by_step_sorted n (more {x} {l} h s) = insert_sorted n x (by_step_sorted n s) (λ y k. h y (by_step_in n l k))

-- ---- G1: the list of a process's instances

module _ {n : Nest} (layout : Layout n) where
  -- no two instances of a process have one step
  one_step : {y : V2} {x x' : V3} → RunAt n y x → RunAt n y x' → step_of n x ≡ step_of n x' → x ≡ x'
  one_step {x} {x'} a a' e =
      let r = on_line layout.inc x x' (a.to ∙ sym a'.to) in
      let z : pos 0 ≡ r.by =
      on_one (pos 0) r.by (step_of n (increment n)) (step_of n x) (positive_not layout.inc.ahead)
      (zero_on (step_of n x) (step_of n (increment n)) ∙ e ∙ ap (step_of n) r.eq ∙ dot_shift n.step x (increment n) r.by) in
      sym (r.eq ∙ ap (λ (t : ℤ). shift3 x t (increment n)) (sym z) ∙ zero_shift3 x (increment n))

  runs_sorted : (y : V2) → Sorted (Sooner n) (runs n y)
  runs_sorted y =
      by_step_sorted n
      (sorted_map (λ x x' r e. r.2 (one_step r.0 r.1 e))
      (sorted_with (RunAt n y) (in_at layout.dirs y) (sent_distinct layout.dirs n.place y)))

  pub sooner_later : (y : V2) (i j : ℕ) → i < j → Sooner n (run_at n y i) (run_at n y j)
  sooner_later y i j h =
      subst₂ ◌<ℤ◌ (sym (dot_shift n.step (first n y) (increment n) (pos i)))
      (sym (dot_shift n.step (first n y) (increment n) (pos j)))
      (on_less (pos i) (pos j) (step_of n (increment n)) (step_of n (first n y)) layout.inc.ahead (lt_in (omega arith)))

  -- in step order they are the firings 0, 1, .., count − 1
  pub runs_are : (y : V2) → runs n y ≡ map (run_at n y) (numbers (count n y))
  runs_are y =
      sorted_unique (λ x r. <ℤ_irrefl r) (λ x x' r r'. <ℤ_irrefl (<ℤ-≤ℤ_trans r (lt_le r'))) (runs_sorted y)
      (sorted_by_map (run_at n y) (sooner_later y) (numbers_sorted 0 (count n y)))
      (λ x i.
      let r = numbered layout.dirs layout.inc (in_at layout.dirs y x (by_step_in n (instances_at n y) i)) in
      Memᴰ.cast r.eq (in_map (run_at n y) (in_numbers 0 (count n y) r.at (omega arith) (omega (arith, r.lt)))))
      (λ x i.
      let r = map_in (run_at n y) (numbers (count n y)) i in
      Memᴰ.cast r.is
      (in_by_step n (instances_at n y)
      (at_in layout.dirs (instance_at_lem layout y r.from (omega (arith, (numbers_in 0 (count n y) r.mem).1))))))

  pub runs_length : (y : V2) → length (runs n y) ≡ count n y
  runs_length y = ap length (runs_are y) ∙ length-map (numbers (count n y)) (run_at n y) ∙ numbers_length 0 (count n y)

  pub runs_at : (y : V2) (i : ℕ) (d : V3) → i < count n y → get_or (runs n y) i d ≡ run_at n y i
  runs_at y i d h =
      ap (λ (l : List V3). get_or l i d) (runs_are y)
      ∙ map_at (run_at n y) (numbers (count n y)) i 0 d (subst (λ (c : ℕ). i < c) (sym (numbers_length 0 (count n y))) h)
      ∙ ap (run_at n y) (numbers_at 0 (count n y) i 0 h ∙ zero-add i)
