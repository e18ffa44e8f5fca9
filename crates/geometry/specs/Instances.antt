-- The instances are the whole points in the bounds, each once, in the written order. Assumes that directions are 1 or −1.
use Rattle.std.specs.Prelude.{◌≡◌, refl, ℕ, zero, suc, ◌*◌, ◌<◌, length, get_or, ℤ, pos, negsuc, ◌+ℤ◌, ◌-ℤ◌, ◌*ℤ◌, ◌≤ℤ◌, ◌<ℤ◌}
use Rattle.std.proofs.Common.{sym, ◌∙◌, ap, subst₂, arith}
use Rattle.std.proofs.Math.Path.{subst}
use mathlib.Core.List.Memᴰ.{head as here}
use mathlib.Core.List.Memᴰ.{map as in_map}
use mathlib.Core.List.Memᴰ.{tail as there}
use mathlib.Core.List.{List, map, Memᴰ as In}
use Rattle.std.proofs.lemmas.List.{length-map}
use Rattle.integers.specs.Differences.{gaps, parts, up, lt_out}
use Rattle.integers.specs.Variables.{linear}
use Rattle.integers.specs.declared.V3.{V3}
use Rattle.meaning.specs.declared.Nest.{Nest}
use Rattle.meaning.specs.Lists.{each}
use Rattle.meaning.specs.Loops.{progression, size, loop, instances}
use Rattle.meaning.specs.Points.{Direction, Direction.onward, Direction.back, Between, Precedes, Directed, Within, Earlier}
use Rattle.meaning.specs.Points.{Earlier.by_outer, Earlier.by_middle, Earlier.by_inner}
use Rattle.meaning.specs.Sorted.{Sorted, Sorted.none, Sorted.more, Distinct}
use Rattle.lists.specs.Members.{map_in, in_each, each_in, each_length}
use Rattle.lists.specs.Sums.{total_same}
use Rattle.geometry.specs.Sorting.{sorted_map, sorted_by_map, sorted_each}
use Rattle.geometry.specs.Numbers.{zero_on}
use Rattle.geometry.specs.Places.{sorted_at, at_sorted}

-- ---- one loop

-- x is number `at` of n numbers from a on, d apart
pub record Nth (a d : ℤ) (n : ℕ) (x : ℤ) : Type 0 where
  pub at : ℕ
  pub lt : at < n
  pub eq : x ≡ a +ℤ pos at *ℤ d

pub next : (i : ℕ) (a d : ℤ) → (a +ℤ d) +ℤ pos i *ℤ d ≡ a +ℤ pos (suc i) *ℤ d
next i = linear 0 2 _ λ p m. simp gaps (omega arith)

pub progression_in : (a d : ℤ) (n : ℕ) {x : ℤ} → In x (progression a d n) → Nth a d n x
unfolding progression
progression_in a d zero h = elim h [ ]
progression_in a d (suc n) (here e) = record { at = 0; lt = omega arith; eq = e ∙ sym (zero_on a d) }
progression_in a d (suc n) (there k) =
    let r = progression_in (a +ℤ d) d n k in record { at = suc r.at; lt = omega (arith, r.lt); eq = r.eq ∙ next r.at a d }

in_progression : (a d : ℤ) (n i : ℕ) {x : ℤ} → i < n → x ≡ a +ℤ pos i *ℤ d → In x (progression a d n)
unfolding progression
in_progression a d zero i h e = absurd (omega arith)
in_progression a d (suc n) zero h e = here (e ∙ zero_on a d)
in_progression a d (suc n) (suc i) h e = there (in_progression (a +ℤ d) d n i (omega arith) (e ∙ sym (next i a d)))

pub progression_length : (a d : ℤ) (n : ℕ) → length (progression a d n) ≡ n
unfolding progression
progression_length a d zero = refl
progression_length a d (suc n) = ap suc (progression_length (a +ℤ d) d n)

pub progression_at : (a d : ℤ) (n i : ℕ) (z : ℤ) → i < n → get_or (progression a d n) i z ≡ a +ℤ pos i *ℤ d
unfolding progression
progression_at a d zero i z h = absurd (omega arith)
progression_at a d (suc n) zero z h = sym (zero_on a d)
progression_at a d (suc n) (suc i) z h = progression_at (a +ℤ d) d n i z (omega arith) ∙ next i a d

-- its values are the whole numbers in the bounds
pub loop_in : (l r : ℤ) {d x : ℤ} → Direction d → In x (loop l r d) → Between l r x
loop_in l r {x} onward h = let k = progression_in l (pos 1) (size l r) h in
    let b = go k.at l r x k.lt k.eq in record { lo = b.0; hi = b.1 }
  where
    go : (i : ℕ) (l r x : ℤ) → i < size l r → x ≡ l +ℤ pos i *ℤ pos 1 → (l ≤ℤ x) × (x ≤ℤ r)
    go i = linear 0 3 _ λ p m. simp (gaps, parts) (λ h e. (omega arith, omega arith))
loop_in l r {x} back h = let k = progression_in r (negsuc 0) (size l r) h in
    let b = go k.at l r x k.lt k.eq in record { lo = b.0; hi = b.1 }
  where
    go : (i : ℕ) (l r x : ℤ) → i < size l r → x ≡ r +ℤ pos i *ℤ negsuc 0 → (l ≤ℤ x) × (x ≤ℤ r)
    go i = linear 0 3 _ λ p m. simp (gaps, parts) (λ h e. (omega arith, omega arith))

pub in_loop : (l r : ℤ) {d x : ℤ} → Direction d → Between l r x → In x (loop l r d)
in_loop l r {x} onward h = in_progression l (pos 1) (size l r) (up (x -ℤ l)) (go l r x h.lo h.hi).0 (go l r x h.lo h.hi).1
  where
    go : (l r x : ℤ) → l ≤ℤ x → x ≤ℤ r → (up (x -ℤ l) < size l r) × (x ≡ l +ℤ pos (up (x -ℤ l)) *ℤ pos 1)
    go = linear 0 3 _ λ p m. simp (gaps, parts) (λ h k. (omega arith, omega arith))
in_loop l r {x} back h = in_progression r (negsuc 0) (size l r) (up (r -ℤ x)) (go l r x h.lo h.hi).0 (go l r x h.lo h.hi).1
  where
    go : (l r x : ℤ) → l ≤ℤ x → x ≤ℤ r → (up (r -ℤ x) < size l r) × (x ≡ r +ℤ pos (up (r -ℤ x)) *ℤ negsuc 0)
    go = linear 0 3 _ λ p m. simp (gaps, parts) (λ h k. (omega arith, omega arith))

pub progression_sorted : {d : ℤ} → Direction d → (a : ℤ) (n : ℕ) → Sorted (Precedes d) (progression a d n)
unfolding progression
progression_sorted p a zero = none
progression_sorted {d} p a (suc n) =
    more (λ y k. let r = progression_in (a +ℤ d) d n k in go p a y r.at r.eq) (progression_sorted p (a +ℤ d) n)
  where
    f : (i : ℕ) (a y : ℤ) → y ≡ (a +ℤ pos 1) +ℤ pos i *ℤ pos 1 → (pos 1 *ℤ a) <ℤ (pos 1 *ℤ y)
    f i = linear 0 2 _ λ p m. simp gaps (omega arith)

    g : (i : ℕ) (a y : ℤ) → y ≡ (a +ℤ negsuc 0) +ℤ pos i *ℤ negsuc 0 → (negsuc 0 *ℤ a) <ℤ (negsuc 0 *ℤ y)
    g i = linear 0 2 _ λ p m. simp gaps (omega arith)

    go : {d : ℤ} → Direction d → (a y : ℤ) (i : ℕ) → y ≡ (a +ℤ d) +ℤ pos i *ℤ d → Precedes d a y
    go onward a y i e = f i a y e
    go back a y i e = g i a y e

-- ---- the nest

module _ {n : Nest} (h : Directed n) where
  abbrev lx : List ℤ
  lx = loop n.left.x n.right.x n.direction.x

  abbrev ly : List ℤ
  ly = loop n.left.y n.right.y n.direction.y

  abbrev lz : List ℤ
  lz = loop n.left.z n.right.z n.direction.z

  abbrev point : ℤ → ℤ → ℤ → V3
  point i j k = record { x = i; y = j; z = k }

  abbrev row : ℤ → ℤ → List V3
  row i j = map (λ k. point i j k) lz

  abbrev plane : ℤ → List V3
  plane i = each (λ j. row i j) ly

  -- the instances are the points in the bounds
  pub within_in : {p : V3} → Within n p → In p (instances n)
  unfolding instances
  within_in {p} w =
      in_each plane {x = p.x} (in_loop _ _ h.outer w.inx)
      (in_each (row p.x) {x = p.y} (in_loop _ _ h.middle w.iny) (in_map (point p.x p.y) (in_loop _ _ h.inner w.inz)))

  pub in_within : {p : V3} → In p (instances n) → Within n p
  unfolding instances
  in_within k =
      let a = each_in plane lx k in
      let b = each_in (row a.from) ly a.is in
      let c = map_in (point a.from b.from) lz b.is in
      record {
        inx = subst (λ w. Between n.left.x n.right.x w.x) (sym c.is) (loop_in _ _ h.outer a.mem);
        iny = subst (λ w. Between n.left.y n.right.y w.y) (sym c.is) (loop_in _ _ h.middle b.mem);
        inz = subst (λ w. Between n.left.z n.right.z w.z) (sym c.is) (loop_in _ _ h.inner c.mem);
      }

  row_sorted : (i j : ℤ) → Sorted (Earlier n.direction) (row i j)
  row_sorted i j = sorted_by_map (point i j) (λ k k' r. by_inner refl refl r) (progression_sorted h.inner _ _)

  plane_sorted : (i : ℤ) → Sorted (Earlier n.direction) (plane i)
  plane_sorted i =
      sorted_each {R = Precedes n.direction.y} (row i) (row_sorted i)
      (λ j j' p q r a b.
      let c = map_in (point i j) lz a in
      let d = map_in (point i j') lz b in
      by_middle (ap (λ (w : V3). w.x) c.is ∙ sym (ap (λ (w : V3). w.x) d.is))
      (subst₂ (Precedes n.direction.y) (sym (ap (λ (w : V3). w.y) c.is)) (sym (ap (λ (w : V3). w.y) d.is)) r))
      (progression_sorted h.middle _ _)

  plane_x : (i : ℤ) (p : V3) → In p (plane i) → p.x ≡ i
  plane_x i p k =
      let b = each_in (row i) ly k in
      let c = map_in (point i b.from) lz b.is in
      ap (λ (w : V3). w.x) c.is

  -- in the written order
  pub instances_sorted : Sorted (Earlier n.direction) (instances n)
  unfolding instances
  instances_sorted =
      sorted_each {R = Precedes n.direction.x} plane plane_sorted
      (λ i j p q r a b. by_outer (subst₂ (Precedes n.direction.x) (sym (plane_x i p a)) (sym (plane_x j q b)) r))
      (progression_sorted h.outer _ _)

-- they are as many as the numbers of each loop, multiplied
pub instances_length : (n : Nest) → length (instances n)
    ≡ (size n.left.x n.right.x * size n.left.y n.right.y) * size n.left.z n.right.z
unfolding instances
instances_length n =
    each_length (λ i. plane i) lx ∙ total_same (λ i. length (plane i)) (b * c) plane_length lx
    ∙ ap (λ (k : ℕ). k * (b * c)) (progression_length _ _ a) ∙ regroup a b c
  where
    a : ℕ
    a = size n.left.x n.right.x

    b : ℕ
    b = size n.left.y n.right.y

    c : ℕ
    c = size n.left.z n.right.z

    lx : List ℤ
    lx = loop n.left.x n.right.x n.direction.x

    ly : List ℤ
    ly = loop n.left.y n.right.y n.direction.y

    lz : List ℤ
    lz = loop n.left.z n.right.z n.direction.z

    row : ℤ → ℤ → List V3
    row i j = map (λ k. record { x = i; y = j; z = k }) lz

    plane : ℤ → List V3
    plane i = each (λ j. row i j) ly

    row_length : (i j : ℤ) → length (row i j) ≡ c
    row_length i j = length-map lz (λ k. record { x = i; y = j; z = k }) ∙ progression_length _ _ c

    plane_length : (i : ℤ) → length (plane i) ≡ b * c
    plane_length i =
        each_length (row i) ly ∙ total_same (λ j. length (row i j)) c (row_length i) ly ∙ ap (λ (k : ℕ). k * c) (progression_length _ _ b)

    regroup : (a b c : ℕ) → a * (b * c) ≡ (a * b) * c
    regroup a b c = omega arith

-- the written order is an order
runs_irr : (d u : ℤ) → Precedes d u u → ⊥
runs_irr d u r = omega (arith, lt_out r)

runs_asym : (d u v : ℤ) → Precedes d u v → Precedes d v u → ⊥
runs_asym d u v r s = omega (arith, lt_out r, lt_out s)

runs_same : (d u v : ℤ) → u ≡ v → Precedes d u v → ⊥
runs_same d u v e r = runs_irr d v (subst (λ (w : ℤ). Precedes d w v) e r)

pub earlier_irr : (d p : V3) → Earlier d p p → ⊥
earlier_irr d p (by_outer r) = runs_irr d.x p.x r
earlier_irr d p (by_middle e r) = runs_irr d.y p.y r
earlier_irr d p (by_inner e f r) = runs_irr d.z p.z r

pub earlier_asym : (d p q : V3) → Earlier d p q → Earlier d q p → ⊥
earlier_asym d p q (by_outer r) (by_outer s) = runs_asym d.x p.x q.x r s
earlier_asym d p q (by_outer r) (by_middle e s) = runs_same d.x p.x q.x (sym e) r
earlier_asym d p q (by_outer r) (by_inner e f s) = runs_same d.x p.x q.x (sym e) r
earlier_asym d p q (by_middle e r) (by_outer s) = runs_same d.x q.x p.x (sym e) s
earlier_asym d p q (by_middle e r) (by_middle f s) = runs_asym d.y p.y q.y r s
earlier_asym d p q (by_middle e r) (by_inner f g s) = runs_same d.y p.y q.y (sym g) r
earlier_asym d p q (by_inner e f r) (by_outer s) = runs_same d.x q.x p.x (sym e) s
earlier_asym d p q (by_inner e f r) (by_middle g s) = runs_same d.y q.y p.y (sym f) s
earlier_asym d p q (by_inner e f r) (by_inner g k s) = runs_asym d.z p.z q.z r s

-- so there is none twice
pub distinct : {n : Nest} → Directed n → Distinct (instances n)
distinct {n} h =
    sorted_map (λ x y r e. earlier_irr n.direction y (subst (λ w. Earlier n.direction w y) e r)) (instances_sorted h)

-- x stands before y in the plain run exactly if it is earlier in the written order
pub number_earlier : {n : Nest} → Directed n → (i j : ℕ) (d : V3) → i < j → j < length (instances n)
    → Earlier n.direction (get_or (instances n) i d) (get_or (instances n) j d)
number_earlier h i j d l k = sorted_at (instances_sorted h) i j d l k

pub earlier_number : {n : Nest} → Directed n → (i j : ℕ) (d : V3) → i < length (instances n) → j < length (instances n)
    → Earlier n.direction (get_or (instances n) i d) (get_or (instances n) j d) → i < j
earlier_number {n} h i j d k l e = at_sorted (earlier_irr n.direction) (earlier_asym n.direction) (instances_sorted h) i j d k l e
