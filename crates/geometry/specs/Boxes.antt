-- Boxes: their points in row order, each once, and their numbers; the smallest box around points. Assumes nothing.
use Rattle.std.specs.Prelude.{◌≡◌, Bool, true, false, not, cond, ◌&&◌, ℕ, suc, ◌≤◌, T, ℤ, pos, negsuc, ◌+ℤ◌, ◌*ℤ◌, ◌≤ℤ◌, ◌<ℤ◌}
use Rattle.std.proofs.Math.Path.{refl, subst}
use Rattle.std.proofs.Common.{sym, ◌∙◌, ap, mul-le-mul_right, arith}
use mathlib.Core.List.Memᴰ.{head as here}
use mathlib.Core.List.Memᴰ.{map as in_map}
use mathlib.Core.List.Memᴰ.{tail as there}
use mathlib.Core.List.{List, [], ◌∷◌, map, Memᴰ as In}
use Rattle.std.specs.Int.Signed.{le_z, lt_z, lt_z_no, ≤ℤ_refl}
use Rattle.integers.specs.Differences.{gaps, zrules, lt_out}
use Rattle.integers.specs.Variables.{linear}
use Rattle.integers.specs.Vectors.{shift2, image}
use Rattle.integers.specs.declared.V3.{V3}
use Rattle.integers.specs.declared.V2.{V2}
use Rattle.integers.specs.declared.Matrix.{Matrix}
use Rattle.meaning.specs.declared.Nest.{Nest}
use Rattle.meaning.specs.Loops.{loop, instances}
use Rattle.meaning.specs.Space.{Box, inside, points, min_z, max_z, widen, widen_all, around, box_of}
use Rattle.meaning.specs.Points.{Direction.onward, Between, Precedes, Directed, Within, Inside, RowOrder as Row, RowOrder.by_a}
use Rattle.meaning.specs.Points.{RowOrder.by_b}
use Rattle.meaning.specs.Sorted.{Sorted, Distinct}
use Rattle.lists.specs.Members.{Mapped, map_in, in_each, each_in}
use Rattle.geometry.specs.Sorting.{sorted_map, sorted_by_map, sorted_each}
use Rattle.geometry.specs.Numbers.{and_left, and_right, both, lt_le}
use Rattle.geometry.specs.Instances.{loop_in, in_loop, progression_sorted, within_in, in_within}

-- ---- boxes

-- a point is in the box exactly if the test says so
pub inside_yes : (k : Box) (p : V2) → T (inside k p) → Inside k p
inside_yes k p t =
    let a = le_z k.lo.a p.a in
    let b = le_z p.a k.hi.a in
    let c = le_z k.lo.b p.b in
    let d = le_z p.b k.hi.b in
    let u : T (a && b && c) = and_left (a && b && c) d t in
    let w : T (a && b) = and_left (a && b) c u in
    record {
      ina = record { lo = record { le = and_left a b w }; hi = record { le = and_right a b w } };
      inb = record { lo = record { le = and_right (a && b) c u }; hi = record { le = and_right (a && b && c) d t } };
    }

pub inside_in : (k : Box) (p : V2) → Inside k p → T (inside k p)
inside_in k p h =
    let a = le_z k.lo.a p.a in
    let b = le_z p.a k.hi.a in
    let c = le_z k.lo.b p.b in
    let d = le_z p.b k.hi.b in
    both (a && b && c) d (both (a && b) c (both a b h.ina.lo.le h.ina.hi.le) h.inb.lo.le) h.inb.hi.le

-- ---- boxes are convex

-- a point between two of a line is within what both are within
pub between_on : (i t : ℕ) (c l r a : ℤ) → i ≤ t → Between l r a → Between l r (a +ℤ pos t *ℤ c) → Between l r (a +ℤ pos i *ℤ c)
between_on i t (pos c) l r a h j k = let b = go l r a j.lo j.hi k.hi in record { lo = b.0; hi = b.1 }
  where
    go : (l r a : ℤ) → l ≤ℤ a → a ≤ℤ r → (a +ℤ pos t *ℤ pos c) ≤ℤ r → (l ≤ℤ (a +ℤ pos i *ℤ pos c)) × ((a +ℤ pos i *ℤ pos c) ≤ℤ r)
    go = linear 0 3 _ λ p m. simp gaps (λ j k g. (omega arith, omega (arith, mul-le-mul_right c h)))
between_on i t (negsuc c) l r a h j k = let b = go l r a j.lo j.hi k.lo in record { lo = b.0; hi = b.1 }
  where
    go : (l r a : ℤ) → l ≤ℤ a → a ≤ℤ r → l ≤ℤ (a +ℤ pos t *ℤ negsuc c) → (l ≤ℤ (a +ℤ pos i *ℤ negsuc c)) × ((a +ℤ pos i *ℤ negsuc c) ≤ℤ r)
    go = linear 0 3 _ λ p m. simp gaps (λ j k g. (omega (arith, mul-le-mul_right (suc c) h), omega arith))

-- so of a box
pub convex2 : (k : Box) (p d : V2) (i t : ℕ) → i ≤ t → Inside k p → Inside k (shift2 p (pos t) d) → Inside k (shift2 p (pos i) d)
convex2 k p d i t h u w =
    record {
      ina = between_on i t d.a k.lo.a k.hi.a p.a h u.ina w.ina;
      inb = between_on i t d.b k.lo.b k.hi.b p.b h u.inb w.inb;
    }

-- ---- row order

pub row_irr : (p : V2) → Row p p → ⊥
row_irr p (by_a h) = omega (arith, lt_out h)
row_irr p (by_b e h) = omega (arith, lt_out h)

pub row_asym : (p q : V2) → Row p q → Row q p → ⊥
row_asym p q (by_a h) (by_a k) = omega (arith, lt_out h, lt_out k)
row_asym p q (by_a h) (by_b e k) = omega (arith, zrules)
row_asym p q (by_b e h) (by_a k) = omega (arith, zrules)
row_asym p q (by_b e h) (by_b f k) = omega (arith, lt_out h, lt_out k)

-- sorted either way, there is no point twice
pub row_distinct : {l : List V2} → Sorted Row l → Distinct l
row_distinct s = sorted_map (λ x y r e. row_irr y (subst (λ w. Row w y) e r)) s

pub row_distinct' : {l : List V2} → Sorted (λ x y. Row y x) l → Distinct l
row_distinct' s = sorted_map (λ x y r e. row_irr y (subst (Row y) e r)) s

runs_lt : (u v : ℤ) → Precedes (pos 1) u v → u <ℤ v
runs_lt = linear 0 2 _ λ p m. simp gaps (omega arith)

module _ (k : Box) where
  abbrev la : List ℤ
  la = loop k.lo.a k.hi.a (pos 1)

  abbrev lb : List ℤ
  lb = loop k.lo.b k.hi.b (pos 1)

  abbrev at : ℤ → ℤ → V2
  at i j = record { a = i; b = j }

  abbrev row : ℤ → List V2
  row i = map (at i) lb

  -- the list has the points of the box, in row order
  pub inside_points : (p : V2) → Inside k p → In p (points k)
  unfolding points
  inside_points p h = in_each row {x = p.a} (in_loop _ _ onward h.ina) (in_map (at p.a) (in_loop _ _ onward h.inb))

  pub points_inside : (p : V2) → In p (points k) → Inside k p
  unfolding points
  points_inside p h =
      let r = each_in row la h in
      let c = map_in (at r.from) lb r.is in
      record {
        ina = subst (λ w. Between k.lo.a k.hi.a w.a) (sym c.is) (loop_in _ _ onward r.mem);
        inb = subst (λ w. Between k.lo.b k.hi.b w.b) (sym c.is) (loop_in _ _ onward c.mem);
      }

  row_a : (i : ℤ) (p : V2) → In p (row i) → p.a ≡ i
  row_a i p h = let c = map_in (at i) lb h in ap (λ (w : V2). w.a) c.is

  pub points_sorted : Sorted Row (points k)
  unfolding points
  points_sorted =
      sorted_each {R = Precedes (pos 1)} row
      (λ i. sorted_by_map (at i) (λ u v r. by_b refl (runs_lt u v r)) (progression_sorted onward _ _))
      (λ i j p q r u w.
      by_a (subst (λ (z : ℤ). z <ℤ q.a) (sym (row_a i p u)) (subst (λ (z : ℤ). i <ℤ z) (sym (row_a j q w)) (runs_lt i j r))))
      (progression_sorted onward _ _)

-- ---- the box around points has them all

-- the smaller of two is below both, the greater above
min_le : (u w : ℤ) → (min_z u w ≤ℤ u) × (min_z u w ≤ℤ w)
min_le u w = go (lt_z w u) (λ t. record { lt = t }) (λ t. lt_z_no t)
  where
    go : (b : Bool) → (T b → w <ℤ u) → (T (not b) → u ≤ℤ w) → (cond b w u ≤ℤ u) × (cond b w u ≤ℤ w)
    go true f g = (lt_le (f tt), ≤ℤ_refl w)
    go false f g = (≤ℤ_refl u, g tt)

max_le : (u w : ℤ) → (u ≤ℤ max_z u w) × (w ≤ℤ max_z u w)
max_le u w = go (lt_z u w) (λ t. record { lt = t }) (λ t. lt_z_no t)
  where
    go : (b : Bool) → (T b → u <ℤ w) → (T (not b) → w ≤ℤ u) → (u ≤ℤ cond b w u) × (w ≤ℤ cond b w u)
    go true f g = (lt_le (f tt), ≤ℤ_refl w)
    go false f g = (≤ℤ_refl u, g tt)

pub le_trans : {u v w : ℤ} → u ≤ℤ v → v ≤ℤ w → u ≤ℤ w
le_trans h k = omega (arith, zrules)

widen_old : (k : Box) (q p : V2) → Inside k p → Inside (widen k q) p
widen_old k q p h =
    record {
      ina = record { lo = le_trans (min_le k.lo.a q.a).0 h.ina.lo; hi = le_trans h.ina.hi (max_le k.hi.a q.a).0 };
      inb = record { lo = le_trans (min_le k.lo.b q.b).0 h.inb.lo; hi = le_trans h.inb.hi (max_le k.hi.b q.b).0 };
    }

widen_new : (k : Box) (q : V2) → Inside (widen k q) q
widen_new k q =
    record {
      ina = record { lo = (min_le k.lo.a q.a).1; hi = (max_le k.hi.a q.a).1 };
      inb = record { lo = (min_le k.lo.b q.b).1; hi = (max_le k.hi.b q.b).1 };
    }

widen_all_old : (k : Box) (l : List V2) (p : V2) → Inside k p → Inside (widen_all k l) p
unfolding widen_all
widen_all_old k [] p h = h
widen_all_old k (q ∷ l) p h = widen_all_old (widen k q) l p (widen_old k q p h)

widen_all_new : (k : Box) (l : List V2) (p : V2) → In p l → Inside (widen_all k l) p
unfolding widen_all
widen_all_new k [] p h = elim h [ ]
widen_all_new k (q ∷ l) p (here e) = widen_all_old (widen k q) l p (subst (λ w. Inside (widen k q) w) (sym e) (widen_new k q))
widen_all_new k (q ∷ l) p (there i) = widen_all_new (widen k q) l p i

pub around_has : (l : List V2) (p : V2) → In p l → Inside (around l) p
unfolding around
around_has [] p h = elim h [ ]
around_has (q ∷ l) p (here e) = widen_all_old _ l p (subst (λ w. Inside (record { lo = q; hi = q }) w) (sym e) self)
  where
    self : Inside (record { lo = q; hi = q }) q
    self = record { ina = record { lo = ≤ℤ_refl q.a; hi = ≤ℤ_refl q.a }; inb = record { lo = ≤ℤ_refl q.b; hi = ≤ℤ_refl q.b } }
around_has (q ∷ l) p (there i) = widen_all_new _ l p i

-- what a matrix makes of an instance is in its box
pub box_has : {n : Nest} → Directed n → (m : Matrix) {x : V3} → Within n x → Inside (box_of n m) (image m x)
unfolding box_of
box_has {n} h m {x} w = around_has (map (image m) (instances n)) (image m x) (in_map (image m) (within_in h w))

-- ---- its bounds are attained, so no box around the points is smaller

-- v is f of a member of l
abbrev pub Value : (V2 → ℤ) → ℤ → List V2 → Type 0
Value f v l = Mapped f v l

pub record Attained (k : Box) (l : List V2) : Type 0 where
  pub loa : Value (λ p. p.a) k.lo.a l
  pub lob : Value (λ p. p.b) k.lo.b l
  pub hia : Value (λ p. p.a) k.hi.a l
  pub hib : Value (λ p. p.b) k.hi.b l

-- a choice of two values is a value
either_value : {f : V2 → ℤ} {u w : ℤ} {l : List V2} (b : Bool) → Value f u l → Value f w l → Value f (cond b w u) l
either_value true h k = k
either_value false h k = h

widen_attained : (k : Box) (p : V2) {l : List V2} → Attained k l → In p l → Attained (widen k p) l
widen_attained k p h i =
    record {
      loa = either_value (lt_z p.a k.lo.a) h.loa (record { from = p; mem = i; is = refl });
      lob = either_value (lt_z p.b k.lo.b) h.lob (record { from = p; mem = i; is = refl });
      hia = either_value (lt_z k.hi.a p.a) h.hia (record { from = p; mem = i; is = refl });
      hib = either_value (lt_z k.hi.b p.b) h.hib (record { from = p; mem = i; is = refl });
    }

widen_all_attained : (k : Box) (l : List V2) {l' : List V2} → Attained k l' → ((p : V2) → In p l → In p l') → Attained (widen_all k l) l'
unfolding widen_all
widen_all_attained k [] h f = h
widen_all_attained k (p ∷ l) h f = widen_all_attained (widen k p) l (widen_attained k p h (f p (here refl))) (λ q i. f q (there i))

around_attained : (l : List V2) {q : V2} → In q l → Attained (around l) l
unfolding around
around_attained [] i = elim i [ ]
around_attained (p ∷ l) i =
    widen_all_attained (record { lo = p; hi = p }) l
    (record {
      loa = record { from = p; mem = here refl; is = refl };
      lob = record { from = p; mem = here refl; is = refl };
      hia = record { from = p; mem = here refl; is = refl };
      hib = record { from = p; mem = here refl; is = refl };
    }) (λ q i. there i)

-- f of some instance is v, and of no instance is it less; nor more
pub record Least (n : Nest) (f : V3 → ℤ) (v : ℤ) : Type 0 where
  pub by : V3
  pub within : Within n by
  pub is : v ≡ f by
  pub bound : (x : V3) → Within n x → v ≤ℤ f x

pub record Greatest (n : Nest) (f : V3 → ℤ) (v : ℤ) : Type 0 where
  pub by : V3
  pub within : Within n by
  pub is : v ≡ f by
  pub bound : (x : V3) → Within n x → f x ≤ℤ v

-- the report's equation (2), of place: the process space's corners are the least and greatest coordinates of the places of all instances.
-- Here of any matrix, where the nest has an instance
pub record Basis (n : Nest) (m : Matrix) (k : Box) : Type 0 where
  pub loa : Least n (λ x. (image m x).a) k.lo.a
  pub lob : Least n (λ x. (image m x).b) k.lo.b
  pub hia : Greatest n (λ x. (image m x).a) k.hi.a
  pub hib : Greatest n (λ x. (image m x).b) k.hi.b

pub box_basis : {n : Nest} → Directed n → (m : Matrix) {x : V3} → Within n x → Basis n m (box_of n m)
unfolding box_of
box_basis {n} h m {x} w =
    let k = around_attained (map (image m) (instances n)) (in_map (image m) (within_in h w)) in
    record {
      loa = low (λ p. p.a) k.loa (λ x w. (box_has h m w).ina.lo);
      lob = low (λ p. p.b) k.lob (λ x w. (box_has h m w).inb.lo);
      hia = high (λ p. p.a) k.hia (λ x w. (box_has h m w).ina.hi);
      hib = high (λ p. p.b) k.hib (λ x w. (box_has h m w).inb.hi);
    }
  where
    low : (f : V2 → ℤ) {v : ℤ} → Value f v (map (image m) (instances n)) → ((x : V3) → Within n x → v ≤ℤ f (image m x))
        → Least n (λ x. f (image m x)) v
    low f c b =
        let r = map_in (image m) (instances n) c.mem in
        record { by = r.from; within = in_within h r.mem; is = c.is ∙ ap f r.is; bound = b }

    high : (f : V2 → ℤ) {v : ℤ} → Value f v (map (image m) (instances n)) → ((x : V3) → Within n x → f (image m x) ≤ℤ v)
        → Greatest n (λ x. f (image m x)) v
    high f c b =
        let r = map_in (image m) (instances n) c.mem in
        record { by = r.from; within = in_within h r.mem; is = c.is ∙ ap f r.is; bound = b }

-- document 01: "the smallest box": every box that has all values has this one's corners
pub box_least : {n : Nest} → Directed n → (m : Matrix) (j : Box) {x : V3} → Within n x → ((x : V3) → Within n x → Inside j (image m x))
    → Inside j (box_of n m).lo × Inside j (box_of n m).hi
box_least {n} h m j w f =
    let b = box_basis h m w in (
      record { ina = at b.loa.is (f b.loa.by b.loa.within).ina; inb = at b.lob.is (f b.lob.by b.lob.within).inb },
      record { ina = at b.hia.is (f b.hia.by b.hia.within).ina; inb = at b.hib.is (f b.hib.by b.hib.within).inb },
    )
  where
    at : {l r u v : ℤ} → u ≡ v → Between l r v → Between l r u
    at {l} {r} e k = subst (Between l r) (sym e) k
