-- The tables by number, and document 01's words: counts, firsts and lasts. Assumes that directions are 1 or −1.
use Rattle.std.specs.Prelude.{◌≡◌, Bool, not, T, get_or, take}
use Rattle.std.proofs.Math.Path.{refl, sym, ap, ap₂}
use Rattle.std.proofs.Common.{◌∙◌, subst, zero-add, arith, length-append, take_at, get_or-take, eq-eqb, ne_eqb}
use Rattle.std.proofs.Math.Bool.{true, false, cond}
use mathlib.Core.List.{List, [], ◌∷◌, map, ◌++◌}
use Prim.Native.Nat.{ℕ, suc, ◌+◌, ◌≤◌, ◌<◌}
use Rattle.std.proofs.Math.Dec.{eqb}
use Rattle.std.proofs.Math.ListN.{length, length-map}
use Rattle.integers.specs.Vectors.{zero3, zero2, image}
use Rattle.integers.specs.declared.V3.{V3}
use Rattle.integers.specs.declared.V2.{V2}
use Rattle.integers.specs.declared.Matrix.{Matrix}
use Rattle.meaning.specs.declared.Nest.{Nest}
use Rattle.meaning.specs.Lists.{filter}
use Rattle.meaning.specs.Loops.{instances}
use Rattle.meaning.specs.Space.{eq2, points, row_index, box_of, sent_to, count_of, first_of, last_of}
use Rattle.meaning.specs.Accept.{against}
use Rattle.meaning.specs.Points.{IsLine as Line, Directed, Inside}
use Rattle.lists.specs.Members.{map_at}
use Rattle.geometry.specs.Best.{end_or}
use Rattle.geometry.specs.Numbers.{eq2_eq, eq_eq2}
use Rattle.geometry.specs.Places.{get_d_in}
use Rattle.geometry.specs.Instances.{in_within}
use Rattle.geometry.specs.Boxes.{box_has}
use Rattle.geometry.specs.RowOrder.{row_at_lem, row_lt, row_number}
use Rattle.geometry.specs.Ends.{first_met, last_met}
use Rattle.counting.specs.Numbers.{numbers_of}
use Rattle.sweeps.specs.Sweep.{visits, Listed}
use Rattle.sweeps.specs.Met.{count_in, end_in}

-- the first entries of a list are the row numbers of all instances' images, which lie among so many points
pub record Table (n : Nest) (m : Matrix) (table : List ℕ) (count size : ℕ) : Type 0 where
  pub counted : count ≡ length (instances n)
  pub sized : size ≡ length (points (box_of n m))
  pub listed : count ≤ length table
  pub entries : take count table ≡ numbers_of n m

-- as `numbering::fill_numbers` leaves it
pub filled_table : {n : Nest} {m : Matrix} {table : List ℕ} {count size : ℕ} (rest : List ℕ) → table ≡ numbers_of n m ++ rest
    → count ≡ length (instances n) → size ≡ length (points (box_of n m)) → Table n m table count size
filled_table {n} {m} {count} rest e c s =
    record {
      counted = c;
      sized = s;
      listed = omega (arith, ap length e, length-append (numbers_of n m) rest, long);
      entries = ap (take count) e ∙ take_at (numbers_of n m) rest count (long ∙ sym c);
    }
  where
    long : length (numbers_of n m) ≡ length (instances n)
    long = length-map (instances n) (λ x. row_index (box_of n m) (image m x))

-- ---- lists by number

module _ {A : Type 0} where
  -- the members whose numbers are p
  visits_filter : (f : A → ℕ) (p : ℕ) (at : ℕ → A) (k : ℕ) (xs : List A) (d : A) → ((i : ℕ) → i < length xs → at (k + i) ≡ get_or xs i d)
      → map at (visits p k (map f xs)) ≡ filter (λ x. eqb (f x) p) xs
  unfolding visits filter
  visits_filter f p at k [] d h = refl
  visits_filter f p at k (x ∷ l) d h =
      go (eqb (f x) p) (visits_filter f p at (suc k) l d λ i b. ap at (omega arith) ∙ h (suc i) (omega arith))
    where
      here : at k ≡ x
      here = ap at (omega arith) ∙ h 0 (omega arith)

      go : (b : Bool) → map at (visits p (suc k) (map f l)) ≡ filter (λ x. eqb (f x) p) l
          → map at (cond b (k ∷ visits p (suc k) (map f l)) (visits p (suc k) (map f l)))
          ≡ cond b (x ∷ filter (λ x. eqb (f x) p) l) (filter (λ x. eqb (f x) p) l)
      go true ih = ap₂ ◌∷◌ here ih
      go false ih = ih

  -- a test that says the same of every member keeps the same members
  filter_same : (f g : A → Bool) (xs : List A) (d : A) → ((i : ℕ) → i < length xs → f (get_or xs i d) ≡ g (get_or xs i d))
      → filter f xs ≡ filter g xs
  unfolding filter
  filter_same f g [] d e = refl
  filter_same f g (x ∷ l) d e =
      ap₂ (λ (b : Bool) (t : List A). cond b (x ∷ t) t) (e 0 (omega arith)) (filter_same f g l d λ i b. e (suc i) (omega arith))

  -- the first or the last member, mapped
  end_map : (f : ℕ → A) (last : Bool) (x : ℕ) (l : List ℕ) → end_or last (f x) (map f l) ≡ f (end_or last x l)
  unfolding end_or
  end_map f last x [] = refl
  end_map f last x (y ∷ l) = go last (end_map f last y l)
    where
      go : (b : Bool) → end_or last (f y) (map f l) ≡ f (end_or last y l)
          → cond b (end_or last (f y) (map f l)) (f y) ≡ f (cond b (end_or last y l) y)
      go true ih = ih
      go false ih = refl

-- every number of a list is below n
data Under (n : ℕ) : List ℕ → Type 0 where
  none : Under n []
  and : {x : ℕ} {l : List ℕ} → x < n → Under n l → Under n (x ∷ l)

visits_under : (p k n : ℕ) (ps : List ℕ) → k + length ps ≤ n → Under n (visits p k ps)
unfolding visits
visits_under p k n [] h = none
visits_under p k n (q ∷ l) h = go (eqb q p) (visits_under p (suc k) n l (omega arith))
  where
    go : (b : Bool) → Under n (visits p (suc k) l) → Under n (cond b (k ∷ visits p (suc k) l) (visits p (suc k) l))
    go true u = and {x = k} (omega arith) u
    go false u = u

end_under : (last : Bool) (n x : ℕ) (l : List ℕ) → x < n → Under n l → end_or last x l < n
unfolding end_or
end_under last n x [] h none = h
end_under last n x (y ∷ l) h (and k u) = go last (end_under last n y l k u)
  where
    go : (b : Bool) → end_or last y l < n → cond b (end_or last y l) y < n
    go true ih = ih
    go false ih = k

-- ---- the instances at a point

-- x is instance k
pub record Instance (n : Nest) (k : ℕ) (x : V3) : Type 0 where
  pub lt : k < length (instances n)
  pub is : get_or (instances n) k zero3 ≡ x

module _ {n : Nest} (dirs : Directed n) (m : Matrix) where
  abbrev inst : ℕ → V3
  inst k = get_or (instances n) k zero3

  abbrev point : ℕ → V2
  point p = get_or (points (box_of n m)) p zero2

  lies : (k : ℕ) → k < length (instances n) → Inside (box_of n m) (image m (inst k))
  lies k h = box_has dirs m (in_within dirs (get_d_in (instances n) k zero3 h))

  -- to have the number of a point is to be there
  by_number : (p : ℕ) (x : V3) → p < length (points (box_of n m)) → Inside (box_of n m) (image m x)
      → eqb (row_index (box_of n m) (image m x)) p ≡ eq2 (image m x) (point p)
  by_number p x h w = go (eq2 (image m x) (point p)) (eq2_eq (image m x) (point p)) (eq_eq2 (image m x) (point p))
    where
      go : (b : Bool) → (T b → image m x ≡ point p) → (image m x ≡ point p → T b) → eqb (row_index (box_of n m) (image m x)) p ≡ b
      go true f g = eq-eqb _ _ (ap (λ (q : V2). row_index (box_of n m) q) (f tt) ∙ row_number (box_of n m) p zero2 h)
      go false f g =
          ne_eqb _ _ (λ e. g (sym (row_at_lem (box_of n m) (image m x) zero2 w) ∙ ap (λ (i : ℕ). get_or (points (box_of n m)) i zero2) e))

  sent : (p : ℕ) → p < length (points (box_of n m)) → map inst (visits p 0 (numbers_of n m)) ≡ sent_to n m (point p)
  unfolding sent_to
  sent p h =
      visits_filter (λ x. row_index (box_of n m) (image m x)) p inst 0 (instances n) zero3 (λ i b. ap inst (zero-add i))
      ∙ filter_same (λ x. eqb (row_index (box_of n m) (image m x)) p) (λ x. eq2 (image m x) (point p)) (instances n) zero3
      (λ i b. by_number p (inst i) h (lies i b))

  -- the last or the first of them by number is the last or the first of them
  end_is : (last : Bool) (p f : ℕ) → p < length (points (box_of n m)) → end_in last (numbers_of n m) p ≡ suc f
      → Instance n f (end_or last zero3 (sent_to n m (point p)))
  unfolding end_or
  end_is last p f h e =
      go (visits p 0 (numbers_of n m)) (visits_under p 0 (length (instances n)) (numbers_of n m) (omega (arith, long))) (sent p h) e
    where
      long : length (numbers_of n m) ≡ length (instances n)
      long = length-map (instances n) (λ x. row_index (box_of n m) (image m x))

      go : (l : List ℕ) → Under (length (instances n)) l → map inst l ≡ sent_to n m (point p) → end_or last 0 (map suc l) ≡ suc f
          → Instance n f (end_or last zero3 (sent_to n m (point p)))
      go [] u s r = absurd (omega arith)
      go (x ∷ l) (and b u) s r =
          let q : f ≡ end_or last x (x ∷ l) = omega (arith, r, end_map suc last x (x ∷ l)) in
          record {
            lt = omega (arith, q, end_under last (length (instances n)) x (x ∷ l) b (and b u));
            is = ap inst q ∙ sym (end_map inst last x (x ∷ l)) ∙ ap (end_or last zero3) s;
          }

-- ---- what the tables say

module _ {n : Nest} {m : Matrix} {table : List ℕ} {count size : ℕ} (dirs : Directed n) (t : Table n m table count size) where
  -- every entry is the number of a point
  pub table_listed : Listed table count size
  table_listed =
      record {
        listed = t.listed;
        below = λ k h.
            let b : k < length (instances n) = omega (arith, t.counted) in
            let e = sym (get_or-take count table k 0 h) ∙ ap (λ (l : List ℕ). get_or l k 0) t.entries
            ∙ map_at (λ x. row_index (box_of n m) (image m x)) (instances n) k zero3 0 b in
            subst (λ (q : ℕ). q < size) (sym e)
            (omega (arith, row_lt (box_of n m) (image m (get_or (instances n) k zero3)) (lies dirs m k b), t.sized));
      }

  -- entry p of the counts is the count of point p
  pub counts_are : (p : ℕ) → p < size → count_in (take count table) p ≡ count_of n m (get_or (points (box_of n m)) p zero2)
  counts_are p h =
      ap (λ (l : List ℕ). count_in l p) t.entries
      ∙ sym (length-map (visits p 0 (numbers_of n m)) (λ k. get_or (instances n) k zero3))
      ∙ ap length (sent dirs m p (omega (arith, t.sized)))

  module _ {u : V3} (line : Line n m u) where
    -- where entry p of the ends is f + 1, instance f is the first or last of point p: which of them, the line says
    pub firsts_are : (p f : ℕ) → p < size → end_in (against n.direction u) (take count table) p ≡ suc f
        → Instance n f (first_of n m (get_or (points (box_of n m)) p zero2))
    firsts_are p f h e =
        subst (Instance n f) (sym (first_met dirs line (get_or (points (box_of n m)) p zero2)))
        (end_is dirs m (against n.direction u) p f (omega (arith, t.sized))
        (ap (λ (l : List ℕ). end_in (against n.direction u) l p) (sym t.entries) ∙ e))

    pub lasts_are : (p f : ℕ) → p < size → end_in (not (against n.direction u)) (take count table) p ≡ suc f
        → Instance n f (last_of n m (get_or (points (box_of n m)) p zero2))
    lasts_are p f h e =
        subst (Instance n f) (sym (last_met dirs line (get_or (points (box_of n m)) p zero2)))
        (end_is dirs m (not (against n.direction u)) p f (omega (arith, t.sized))
        (ap (λ (l : List ℕ). end_in (not (against n.direction u)) l p) (sym t.entries) ∙ e))

  -- where it is 0, the point has no instance
  pub ends_absent : (last : Bool) (p : ℕ) → p < size → end_in last (take count table) p ≡ 0
      → count_of n m (get_or (points (box_of n m)) p zero2) ≡ 0
  unfolding end_or
  ends_absent last p h e = sym (counts_are p h) ∙ go (visits p 0 (take count table)) e
    where
      go : (l : List ℕ) → end_or last 0 (map suc l) ≡ 0 → length l ≡ 0
      go [] e = refl
      go (x ∷ l) e = absurd (omega (arith, e, end_map suc last x (x ∷ l)))
