-- The instances that a matrix sends to one point: first, first + u, .., last, with u the matrix's line, and no other. For place they are
-- those of a process, for an index map those that touch an element. The components of u may be any numbers, so first and last lie on a face
-- of the bounds or not. Assumes directions of 1 or −1.
use Rattle.std.specs.Prelude.{◌≡◌, refl, ℕ, suc, ◌≤◌, ◌<◌, length, pos, ◌≤ℤ◌}
use Rattle.std.proofs.Common.{sym, ◌∙◌, subst, arith}
use Rattle.std.proofs.Math.Path.{ap}
use mathlib.Core.List.Memᴰ.{head as here}
use mathlib.Core.List.{List, [], ◌∷◌, Memᴰ as In}
use Rattle.std.specs.Int.Signed.{lt_z_no, ≤ℤ_refl}
use Rattle.integers.specs.Differences.{zrules, eq_out}
use Rattle.integers.specs.Vectors.{zero3, shift3, image}
use Rattle.integers.specs.declared.V3.{V3}
use Rattle.integers.specs.declared.V2.{V2}
use Rattle.integers.specs.declared.Matrix.{Matrix}
use Rattle.meaning.specs.declared.Nest.{Nest}
use Rattle.meaning.specs.Lists.{best_or}
use Rattle.meaning.specs.Loops.{instances, step_of}
use Rattle.meaning.specs.Space.{eq2, box_of, sent_to, count_of, sooner, later, first_of, last_of}
use Rattle.meaning.specs.Points.{IsLine as Line, Directed, Within, Inside, At}
use Rattle.meaning.specs.Sorted.{Distinct}
use Rattle.lists.specs.Members.{in_filter, filter_in, no_members}
use Rattle.geometry.specs.Sorting.{sorted_filter, counted}
use Rattle.geometry.specs.Best.{best_or_in, best_or_le}
use Rattle.geometry.specs.Numbers.{eq2_eq, eq_eq2, lt_le}
use Rattle.geometry.specs.Lines.{Ahead, along, ahead_of, ahead_le, one_along}
use Rattle.geometry.specs.Instances.{within_in, in_within, distinct}
use Rattle.geometry.specs.Boxes.{between_on, box_has}

-- ---- the bounds are convex

-- what lies between two instances on a line is an instance
pub convex : (n : Nest) (f u : V3) (i t : ℕ) → i ≤ t → Within n f → Within n (shift3 f (pos t) u) → Within n (shift3 f (pos i) u)
convex n f u i t h j k =
    record {
      inx = between_on i t u.x n.left.x n.right.x f.x h j.inx k.inx;
      iny = between_on i t u.y n.left.y n.right.y f.y h j.iny k.iny;
      inz = between_on i t u.z n.left.z n.right.z f.z h j.inz k.inz;
    }

-- ---- first and last

-- those that are sent to a point, each once
pub sent_distinct : {n : Nest} → Directed n → (m : Matrix) (y : V2) → Distinct (sent_to n m y)
unfolding sent_to
sent_distinct {n} dirs m y = sorted_filter (λ v. eq2 (image m v) y) (distinct dirs)

module _ {n : Nest} (dirs : Directed n) {m : Matrix} where
  pub at_in : {y : V2} {x : V3} → At n m y x → In x (sent_to n m y)
  unfolding sent_to
  at_in {y} {x} h = in_filter (λ v. eq2 (image m v) y) (within_in dirs h.within) (eq_eq2 (image m x) y h.to)

  pub in_at : (y : V2) (x : V3) → In x (sent_to n m y) → At n m y x
  unfolding sent_to
  in_at y x k =
      let r = filter_in (λ v. eq2 (image m v) y) (instances n) k in
      record { within = in_within dirs r.mem; to = eq2_eq (image m x) y r.ok }

  -- the point is in the matrix's box
  pub at_box : {y : V2} {x : V3} → At n m y x → Inside (box_of n m) y
  at_box a = subst (Inside (box_of n m)) a.to (box_has dirs m a.within)

  -- the first is an instance of least step, the last one of greatest
  pub first_at : {y : V2} {x : V3} → At n m y x → At n m y (first_of n m y)
  unfolding first_of
  first_at {y} h = in_at y _ (best_or_in (sooner n) zero3 (sent_to n m y) (at_in h))

  pub first_least : {y : V2} {x : V3} → At n m y x → step_of n (first_of n m y) ≤ℤ step_of n x
  unfolding first_of
  first_least {y} h =
      best_or_le (sooner n) (λ u v. step_of n u ≤ℤ step_of n v) (λ u. ≤ℤ_refl (step_of n u)) (λ u v w p q. omega (arith, zrules))
      (λ u v t. lt_le (record { lt = t })) (λ u v t. lt_z_no t) zero3 (sent_to n m y) (at_in h)

  pub last_at : {y : V2} {x : V3} → At n m y x → At n m y (last_of n m y)
  unfolding last_of
  last_at {y} h = in_at y _ (best_or_in (later n) zero3 (sent_to n m y) (at_in h))

  pub last_greatest : {y : V2} {x : V3} → At n m y x → step_of n x ≤ℤ step_of n (last_of n m y)
  unfolding last_of
  last_greatest {y} h =
      best_or_le (later n) (λ u v. step_of n v ≤ℤ step_of n u) (λ u. ≤ℤ_refl (step_of n u)) (λ u v w p q. omega (arith, zrules))
      (λ u v t. lt_le (record { lt = t })) (λ u v t. lt_z_no t) zero3 (sent_to n m y) (at_in h)

  -- without one there is none, and both are zero
  pub none_first : {y : V2} → ((x : V3) → At n m y x → ⊥) → (first_of n m y ≡ zero3) × (last_of n m y ≡ zero3)
  unfolding first_of last_of best_or
  none_first {y} f =
      let e = no_members (sent_to n m y) (λ x i. f x (in_at y x i)) in
      (ap (best_or zero3 (sooner n)) e, ap (best_or zero3 (later n)) e)

-- ---- G1: they are a whole segment

-- x is first + at lines, at below the count
pub record Numbered (n : Nest) (m : Matrix) (u : V3) (y : V2) (x : V3) : Type 0 where
  pub at : ℕ
  pub lt : at < count_of n m y
  pub eq : x ≡ shift3 (first_of n m y) (pos at) u

-- of a point that has an instance: count, last, and all instances between
pub record Segment (n : Nest) (m : Matrix) (u : V3) (y : V2) : Type 0 where
  pub span : ℕ
  pub size : count_of n m y ≡ suc span
  pub end : last_of n m y ≡ shift3 (first_of n m y) (pos span) u
  pub each : (i : ℕ) → i ≤ span → At n m y (shift3 (first_of n m y) (pos i) u)

module _ {n : Nest} {m : Matrix} {u : V3} (dirs : Directed n) (line : Line n m u) where
  -- an instance is ahead of the first
  from_first : {y : V2} {x : V3} → At n m y x → Ahead u (first_of n m y) x
  from_first {y} {x} h = ahead_of line (first_of n m y) x ((first_at dirs h).to ∙ sym h.to) (first_least dirs h)

  -- by no more than the last
  from_last : {y : V2} {x x' : V3} (h : At n m y x) (k : At n m y x') → (from_first h).at ≤ (from_first (last_at dirs k)).at
  from_last {y} h k = ahead_le line (first_of n m y) (from_first h) (from_first (last_at dirs k)) (last_greatest dirs h)

  -- and everything between is an instance, so there are as many as that and one
  each_at : {y : V2} {x : V3} (h : At n m y x) (i : ℕ) → i ≤ (from_first (last_at dirs h)).at → At n m y (shift3 (first_of n m y) (pos i) u)
  each_at {y} h i k =
      let r = from_first (last_at dirs h) in
      record {
        within = convex n (first_of n m y) u i r.at k (first_at dirs h).within (subst (Within n) r.eq (last_at dirs h).within);
        to = along line (first_of n m y) (pos i) ∙ (first_at dirs h).to;
      }

  count_is : {y : V2} {x : V3} (h : At n m y x) → count_of n m y ≡ suc (from_first (last_at dirs h)).at
  count_is {y} h =
      counted (λ i. shift3 (first_of n m y) (pos i) u) (suc (from_first (last_at dirs h)).at) (sent_distinct dirs m y)
      (λ i j e. natural (one_along line (first_of n m y) (pos i) (pos j) e)) (λ i k. at_in dirs (each_at h i (omega arith)))
      (λ z k. let hz = in_at dirs y z k in record { at = (from_first hz).at; lt = omega (arith, from_last hz h); eq = (from_first hz).eq })
    where
      natural : {i j : ℕ} → pos i ≡ pos j → i ≡ j
      natural e = omega (arith, eq_out e)

  pub segment : {y : V2} {x : V3} → At n m y x → Segment n m u y
  segment h = record {
    span = (from_first (last_at dirs h)).at;
    size = count_is h;
    end = (from_first (last_at dirs h)).eq;
    each = each_at h;
  }

  -- every instance there is one of them
  pub numbered : {y : V2} {x : V3} → At n m y x → Numbered n m u y x
  numbered h = record { at = (from_first h).at; lt = omega (arith, from_last h h, count_is h); eq = (from_first h).eq }

  -- and all of them are instances there
  pub instance : (y : V2) (i : ℕ) → i < count_of n m y → At n m y (shift3 (first_of n m y) (pos i) u)
  instance y i h = go (sent_to n m y) refl (in_at dirs y)
    where
      go : (l : List V3) → sent_to n m y ≡ l → ((x : V3) → In x (sent_to n m y) → At n m y x) → At n m y (shift3 (first_of n m y) (pos i) u)
      go [] e f = absurd (omega (arith, ap length e))
      go (x ∷ l) e f = let w = segment (f x (subst (In x) (sym e) (here refl))) in w.each i (omega (arith, w.size))
