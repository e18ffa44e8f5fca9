-- The least and the greatest value of a row over the bounds, by the signs of its words, and with them the box around the images of all
-- instances. Assumes nothing.
use Rattle.std.specs.Prelude.{◌≡◌, refl, Bool, true, false, cond, suc, ℤ, pos, negsuc, ◌+ℤ◌, ◌*ℤ◌, ◌≤ℤ◌, ◌<ℤ◌}
use Rattle.std.proofs.Common.{sym, subst, mul-le-mul_left, arith}
use Rattle.std.specs.Int.Signed.{lt_z, ≤ℤ_refl}
use Rattle.integers.specs.Differences.{gaps, zrules, lt_out}
use Rattle.integers.specs.Variables.{linear}
use Rattle.integers.specs.Words.{less, not_less}
use Rattle.integers.specs.Vectors.{dot}
use Rattle.integers.specs.declared.V3.{V3}
use Rattle.integers.specs.declared.Matrix.{Matrix}
use Rattle.meaning.specs.declared.Nest.{Nest}
use Rattle.meaning.specs.Space.{Box, box_of}
use Rattle.meaning.specs.Points.{Between, Within as InBounds}
use Rattle.geometry.specs.Boxes.{Least, Greatest, box_basis}
use Rattle.numbering.specs.Ranges.{Bounded}

-- of two ends the one at which w times it is least, where the first is the left one; greatest, where it is the right one
abbrev pub end_of : ℤ → ℤ → ℤ → ℤ
end_of w from to = cond (lt_z w (pos 0)) to from

abbrev pub corner_of : V3 → V3 → V3 → V3
corner_of row from to =
    record {
      x = end_of row.x from.x to.x;
      y = end_of row.y from.y to.y;
      z = end_of row.z from.z to.z;
    }

-- ---- one term

-- a product grows with its factor, or falls
up_times : (w u v : ℤ) → pos 0 ≤ℤ w → u ≤ℤ v → (w *ℤ u) ≤ℤ (w *ℤ v)
up_times (pos w) u v n h = go u v h
  where
    go : (u v : ℤ) → u ≤ℤ v → (pos w *ℤ u) ≤ℤ (pos w *ℤ v)
    go = linear 0 2 _ λ p m. simp gaps (λ h. omega (arith, mul-le-mul_left w h))
up_times (negsuc w) u v n h = absurd n.le

down_times : (w u v : ℤ) → w <ℤ pos 0 → u ≤ℤ v → (w *ℤ v) ≤ℤ (w *ℤ u)
down_times (pos w) u v n h = absurd (omega (arith, lt_out n))
down_times (negsuc w) u v n h = go u v h
  where
    go : (u v : ℤ) → u ≤ℤ v → (negsuc w *ℤ v) ≤ℤ (negsuc w *ℤ u)
    go = linear 0 2 _ λ p m. simp gaps (λ h. omega (arith, mul-le-mul_left (suc w) h))

-- what an end is, by the sign of w
end_case : (P : ℤ → Type 0) (w from to : ℤ) → (pos 0 ≤ℤ w → P from) → (w <ℤ pos 0 → P to) → P (end_of w from to)
end_case P w from to f g = go (lt_z w (pos 0)) (λ e. less e) (λ e. not_less e)
  where
    go : (b : Bool) → (b ≡ true → w <ℤ pos 0) → (b ≡ false → pos 0 ≤ℤ w) → P (cond b to from)
    go true h k = g (h refl)
    go false h k = f (k refl)

term_least : (w l r x : ℤ) → Between l r x → (w *ℤ end_of w l r) ≤ℤ (w *ℤ x)
term_least w l r x b =
    end_case (λ (e : ℤ). (w *ℤ e) ≤ℤ (w *ℤ x)) w l r (λ n. up_times w l x n b.lo) (λ n. down_times w x r n b.hi)

term_greatest : (w l r x : ℤ) → Between l r x → (w *ℤ x) ≤ℤ (w *ℤ end_of w r l)
term_greatest w l r x b =
    end_case (λ (e : ℤ). (w *ℤ x) ≤ℤ (w *ℤ e)) w r l (λ n. up_times w x r n b.hi) (λ n. down_times w l x n b.lo)

-- ---- a row

three : (a b c d e f : ℤ) → a ≤ℤ d → b ≤ℤ e → c ≤ℤ f → (a +ℤ b +ℤ c) ≤ℤ (d +ℤ e +ℤ f)
three = linear 0 6 _ λ p m. simp gaps (omega arith)

end_in : (w l r : ℤ) → l ≤ℤ r → Between l r (end_of w l r) × Between l r (end_of w r l)
end_in w l r h =
    let left : Between l r l = record { lo = ≤ℤ_refl l; hi = h } in
    let right : Between l r r = record { lo = h; hi = ≤ℤ_refl r } in
    (end_case (Between l r) w l r (λ _. left) (λ _. right), end_case (Between l r) w r l (λ _. right) (λ _. left))

module _ {n : Nest} (h : Bounded n) (row : V3) where
  corners_in : InBounds n (corner_of row n.left n.right) × InBounds n (corner_of row n.right n.left)
  corners_in =
      let x = end_in row.x _ _ h.outer in
      let y = end_in row.y _ _ h.middle in
      let z = end_in row.z _ _ h.inner in
      (record { inx = x.0; iny = y.0; inz = z.0 }, record { inx = x.1; iny = y.1; inz = z.1 })

  row_least : Least n (dot row) (dot row (corner_of row n.left n.right))
  row_least =
      record {
        by = corner_of row n.left n.right;
        within = corners_in.0;
        is = refl;
        bound = λ x w.
            three _ _ _ _ _ _ (term_least row.x _ _ x.x w.inx) (term_least row.y _ _ x.y w.iny)
            (term_least row.z _ _ x.z w.inz);
      }

  row_greatest : Greatest n (dot row) (dot row (corner_of row n.right n.left))
  row_greatest =
      record {
        by = corner_of row n.right n.left;
        within = corners_in.1;
        is = refl;
        bound = λ x w.
            three _ _ _ _ _ _ (term_greatest row.x _ _ x.x w.inx) (term_greatest row.y _ _ x.y w.iny)
            (term_greatest row.z _ _ x.z w.inz);
      }

-- ---- the box

both_ways : {u v : ℤ} → u ≤ℤ v → v ≤ℤ u → u ≡ v
both_ways h k = omega (arith, zrules)

least_one : {n : Nest} {f : V3 → ℤ} {u v : ℤ} → Least n f u → Least n f v → u ≡ v
least_one {u} {v} h k =
    both_ways (subst (λ (z : ℤ). u ≤ℤ z) (sym k.is) (h.bound k.by k.within))
    (subst (λ (z : ℤ). v ≤ℤ z) (sym h.is) (k.bound h.by h.within))

greatest_one : {n : Nest} {f : V3 → ℤ} {u v : ℤ} → Greatest n f u → Greatest n f v → u ≡ v
greatest_one {u} {v} h k =
    both_ways (subst (λ (z : ℤ). z ≤ℤ v) (sym h.is) (k.bound h.by h.within))
    (subst (λ (z : ℤ). z ≤ℤ u) (sym k.is) (h.bound k.by k.within))

-- its corners are the least and the greatest values of the rows
pub record Cornered (n : Nest) (m : Matrix) (k : Box) : Type 0 where
  pub loa : k.lo.a ≡ dot m.top (corner_of m.top n.left n.right)
  pub lob : k.lo.b ≡ dot m.low (corner_of m.low n.left n.right)
  pub hia : k.hi.a ≡ dot m.top (corner_of m.top n.right n.left)
  pub hib : k.hi.b ≡ dot m.low (corner_of m.low n.right n.left)

pub box_corners : {n : Nest} (m : Matrix) → Bounded n → Cornered n m (box_of n m)
box_corners {n} m h =
    let b = box_basis h.directed m (row_least h m.top).within in
    record {
      loa = least_one b.loa (row_least h m.top);
      lob = least_one b.lob (row_least h m.low);
      hia = greatest_one b.hia (row_greatest h m.top);
      hib = greatest_one b.hib (row_greatest h m.low);
    }
