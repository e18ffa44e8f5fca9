-- Going on by d inside a box: `reach` says exactly how often one can. Assumes that d is not zero.
use Rattle.std.specs.Prelude.{◌≡◌, refl, Bool, true, false, cond, ℕ, zero, suc, ◌+◌, ◌-◌, ◌≤◌, T, ℤ, pos, negsuc, neg_ℤ, ◌+ℤ◌, ◌*ℤ◌, ◌≤ℤ◌}
use Rattle.std.proofs.Common.{sym, ◌∙◌, ap, subst, add_comm, arith}
use Rattle.std.proofs.Math.Decide.{dec_le}
use Rattle.std.proofs.Math.IntN.{ℤ_discrete}
use Rattle.integers.specs.Differences.{gaps, parts, Is-eq, Is-add, Is-neg, Is-pos}
use Rattle.integers.specs.Variables.{linear}
use Rattle.integers.specs.Vectors.{zero2, neg2, shift2, same2}
use Rattle.integers.specs.declared.V2.{V2}
use Rattle.meaning.specs.Loops.{size}
use Rattle.meaning.specs.Space.{Box, inside}
use Rattle.meaning.specs.Pipes.{stays, reach}
use Rattle.meaning.specs.Points.{Between, Inside}
use Rattle.geometry.specs.Numbers.{zero_shift, shift_shift, shift_next, shift_neg, shift_turn, neg_not}
use Rattle.geometry.specs.Boxes.{inside_yes, inside_in, convex2}

-- ---- what `stays` counts

-- where it has gone is inside
stays_in : (k : Box) (d : V2) (f : ℕ) (p : V2) → Inside k p → Inside k (shift2 p (pos (stays k d f p)) d)
unfolding stays
stays_in k d zero p h = subst (Inside k) (sym (zero_shift p d)) h
stays_in k d (suc f) p h = go (inside k q) (inside_yes k q) (stays_in k d f q)
  where
    q : V2
    q = shift2 p (pos 1) d

    go : (b : Bool) → (T b → Inside k q) → (Inside k q → Inside k (shift2 q (pos (stays k d f q)) d))
        → Inside k (shift2 p (pos (cond b (suc (stays k d f q)) 0)) d)
    go true y ih = subst (Inside k) (shift_next p d (stays k d f q)) (ih (y tt))
    go false y ih = subst (Inside k) (sym (zero_shift p d)) h

-- it stops at its bound, or because the next is outside
data Ends (k : Box) (d : V2) (f : ℕ) (p : V2) (i : ℕ) : Type 0 where
  full : i ≡ f → Ends k d f p i
  out : (Inside k (shift2 p (pos (suc i)) d) → ⊥) → Ends k d f p i

stays_ends : (k : Box) (d : V2) (f : ℕ) (p : V2) → Ends k d f p (stays k d f p)
unfolding stays
stays_ends k d zero p = full refl
stays_ends k d (suc f) p = go (inside k q) (inside_in k q) (stays_ends k d f q)
  where
    q : V2
    q = shift2 p (pos 1) d

    one_more : Ends k d f q (stays k d f q) → Ends k d (suc f) p (suc (stays k d f q))
    one_more (full e) = full (ap suc e)
    one_more (out g) = out (λ h. g (subst (Inside k) (sym (shift_next p d (suc (stays k d f q)))) h))

    go : (b : Bool) → (Inside k q → T b) → Ends k d f q (stays k d f q) → Ends k d (suc f) p (cond b (suc (stays k d f q)) 0)
    go true g e = one_more e
    go false g e = out (λ h. absurd (g h))

-- a box has no room for as many steps as its bound
no_room : (i : ℕ) (c l r a : ℤ) → (c ≡ pos 0 → ⊥) → size l r ≤ i → Between l r a → Between l r (a +ℤ pos i *ℤ c) → ⊥
no_room i (pos zero) l r a h k u w = h refl
no_room i (pos (suc c)) l r a h k u w = go l r a k u.lo u.hi w.hi
  where
    go : (l r a : ℤ) → size l r ≤ i → l ≤ℤ a → a ≤ℤ r → (a +ℤ pos i *ℤ pos (suc c)) ≤ℤ r → ⊥
    go = linear 0 3 _ λ p m. simp (gaps, parts) (omega arith)
no_room i (negsuc c) l r a h k u w = go l r a k u.lo u.hi w.lo
  where
    go : (l r a : ℤ) → size l r ≤ i → l ≤ℤ a → a ≤ℤ r → l ≤ℤ (a +ℤ pos i *ℤ negsuc c) → ⊥
    go = linear 0 3 _ λ p m. simp (gaps, parts) (omega arith)

-- ---- p + i d is inside exactly for i up to the reach

module _ (k : Box) {d : V2} (moves : d ≡ zero2 → ⊥) {p : V2} (start : Inside k p) where
  pub reach_in : (i : ℕ) → i ≤ reach k d p → Inside k (shift2 p (pos i) d)
  reach_in i h = convex2 k p d i (reach k d p) h start (stays_in k d (size k.lo.a k.hi.a + size k.lo.b k.hi.b) p start)

  reach_out : Inside k (shift2 p (pos (suc (reach k d p))) d) → ⊥
  reach_out h = go (stays_ends k d f p)
    where
      f : ℕ
      f = size k.lo.a k.hi.a + size k.lo.b k.hi.b

      far : reach k d p ≡ f → Inside k (shift2 p (pos (reach k d p)) d) → ⊥
      far e w = which (ℤ_discrete d.a (pos 0)) (ℤ_discrete d.b (pos 0))
        where
          which : Dec (d.a ≡ pos 0) → Dec (d.b ≡ pos 0) → ⊥
          which (yes e') (yes e'') = moves (same2 e' e'')
          which (yes e') (no g) = no_room (reach k d p) d.b k.lo.b k.hi.b p.b g (omega arith) start.inb w.inb
          which (no g) s = no_room (reach k d p) d.a k.lo.a k.hi.a p.a g (omega arith) start.ina w.ina

      go : Ends k d f p (reach k d p) → ⊥
      go (full e) = far e (reach_in (reach k d p) (omega arith))
      go (out g) = g h

  pub reach_le : (i : ℕ) → Inside k (shift2 p (pos i) d) → i ≤ reach k d p
  reach_le i h = go (dec_le i (reach k d p))
    where
      go : Dec (i ≤ reach k d p) → i ≤ reach k d p
      go (yes e) = e
      go (no g) = absurd (reach_out (convex2 k p d (suc (reach k d p)) i (omega arith) start h))

-- ---- of two points on a line

-- what lies t on has t less before it
pub reach_shift : (k : Box) {d : V2} → (d ≡ zero2 → ⊥) → {p q : V2} (t : ℕ) → Inside k p → Inside k q → q ≡ shift2 p (pos t) d
    → reach k d p ≡ t + reach k d q
reach_shift k {d} f {p} {q} t hp hq e =
    let a : t + reach k d q ≤ reach k d p =
    reach_le k f hp (t + reach k d q) (subst (Inside k) (from (reach k d q)) (reach_in k f hq (reach k d q) (omega arith))) in
    let b : t ≤ reach k d p = reach_le k f hp t (subst (Inside k) e hq) in
    let c : reach k d p - t ≤ reach k d q =
    reach_le k f hq (reach k d p - t)
    (subst (Inside k) (sym (from (reach k d p - t) ∙ ap (λ (i : ℕ). shift2 p (pos i) d) (sum t (reach k d p) b)))
    (reach_in k f hp (reach k d p) (omega arith))) in
    omega arith
  where
    sum : (t r : ℕ) → t ≤ r → t + (r - t) ≡ r
    sum t r h = omega arith

    from : (i : ℕ) → shift2 q (pos i) d ≡ shift2 p (pos (t + i)) d
    from i = ap (λ (w : V2). shift2 w (pos i) d) e ∙ shift_shift p d (pos t) (pos i)

-- and j more behind it, so two points' places on their line are as far apart as they are
pub back_shift : (k : Box) {d : V2} → (d ≡ zero2 → ⊥) → {p q : V2} (j : ℤ) → Inside k p → Inside k q → q ≡ shift2 p j d
    → pos (reach k (neg2 d) q) ≡ pos (reach k (neg2 d) p) +ℤ j
back_shift k {d} f {p} {q} (pos t) hp hq e =
    ap pos (reach_shift k (neg_not f) t hq hp (shift_turn d (pos t) e) ∙ add_comm t (reach k (neg2 d) p))
back_shift k {d} f {p} {q} (negsuc t) hp hq e =
    less (suc t) (reach k (neg2 d) p) (reach k (neg2 d) q) (reach_shift k (neg_not f) (suc t) hp hq (e ∙ sym (shift_neg p d (pos (suc t)))))
  where
    less : (t r s : ℕ) → r ≡ t + s → pos s ≡ pos r +ℤ neg_ℤ (pos t)
    less t r s e = Is-eq (Is-pos s) (Is-add (Is-pos r) (Is-neg (Is-pos t))) (omega arith)
