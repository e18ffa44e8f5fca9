-- Row numbers in a box along a vector: each lies as far from the one before it as columns times the vector's first component and its
-- second. Assumes nothing.
use Rattle.std.specs.Prelude.{◌≡◌, ℕ, ◌+◌, ◌*◌, ℤ, pos, negsuc, neg_ℤ, ◌+ℤ◌, ◌-ℤ◌, ◌*ℤ◌, ◌≤ℤ◌}
use Rattle.std.proofs.Common.{sym, ◌∙◌, ap, arith}
use Rattle.integers.specs.Differences.{up}
use Rattle.integers.specs.Ring.{ring, quotes, literal}
use Rattle.integers.proofs.Ring.{solve}
use Rattle.integers.specs.Vectors.{neg2, shift2}
use Rattle.integers.specs.declared.V2.{V2}
use Rattle.meaning.specs.Loops.{size}
use Rattle.meaning.specs.Space.{Box, row_index}
use Rattle.meaning.specs.Points.{Inside}
use Rattle.numbering.specs.Ranges.{not_below}
use Rattle.counting.specs.Forms.{weigh}

row_weighed : (k : Box) {e : V2} → Inside k e → pos (row_index k e) ≡ weigh k (e.a -ℤ k.lo.a) (e.b -ℤ k.lo.b)
row_weighed k {e} h = go _ (e.a -ℤ k.lo.a) (e.b -ℤ k.lo.b) (not_below _ _ h.ina.lo) (not_below _ _ h.inb.lo)
  where
    go : (c : ℕ) (u v : ℤ) → pos 0 ≤ℤ u → pos 0 ≤ℤ v → pos (up u * c + up v) ≡ pos c *ℤ u +ℤ v
    go c (pos i) (pos j) h l = ap pos (omega arith)
    go c (negsuc i) v h l = absurd h.le
    go c (pos i) (negsuc j) h l = absurd l.le

-- so many times so far on
pub row_on : (k : Box) {e : V2} (d : V2) (j : ℤ) → Inside k e → Inside k (shift2 e j d)
    → pos (row_index k (shift2 e j d)) ≡ pos (row_index k e) +ℤ j *ℤ weigh k d.a d.b
row_on k {e} d j h l =
    row_weighed k l ∙ go (pos (size k.lo.b k.hi.b)) e.a e.b d.a d.b k.lo.a k.lo.b j
    ∙ ap (λ (z : ℤ). z +ℤ j *ℤ weigh k d.a d.b) (sym (row_weighed k h))
  where
    go : (c a b x y u v j : ℤ)
        → c *ℤ (a +ℤ j *ℤ x -ℤ u) +ℤ (b +ℤ j *ℤ y -ℤ v) ≡ c *ℤ (a -ℤ u) +ℤ (b -ℤ v) +ℤ j *ℤ (c *ℤ x +ℤ y)
    go = ring 0 8 _ λ ρ. simp quotes (solve ρ _ _ tt)

-- and once back
pub row_back : (k : Box) {e : V2} (d : V2) → Inside k e → Inside k (shift2 e (pos 1) (neg2 d))
    → pos (row_index k (shift2 e (pos 1) (neg2 d))) ≡ pos (row_index k e) -ℤ weigh k d.a d.b
row_back k {e} d h l =
    row_on k (neg2 d) (pos 1) h l ∙ go (pos (row_index k e)) (pos (size k.lo.b k.hi.b)) d.a d.b
  where
    go : (r c x y : ℤ) → r +ℤ pos 1 *ℤ (c *ℤ neg_ℤ x +ℤ neg_ℤ y) ≡ r -ℤ (c *ℤ x +ℤ y)
    go = ring 0 4 _ λ ρ. simp (quotes, literal ρ) (solve ρ _ _ tt)
