-- Laws of vectors: products of sums and multiples, cancelling. Assumes nothing.
use Rattle.std.specs.Prelude.{◌≡◌, ℤ, pos, neg_ℤ, ◌+ℤ◌, ◌-ℤ◌, ◌*ℤ◌}
use Rattle.std.proofs.Common.{ap}
use Rattle.integers.specs.declared.V3.{V3}
use Rattle.integers.specs.declared.Matrix.{Matrix}
use Rattle.integers.specs.Ring.{ring, quotes, literal, solve3}
use Rattle.integers.specs.Vectors.{zero3, sub3, neg3, scale3, shift3, dot, cross, shift2, image, same3, same2}
use Rattle.integers.proofs.Ring.{solve}
use Rattle.integers.proofs.Order.{cancel_zero}

pub dot_shift : (s a u : V3) (t : ℤ) → dot s (shift3 a t u) ≡ dot s a +ℤ t *ℤ dot s u
dot_shift = ring 3 1 _ λ ρ. simp quotes (solve ρ _ _ tt)

pub dot_sub : (s u w : V3) → dot s (sub3 u w) ≡ dot s u -ℤ dot s w
dot_sub = ring 3 0 _ λ ρ. simp quotes (solve ρ _ _ tt)

pub dot_neg : (s u : V3) → dot s (neg3 u) ≡ neg_ℤ (dot s u)
dot_neg = ring 2 0 _ λ ρ. simp quotes (solve ρ _ _ tt)

pub dot_scale : (s u : V3) (t : ℤ) → dot s (scale3 t u) ≡ t *ℤ dot s u
dot_scale = ring 2 1 _ λ ρ. simp quotes (solve ρ _ _ tt)

pub cross_left : (p q : V3) → dot p (cross p q) ≡ pos 0
cross_left = ring 2 0 _ λ ρ. simp (quotes, literal ρ) (solve ρ _ _ tt)

pub cross_right : (p q : V3) → dot q (cross p q) ≡ pos 0
cross_right = ring 2 0 _ λ ρ. simp (quotes, literal ρ) (solve ρ _ _ tt)

pub cross_scale : (d u : V3) (t : ℤ) → cross d (scale3 t u) ≡ scale3 t (cross d u)
cross_scale = ring 2 1 _ λ ρ. simp quotes (solve3 (solve ρ _ _ tt) (solve ρ _ _ tt) (solve ρ _ _ tt))

-- d × (p × q) = (q · d) p − (p · d) q
pub cross_cross : (d p q : V3) → cross d (cross p q) ≡ sub3 (scale3 (dot q d) p) (scale3 (dot p d) q)
cross_cross = ring 3 0 _ λ ρ. simp quotes (solve3 (solve ρ _ _ tt) (solve ρ _ _ tt) (solve ρ _ _ tt))

pub image_shift : (m : Matrix) (a u : V3) (t : ℤ) → image m (shift3 a t u) ≡ shift2 (image m a) t (image m u)
image_shift m a u t = same2 (dot_shift m.top a u t) (dot_shift m.low a u t)

-- a factor that is not 0 can be cancelled
pub cancel3 : (t : ℤ) (u : V3) → (t ≡ pos 0 → ⊥) → scale3 t u ≡ zero3 → u ≡ zero3
cancel3 t u n e =
    same3 (cancel_zero t u.x n (ap (λ (w : V3). w.x) e)) (cancel_zero t u.y n (ap (λ (w : V3). w.y) e))
    (cancel_zero t u.z n (ap (λ (w : V3). w.z) e))
