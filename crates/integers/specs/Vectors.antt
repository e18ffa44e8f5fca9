-- Vectors of three and of two whole numbers: sums, multiples, dot and cross product, the image under a matrix of two rows. Assumes nothing.
use Rattle.std.specs.Prelude.{◌≡◌, ℤ, pos, neg_ℤ, ◌+ℤ◌, ◌-ℤ◌, ◌*ℤ◌}
use Rattle.std.proofs.Common.{ap, arith}
use Rattle.integers.specs.declared.V3.{V3}
use Rattle.integers.specs.declared.V2.{V2}
use Rattle.integers.specs.declared.Matrix.{Matrix}
use Rattle.integers.specs.Differences.{gaps}
use Rattle.integers.specs.Variables.{linear}
use Rattle.integers.specs.Ring.{solve3}

-- ---- three components

abbrev pub zero3 : V3
zero3 = record { x = pos 0; y = pos 0; z = pos 0 }

abbrev pub add3 : V3 → V3 → V3
add3 u w = record { x = u.x +ℤ w.x; y = u.y +ℤ w.y; z = u.z +ℤ w.z }

abbrev pub sub3 : V3 → V3 → V3
sub3 u w = record { x = u.x -ℤ w.x; y = u.y -ℤ w.y; z = u.z -ℤ w.z }

abbrev pub neg3 : V3 → V3
neg3 u = record { x = neg_ℤ u.x; y = neg_ℤ u.y; z = neg_ℤ u.z }

abbrev pub scale3 : ℤ → V3 → V3
scale3 t u = record { x = t *ℤ u.x; y = t *ℤ u.y; z = t *ℤ u.z }

-- a + t u
abbrev pub shift3 : V3 → ℤ → V3 → V3
shift3 a t u = add3 a (scale3 t u)

abbrev pub dot : V3 → V3 → ℤ
dot u w = u.x *ℤ w.x +ℤ u.y *ℤ w.y +ℤ u.z *ℤ w.z

abbrev pub cross : V3 → V3 → V3
cross u w =
    record {
      x = u.y *ℤ w.z -ℤ u.z *ℤ w.y;
      y = u.z *ℤ w.x -ℤ u.x *ℤ w.z;
      z = u.x *ℤ w.y -ℤ u.y *ℤ w.x;
    }

-- ---- two components, and matrices

abbrev pub zero2 : V2
zero2 = record { a = pos 0; b = pos 0 }

abbrev pub neg2 : V2 → V2
neg2 p = record { a = neg_ℤ p.a; b = neg_ℤ p.b }

-- p + t d
abbrev pub shift2 : V2 → ℤ → V2 → V2
shift2 p t d = record { a = p.a +ℤ t *ℤ d.a; b = p.b +ℤ t *ℤ d.b }

abbrev pub image : Matrix → V3 → V2
image m u = record { a = dot m.top u; b = dot m.low u }

-- ---- laws

pub same3 : {u w : V3} → u.x ≡ w.x → u.y ≡ w.y → u.z ≡ w.z → u ≡ w
same3 = solve3

pub same2 : {p q : V2} → p.a ≡ q.a → p.b ≡ q.b → p ≡ q
same2 e f = λ i. record { a = e i; b = f i }

-- from a − b = d: a = b + d
pub sub_add : (a b d : V3) → sub3 a b ≡ d → a ≡ add3 b d
sub_add a b d e =
    same3 (at a.x b.x d.x (ap (λ (w : V3). w.x) e)) (at a.y b.y d.y (ap (λ (w : V3). w.y) e))
    (at a.z b.z d.z (ap (λ (w : V3). w.z) e))
  where
    at : (a b d : ℤ) → a -ℤ b ≡ d → a ≡ b +ℤ d
    at = linear 0 3 _ λ p m. simp gaps (omega arith)
