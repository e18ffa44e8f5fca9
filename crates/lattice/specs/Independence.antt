-- Two rows are independent exactly if no whole combination of them is zero but the trivial one. Assumes nothing.
use Rattle.std.specs.Prelude.{◌≡◌, ℤ, pos, neg_ℤ, ◌-ℤ◌, ◌*ℤ◌}
use Rattle.std.proofs.Common.{ap, arith}
use Rattle.std.proofs.Math.IntN.{ℤ_discrete}
use Rattle.integers.specs.declared.V3.{V3}
use Rattle.integers.specs.Differences.{eq_out}
use Rattle.integers.specs.Ring.{ring, quotes, literal, solve3, given, ◌also◌, Ex.var, Ex.minus, Ex.plain}
use Rattle.integers.proofs.Ring.{solve_by}
use Rattle.integers.specs.Vectors.{zero3, add3, scale3, cross}
use Rattle.integers.proofs.Vectors.{cancel3}
use Rattle.lattice.specs.Lattice.{Independent}

-- a p + b q
abbrev pub combined : ℤ → ℤ → V3 → V3 → V3
combined a b p q = add3 (scale3 a p) (scale3 b q)

-- crossed with q a combination that is zero leaves a (p × q), with p it leaves b (p × q)
first_part : (p q : V3) (a b : ℤ) → (combined a b p q).x ≡ pos 0 → (combined a b p q).y ≡ pos 0 → (combined a b p q).z ≡ pos 0
    → scale3 a (cross p q) ≡ zero3
first_part = ring 2 2 _ λ ρ. simp (quotes, literal ρ) (λ x y z. solve3
    (solve_by _ _ (given (var 5) y also given (minus (var 4)) z) tt)
    (solve_by _ _ (given (var 3) z also given (minus (var 5)) x) tt)
    (solve_by _ _ (given (var 4) x also given (minus (var 3)) y) tt))

second_part : (p q : V3) (a b : ℤ) → (combined a b p q).x ≡ pos 0 → (combined a b p q).y ≡ pos 0 → (combined a b p q).z ≡ pos 0
    → scale3 b (cross p q) ≡ zero3
second_part = ring 2 2 _ λ ρ. simp (quotes, literal ρ) (λ x y z. solve3
    (solve_by _ _ (given (var 1) z also given (minus (var 2)) y) tt)
    (solve_by _ _ (given (var 2) x also given (minus (var 0)) z) tt)
    (solve_by _ _ (given (var 0) y also given (minus (var 1)) x) tt))

pub only_trivial : (p q : V3) → Independent p q → (a b : ℤ) → combined a b p q ≡ zero3 → (a ≡ pos 0) × (b ≡ pos 0)
only_trivial p q h a b e = (
  go a (first_part p q a b (ap (λ (w : V3). w.x) e) (ap (λ (w : V3). w.y) e) (ap (λ (w : V3). w.z) e)) (ℤ_discrete a (pos 0)),
  go b (second_part p q a b (ap (λ (w : V3). w.x) e) (ap (λ (w : V3). w.y) e) (ap (λ (w : V3). w.z) e)) (ℤ_discrete b (pos 0)),
)
  where
    go : (t : ℤ) → scale3 t (cross p q) ≡ zero3 → Dec (t ≡ pos 0) → t ≡ pos 0
    go t e (yes z) = z
    go t e (no n) = absurd (h (cancel3 t (cross p q) n e))

-- where p × q is zero, each component of q times p is that component of p times q
by_x : (p q : V3) → p.z *ℤ q.x -ℤ p.x *ℤ q.z ≡ pos 0 → p.x *ℤ q.y -ℤ p.y *ℤ q.x ≡ pos 0 → combined q.x (neg_ℤ p.x) p q ≡ zero3
by_x = ring 2 0 _ λ ρ. simp (quotes, literal ρ) (λ y z. solve3
    (solve_by _ _ (given (plain 0) y) tt) (solve_by _ _ (given (minus (plain 1)) z) tt) (solve_by _ _ (given (plain 1) y) tt))

by_y : (p q : V3) → p.y *ℤ q.z -ℤ p.z *ℤ q.y ≡ pos 0 → p.x *ℤ q.y -ℤ p.y *ℤ q.x ≡ pos 0 → combined q.y (neg_ℤ p.y) p q ≡ zero3
by_y = ring 2 0 _ λ ρ. simp (quotes, literal ρ) (λ x z. solve3
    (solve_by _ _ (given (plain 1) z) tt) (solve_by _ _ (given (plain 0) x) tt) (solve_by _ _ (given (minus (plain 1)) x) tt))

by_z : (p q : V3) → p.y *ℤ q.z -ℤ p.z *ℤ q.y ≡ pos 0 → p.z *ℤ q.x -ℤ p.x *ℤ q.z ≡ pos 0 → combined q.z (neg_ℤ p.z) p q ≡ zero3
by_z = ring 2 0 _ λ ρ. simp (quotes, literal ρ) (λ x y. solve3
    (solve_by _ _ (given (minus (plain 1)) y) tt) (solve_by _ _ (given (plain 1) x) tt) (solve_by _ _ (given (plain 0) x) tt))

-- and where q is zero, 0 p + 1 q is
by_none : (p q : V3) → q.x ≡ pos 0 → q.y ≡ pos 0 → q.z ≡ pos 0 → combined (pos 0) (pos 1) p q ≡ zero3
by_none = ring 2 0 _ λ ρ. simp (quotes, literal ρ) (λ x y z. solve3
    (solve_by _ _ (given (plain 1) x) tt) (solve_by _ _ (given (plain 1) y) tt) (solve_by _ _ (given (plain 1) z) tt))

pub trivial_only : (p q : V3) → ((a b : ℤ) → combined a b p q ≡ zero3 → (a ≡ pos 0) × (b ≡ pos 0)) → Independent p q
trivial_only p q h e = go (ℤ_discrete q.x (pos 0)) (ℤ_discrete q.y (pos 0)) (ℤ_discrete q.z (pos 0))
  where
    x : p.y *ℤ q.z -ℤ p.z *ℤ q.y ≡ pos 0
    x = ap (λ (w : V3). w.x) e

    y : p.z *ℤ q.x -ℤ p.x *ℤ q.z ≡ pos 0
    y = ap (λ (w : V3). w.y) e

    z : p.x *ℤ q.y -ℤ p.y *ℤ q.x ≡ pos 0
    z = ap (λ (w : V3). w.z) e

    one : pos 1 ≡ pos 0 → ⊥
    one e = omega (arith, eq_out e)

    go : Dec (q.x ≡ pos 0) → Dec (q.y ≡ pos 0) → Dec (q.z ≡ pos 0) → ⊥
    go (no n) b c = n (h q.x (neg_ℤ p.x) (by_x p q y z)).0
    go (yes a) (no n) c = n (h q.y (neg_ℤ p.y) (by_y p q x z)).0
    go (yes a) (yes b) (no n) = n (h q.z (neg_ℤ p.z) (by_z p q x y)).0
    go (yes a) (yes b) (yes c) = one (h (pos 0) (pos 1) (by_none p q a b c)).1
