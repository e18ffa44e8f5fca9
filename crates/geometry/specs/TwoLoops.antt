-- Two loops as three. That they are is a definition: `vectorAt`, `matrixAt` and `loadingOf` of meaning's Description put in a third loop
-- from 0 to 0, and a second row (0, 0, 1) into every matrix. Here is that this changes nothing: what document 01 says of two loops is what
-- the definitions say of the padded ones. Assumes nothing.
use Rattle.std.specs.Prelude.{◌≡◌, ◌⊎◌, ◌↔◌, cond, List, ℕ, ◌+◌, ◌*◌, T, eqb, ℤ, pos, neg_ℤ, ◌+ℤ◌, ◌-ℤ◌, ◌*ℤ◌, ◌≤ℤ◌, ◌<ℤ◌}
use Rattle.std.proofs.Common.{sym, ◌∙◌, ap, ap₂, subst, subst₂, inl, inr, arith}
use Rattle.std.specs.Int.Signed.{<ℤ_irrefl}
use Rattle.integers.specs.Differences.{gaps, parts, up}
use Rattle.integers.specs.Variables.{linear}
use Rattle.integers.specs.Ring.{ring, quotes, literal, solve3, given, Ex.var, Ex.minus}
use Rattle.integers.proofs.Ring.{solve, solve_by}
use Rattle.integers.specs.Vectors.{sub3, scale3, dot, cross, image, same2}
use Rattle.integers.specs.declared.V3.{V3}
use Rattle.integers.specs.declared.V2.{V2}
use Rattle.integers.specs.declared.Matrix.{Matrix}
use Rattle.lattice.specs.Values.{Value, minors_with}
use Rattle.meaning.specs.declared.Nest.{Nest}
use Rattle.meaning.specs.declared.Sizes.{Sizes}
use Rattle.meaning.specs.Loops.{size}
use Rattle.meaning.specs.Space.{Box, row_index, box_of}
use Rattle.meaning.specs.Description.{unit3, nest_of, stream_of}
use Rattle.meaning.specs.Points.{IsLine as Line, Precedes, Directed, Within, Inside, Earlier, Earlier.by_outer, Earlier.by_middle}
use Rattle.meaning.specs.Points.{Earlier.by_inner}
use Rattle.geometry.specs.Numbers.{yes_cond}
use Rattle.geometry.specs.Boxes.{box_basis}

-- a matrix that is one row of two numbers, and a nest of two loops
pub record Flat (m : Matrix) : Type 0 where
  pub top : m.top.z ≡ pos 0
  pub low : m.low ≡ unit3

pub record Planar (n : Nest) : Type 0 where
  pub left : n.left.z ≡ pos 0
  pub right : n.right.z ≡ pos 0
  pub step : n.step.z ≡ pos 0
  pub place : Flat n.place

-- ---- decoding gives these

two : (z : Sizes) {A : Type 0} (x y : A) → z.loops ≡ 2 → cond (eqb z.loops 2) x y ≡ x
two z x y e = yes_cond (eqb z.loops 2) x y (subst (λ (r : ℕ). T (eqb r 2)) (sym e) tt)

pub planar : (s : List ℕ) (z : Sizes) → z.loops ≡ 2 → Planar (nest_of s z)
unfolding nest_of
planar s z e =
    record { left = two z _ _ e; right = two z _ _ e; step = two z _ _ e; place = record { top = two z _ _ e; low = two z _ _ e } }

pub flat_stream : (s : List ℕ) (z : Sizes) (i : ℕ) → z.loops ≡ 2 → Flat (stream_of s z i).map × ((stream_of s z i).loading.b ≡ pos 0)
unfolding stream_of
flat_stream s z i e = (record { top = two z _ _ e; low = two z _ _ e }, two z _ _ e)

-- ---- instances, places, elements

pinched : (a l r : ℤ) → l ≡ pos 0 → r ≡ pos 0 → l ≤ℤ a → a ≤ℤ r → a ≡ pos 0
pinched = linear 0 3 _ λ p m. simp gaps (omega arith)

-- an instance has no third coordinate to speak of
pub no_third : {n : Nest} → Planar n → {x : V3} → Within n x → x.z ≡ pos 0
no_third h {x} w = pinched x.z _ _ h.left h.right w.inz.lo w.inz.hi

-- the second coordinate of a place or an element is the third loop's, so 0
pub no_second : {m : Matrix} → Flat m → (x : V3) → (image m x).b ≡ x.z
no_second f x = ap (λ (w : V3). dot w x) f.low ∙ third x
  where
    third : (x : V3) → dot unit3 x ≡ x.z
    third = ring 1 0 _ λ ρ. simp (quotes, literal ρ) (solve ρ _ _ tt)

-- boxes are one point high
pub low_box : {n : Nest} {m : Matrix} → Planar n → Flat m → Directed n → {x : V3} → Within n x
    → ((box_of n m).lo.b ≡ pos 0) × ((box_of n m).hi.b ≡ pos 0)
low_box {n} {m} h f d w =
    let k = box_basis d m w in (
      k.lob.is ∙ no_second f k.lob.by ∙ no_third h k.lob.within,
      k.hib.is ∙ no_second f k.hib.by ∙ no_third h k.hib.within,
    )

pub low_point : {n : Nest} {m : Matrix} → Planar n → Flat m → Directed n → {x : V3} → Within n x → {p : V2}
    → Inside (box_of n m) p → p.b ≡ pos 0
low_point h f d w {p} i = let k = low_box h f d w in pinched p.b _ _ k.0 k.1 i.inb.lo i.inb.hi

-- and row order is the order of the first coordinate
pub flat_row : (k : Box) (p : V2) → k.lo.b ≡ pos 0 → k.hi.b ≡ pos 0 → p.b ≡ pos 0 → row_index k p ≡ up (p.a -ℤ k.lo.a)
flat_row k p e f g = one (up (p.a -ℤ k.lo.a)) (size k.lo.b k.hi.b) (up (p.b -ℤ k.lo.b)) (high _ _ e f) (none _ _ e g)
  where
    high : (l r : ℤ) → l ≡ pos 0 → r ≡ pos 0 → size l r ≡ 1
    high = linear 0 2 _ λ p m. simp (gaps, parts) (omega arith)

    none : (l a : ℤ) → l ≡ pos 0 → a ≡ pos 0 → up (a -ℤ l) ≡ 0
    none = linear 0 2 _ λ p m. simp (gaps, parts) (omega arith)

    one : (i s j : ℕ) → s ≡ 1 → j ≡ 0 → i * s + j ≡ i
    one i s j e f = ap₂ (λ (s j : ℕ). i * s + j) e f ∙ times i
      where
        times : (i : ℕ) → i * 1 + 0 ≡ i
        times i = omega arith

-- ---- the values of the row

-- at a whole pair
flat_dot : (p : V3) (i j : ℤ) → dot p (record { x = i; y = j; z = pos 0 }) ≡ p.x *ℤ i +ℤ p.y *ℤ j
flat_dot = ring 1 2 _ λ ρ. simp (quotes, literal ρ) (solve ρ _ _ tt)

pub flat_value : {m : Matrix} → Flat m → (a : ℤ)
    → Value m (record { a = a; b = pos 0 }) ↔ ((i : ℤ) × (j : ℤ) × (m.top.x *ℤ i +ℤ m.top.y *ℤ j ≡ a))
flat_value {m} f a = (
  λ v. let x = v.0 in (x.x, x.y, two_terms m.top x f.top ∙ ap (λ (y : V2). y.a) v.1),
  λ w. (record { x = w.0; y = w.1; z = pos 0 }, same2 (flat_dot m.top w.0 w.1 ∙ w.2) (no_second f _)),
)
  where
    two_terms : (p x : V3) → p.z ≡ pos 0 → p.x *ℤ x.x +ℤ p.y *ℤ x.y ≡ dot p x
    two_terms = ring 2 0 _ λ ρ. simp (quotes, literal ρ) (λ e. solve_by _ _ (given (minus (var 5)) e) tt)

-- the minors with one are that value alone, negated
pub flat_minors : {m : Matrix} → Flat m → (a : ℤ)
    → minors_with m (record { a = a; b = pos 0 }) ≡ record { x = pos 0; y = pos 0; z = neg_ℤ a }
flat_minors {m} f a = ap (λ (w : V3). sub3 (scale3 (pos 0) m.top) (scale3 a w)) f.low ∙ go m.top a
  where
    go : (p : V3) (a : ℤ) → sub3 (scale3 (pos 0) p) (scale3 a unit3) ≡ record { x = pos 0; y = pos 0; z = neg_ℤ a }
    go = ring 1 1 _ λ ρ. simp (quotes, literal ρ) (solve3 (solve ρ _ _ tt) (solve ρ _ _ tt) (solve ρ _ _ tt))

-- ---- lines

-- the cross product of the padded rows is (b, −a, 0)
pub flat_cross : {m : Matrix} → Flat m → cross m.top m.low ≡ record { x = m.top.y; y = neg_ℤ m.top.x; z = pos 0 }
flat_cross {m} f =
    ap (cross m.top) f.low ∙ go m.top
  where
    go : (p : V3) → cross p unit3 ≡ record { x = p.y; y = neg_ℤ p.x; z = pos 0 }
    go = ring 1 0 _ λ ρ. simp (quotes, literal ρ) (solve3 (solve ρ _ _ tt) (solve ρ _ _ tt) (solve ρ _ _ tt))

-- a line stays in the plane, and is the shortest there: every whole pair that the row sends to zero is a whole multiple of it
pub flat_line : {n : Nest} {m : Matrix} {u : V3} → Flat m → Line n m u → u.z ≡ pos 0
flat_line {u} f l = sym (no_second f u) ∙ l.short.null.low

pub flat_shortest : {n : Nest} {m : Matrix} {u : V3} → Flat m → Line n m u → (i j : ℤ) → m.top.x *ℤ i +ℤ m.top.y *ℤ j ≡ pos 0
    → (t : ℤ) × (i ≡ t *ℤ u.x) × (j ≡ t *ℤ u.y)
flat_shortest {m} {u} f l i j e =
    let d : V3 = record { x = i; y = j; z = pos 0 } in
    let r = l.short.all d (record { top = flat_dot m.top i j ∙ e; low = no_second f d }) in
    (r.by, ap (λ (w : V3). w.x) r.eq, ap (λ (w : V3). w.y) r.eq)

-- ---- the written order is that of the two loops

pub flat_earlier : (d : V3) {p q : V3} → p.z ≡ pos 0 → q.z ≡ pos 0 → Earlier d p q
    → Precedes d.x p.x q.x ⊎ ((p.x ≡ q.x) × Precedes d.y p.y q.y)
flat_earlier d e f (by_outer r) = inl r
flat_earlier d e f (by_middle g r) = inr (g, r)
flat_earlier d e f (by_inner g k r) = absurd (<ℤ_irrefl (subst₂ (λ (a b : ℤ). (d.z *ℤ a) <ℤ (d.z *ℤ b)) e f r))
