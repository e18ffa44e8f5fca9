-- Conditions 5 to 8 and 10, of the bounds, the instances and place, against their tests. What is said of place holds of an index map too.
-- Assumes nothing.
use Rattle.std.specs.Prelude.{◌≡◌, Bool, ℕ, ◌≤◌, ltb, length, ℤ, pos, ◌*ℤ◌, ◌≤ℤ◌}
use Rattle.std.proofs.Common.{sym, ◌∙◌, ap, ap₂, subst, arith}
use Rattle.std.specs.Int.Signed.{≤ℤ_refl}
use Rattle.integers.specs.Differences.{gaps, parts, le_out, le_in, eq_in}
use Rattle.integers.specs.Variables.{linear}
use Rattle.integers.specs.Words.{eq_z}
use Rattle.integers.specs.Vectors.{zero3, same3, same2}
use Rattle.integers.specs.declared.V3.{V3}
use Rattle.integers.specs.declared.Matrix.{Matrix}
use Rattle.lattice.specs.Lattice.{Independent}
use Rattle.lattice.specs.Independence.{only_trivial, trivial_only}
use Rattle.meaning.specs.declared.Limits.{Limits}
use Rattle.meaning.specs.declared.Nest.{Nest}
use Rattle.meaning.specs.Loops.{size, instances, step_of, unshortened, line_of}
use Rattle.meaning.specs.Space.{Box, points, box_of, processes}
use Rattle.meaning.specs.Points.{Directed, Within, IsLine}
use Rattle.meaning.specs.Description.{refused5}
use Rattle.meaning.specs.Accept.{is_zero3, low_rank, refused6, refused10}
use Rattle.meaning.specs.Conditions.{BoundsFit, extent, volume, FullRank, HasLine, LeastBox, area, FewProcesses}
use Rattle.geometry.specs.Lines.{line_is, line_steps, line_unique}
use Rattle.geometry.specs.Instances.{instances_length}
use Rattle.geometry.specs.Boxes.{le_trans, box_has, box_least}
use Rattle.geometry.specs.RowOrder.{points_length}
use Rattle.network.specs.Decide.{Says, says_as, says_and}
use Rattle.guarantee.specs.Refusals.{Refuses, Refuses.met, Refuses.broken, refuses_as, refuses_or, refuses_if, says_eq_z, refuses_less}
use Rattle.guarantee.specs.Refusals.{refuses_less_z}

-- ---- 5 and 6

pub refuses5 : (n : Nest) → Refuses (BoundsFit n) (refused5 n)
refuses5 n =
    refuses_as (λ p. record { inx = p.0.0; iny = p.0.1; inz = p.1 }) (λ b. ((b.inx, b.iny), b.inz))
    (refuses_or (refuses_or (refuses_less_z n.right.x n.left.x) (refuses_less_z n.right.y n.left.y))
    (refuses_less_z n.right.z n.left.z))

-- what the fifth leaves: there is an instance
pub some_instance : (n : Nest) → BoundsFit n → Within n n.left
some_instance n b =
    record {
      inx = record { lo = ≤ℤ_refl n.left.x; hi = b.inx };
      iny = record { lo = ≤ℤ_refl n.left.y; hi = b.iny };
      inz = record { lo = ≤ℤ_refl n.left.z; hi = b.inz };
    }

extent_is : (left right : ℤ) → left ≤ℤ right → extent left right ≡ pos (size left right)
extent_is = linear 0 2 _ λ p m. simp (gaps, parts) (omega arith)

-- a count is not over a limit
refuses_over : (limit count : ℕ) {v : ℤ} → v ≡ pos count → Refuses (v ≤ℤ pos limit) (ltb limit count)
refuses_over limit count e =
    refuses_as (λ h. subst (λ (w : ℤ). w ≤ℤ pos limit) (sym e) (le_in (omega arith))) (λ h. natural (subst (λ (w : ℤ). w ≤ℤ pos limit) e h))
    (refuses_less limit count)
  where
    natural : {i j : ℕ} → pos i ≤ℤ pos j → i ≤ j
    natural h = omega (arith, le_out h)

pub refuses6 : (l : Limits) (n : Nest) → BoundsFit n → Refuses (volume n ≤ℤ pos l.instances) (refused6 l n)
refuses6 l n b = refuses_over l.instances (length (instances n)) volume_is
  where
    volume_is : volume n ≡ pos (length (instances n))
    volume_is =
        ap₂ ◌*ℤ◌ (ap₂ ◌*ℤ◌ (extent_is n.left.x n.right.x b.inx) (extent_is n.left.y n.right.y b.iny))
        (extent_is n.left.z n.right.z b.inz) ∙ ap pos (sym (instances_length n))

-- ---- 7 and 11, 8 and 12: the rank and the line of a matrix

says_zero : (v : V3) → Says (v ≡ zero3) (is_zero3 v)
says_zero v =
    says_as (λ p. same3 {u = v} {w = zero3} p.0.0 p.0.1 p.1)
    (λ e. ((ap (λ (w : V3). w.x) e, ap (λ (w : V3). w.y) e), ap (λ (w : V3). w.z) e))
    (says_and (says_and (says_eq_z v.x (pos 0)) (says_eq_z v.y (pos 0))) (says_eq_z v.z (pos 0)))

pub refuses_rank : (m : Matrix) → Refuses (FullRank m) (low_rank m)
refuses_rank m =
    refuses_if (λ f. trivial_only m.top m.low f) (λ h. only_trivial m.top m.low h) (says_zero (unshortened m))

module _ (n : Nest) (m : Matrix) (f : FullRank m) where
  independent : Independent m.top m.low
  independent = trivial_only m.top m.low f

  pub refuses_line : Refuses (HasLine n m) (eq_z (step_of n (line_of n m)) (pos 0))
  refuses_line =
      refuses_if (λ h. line_steps n m h.0 independent h.1) (λ k. (line_of n m, line_is n m independent k))
      (says_eq_z (step_of n (line_of n m)) (pos 0))

  -- what they leave: the line is the one that Accept finds
  pub line_found : HasLine n m → IsLine n m (line_of n m)
  line_found h = line_is n m independent (line_steps n m h.0 independent h.1)

-- what is asked of every line is asked of that one
pub refuses_each : {n : Nest} {m : Matrix} {v : V3} (P : V3 → Type 0) {b : Bool} → IsLine n m v → Refuses (P v) b
    → Refuses ((u : V3) → IsLine n m u → P u) b
refuses_each P h (met x) = met (λ u k. subst P (line_unique h k) x)
refuses_each {v} P h (broken d) = broken (λ f. d (f v h))

-- ---- 10: there is one least box, and it is the one that Accept finds

pub one_box : {n : Nest} {m : Matrix} {k j : Box} → LeastBox n m k → LeastBox n m j → k ≡ j
one_box {k} {j} h g =
    let p = h.least j g.has in
    let q = g.least k h.has in
    same (same2 (equal q.0.ina.lo p.0.ina.lo) (equal q.0.inb.lo p.0.inb.lo))
    (same2 (equal p.1.ina.hi q.1.ina.hi) (equal p.1.inb.hi q.1.inb.hi))
  where
    equal : {a b : ℤ} → a ≤ℤ b → b ≤ℤ a → a ≡ b
    equal h k = eq_in (omega (arith, le_out h, le_out k))

    same : {k j : Box} → k.lo ≡ j.lo → k.hi ≡ j.hi → k ≡ j
    same e f = λ i. record { lo = e i; hi = f i }

module _ {n : Nest} (d : Directed n) {x : V3} (w : Within n x) (m : Matrix) where
  pub box_found : LeastBox n m (box_of n m)
  box_found = record { has = λ x w. box_has d m w; least = λ j f. box_least d m j w f }

  -- what is asked of every least box is asked of that one
  pub refuses_box : (P : Box → Type 0) {b : Bool} → Refuses (P (box_of n m)) b → Refuses ((k : Box) → LeastBox n m k → P k) b
  refuses_box P (met y) = met (λ k h. subst P (one_box box_found h) y)
  refuses_box P (broken f) = broken (λ g. f (g (box_of n m) box_found))

  area_is : area (box_of n m) ≡ pos (length (points (box_of n m)))
  area_is =
      let k = box_of n m in
      let i = box_has d m w in
      ap₂ ◌*ℤ◌ (extent_is k.lo.a k.hi.a (le_trans i.ina.lo i.ina.hi))
      (extent_is k.lo.b k.hi.b (le_trans i.inb.lo i.inb.hi))
      ∙ ap pos (sym (points_length k))

pub refuses10 : (l : Limits) {n : Nest} → Directed n → {x : V3} → Within n x → Refuses (FewProcesses l n) (refused10 l n)
refuses10 l {n} d w =
    refuses_box d w n.place (λ k. area k ≤ℤ pos l.processes)
    (refuses_over l.processes (length (processes n)) (area_is d w n.place))
