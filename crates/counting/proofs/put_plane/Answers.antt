-- `counting::put_plane` meets its contract, row by row. Assumes nothing.
use mathlib.Core.Path.{◌≡◌, sym, ◌∙◌, ap, ap₂, subst, subst₂}
use Prim.Native.Nat.{ℕ, ◌+◌, ◌*◌, ◌≤◌, ◌<◌}
use native.Mathlib.Nat.{mul-le-mul_right}
use native.Mathlib.Omega.{arith}
use lib.IntN.{ℤ, ◌+ℤ◌}
use mir.Syntax.{w32}
use mir.Val.{to_z, of_z}
use Rattle.integers.specs.Differences.{up}
use Rattle.integers.specs.Fill.{fill_by}
use Rattle.integers.specs.Words.{Holds, at, leaf, box, add, fits}
use Rattle.integers.specs.declared.V3.{V3}
use Rattle.counting.specs.Strides.{along, along_zero, along_next, PlaneFits, RowFits, plane_small, plane_row}
use Rattle.counting.proofs.put_plane.Goals as goal

-- the words of first and of the number after j rows
module _ {rows count : ℕ} {first : ℤ} {s : V3} (h : PlaneFits rows count first s) where
  abbrev F : ℤ
  F = to_z w32 (of_z w32 first)

  words : (j : ℕ) → along F s.y j ≡ along first s.y j
  words j = ap (λ (a : ℤ). along a s.y j) (at tt h.begins).eq

  holds : {j : ℕ} {t : ℤ} → j ≤ rows → t ≡ along F s.y j → Holds t (along first s.y j) 4500000
  holds {j} {t} l e = subst (λ (t : ℤ). Holds t (along first s.y j) 4500000) (sym (e ∙ words j)) (leaf (plane_small h l))

  next : {j : ℕ} {t : ℤ} → j ≤ rows → t ≡ along F s.y j → to_z w32 (of_z w32 (t +ℤ to_z w32 (of_z w32 s.y))) ≡ along F s.y (j + 1)
  next {j} l e = (box tt (add (holds l e) (at tt h.strides.ys))).eq ∙ along_next j first s.y ∙ sym (words (j + 1))

  row : {j : ℕ} {t : ℤ} → j < rows → t ≡ along F s.y j → RowFits count t (to_z w32 (of_z w32 s.z))
  row {j} {t} l e =
      subst₂ (RowFits count) (sym (e ∙ words j)) (sym (at tt h.strides.zs).eq) (plane_row h j l)

pub loop-j-init : goal.loop-j-init
loop-j-init c =
    let a = c.args in (
      along_zero (to_z w32 (of_z w32 a.first)) a.strides.y,
      omega arith,
      λ f xs g e. e ∙ ap (λ (k : ℕ). fill_by f k xs) (none a.from a.count),
    )
  where
    none : (a b : ℕ) → a ≡ a + 0 * b
    none a b = omega arith

pub put_row-requires : goal.put_row-requires
put_row-requires c =
    let l = c.loop-j in
    let t = c.loop-j-test.true in
    (row c.requires.0 t l.invariant.0, omega (arith, l.invariant.1, l.auto.out, c.requires.1, mul-le-mul_right c.args.count t))

pub overflow_add-number : goal.overflow_add-number
overflow_add-number c =
    let l = c.loop-j in
    let h = c.requires.0 in
    fits tt (add (holds h l.auto.j-end l.invariant.0) (at tt h.strides.ys))

pub overflow_add-at : goal.overflow_add-at
overflow_add-at c =
    let l = c.loop-j in
    record {
      fits = omega (
        arith,
        l.invariant.1,
        l.auto.out,
        c.requires.1,
        mul-le-mul_right c.args.count c.loop-j-test.true,
      );
    }

pub loop-j-preserved : goal.loop-j-preserved
loop-j-preserved c =
    let l = c.loop-j in
    let a = c.args in
    let h = c.requires.0 in
    let t = c.loop-j-test.true in
    let r = c.put_row.ensures in (
      next h l.auto.j-end l.invariant.0,
      ap (λ (i : ℕ). i + a.count) l.invariant.1 ∙ further a.from l.j a.count,
      λ f xs g e.
          r.1 f xs
          (λ k m.
          ap (λ (i : ℕ). f (i + k)) l.invariant.1 ∙ g l.j k t m
          ∙ ap₂ (λ (u d : ℤ). up (along u d k)) (sym l.invariant.0) (sym (at tt h.strides.zs).eq))
          (l.invariant.2 f xs g e ∙ ap (λ (i : ℕ). fill_by f i xs) (sym l.invariant.1))
          ∙ ap (λ (i : ℕ). fill_by f i xs) (ap (λ (i : ℕ). i + a.count) l.invariant.1 ∙ further a.from l.j a.count),
    )
  where
    further : (a j b : ℕ) → a + j * b + b ≡ a + (j + 1) * b
    further a j b = omega arith

pub returns : goal.returns
returns c =
    let l = c.loop-j in
    let h = c.requires.0 in
    let e : l.j ≡ c.args.rows = omega (arith, l.auto.j-end, c.loop-j-test.false) in (
      l.auto.out,
      λ f xs g q.
          l.invariant.2 f xs (λ j k m w. g j k m w ∙ ap (λ (a : ℤ). up (along a c.args.strides.z k)) (sym (words h j))) q
          ∙ ap (λ (j : ℕ). fill_by f (c.args.from + j * c.args.count) xs) e,
    )
