-- `counting::fill_numbers` meets its contract: plane by plane, each begins a stride of the outermost loop on. Assumes nothing.
use mathlib.Core.Path.{◌≡◌, sym, ◌∙◌, ap, subst, subst₂}
use Prim.Native.Nat.{ℕ, ◌+◌, ◌*◌}
use native.Mathlib.Nat.{mul-le-mul_right}
use native.Mathlib.Omega.{arith}
use lib.IntN.{ℤ}
use mir.Syntax.{w32}
use mir.Val.{to_z}
use Rattle.integers.specs.Differences.{Abs}
use Rattle.integers.specs.Words.{Holds, at, leaf, box, add, fits}
use Rattle.integers.specs.Fill.{fill_by, fill_zero}
use Rattle.integers.specs.Vectors.{zero3, image}
use Rattle.meaning.specs.Loops.{instances}
use Rattle.meaning.specs.Space.{row_index, box_of}
use Rattle.vectors.specs.Within.{wider, directions_small}
use Rattle.numbering.specs.Turns.{turning, plane_most, all_most}
use Rattle.numbering.specs.Extents.{Spanning, box_spanning}
use Rattle.counting.specs.Forms.{Numbers}
use Rattle.lists.specs.Fills.{fill_list}
use Rattle.counting.specs.Strides.{along_zero, along_next, PlaneFits, AgreesAll, number_at, counted_by, form_words}
use Rattle.counting.specs.Strides.{start_ready, start_word}
use Rattle.counting.proofs.fill_numbers.Goals as goal

-- a word that holds a small number
reading : {t z : ℤ} → t ≡ z → Abs z 3500000 → Holds t z 3500000
reading {z} e h = subst (λ (t : ℤ). Holds t z 3500000) (sym e) (leaf h)

further : (i a : ℕ) → i * a + a ≡ (i + 1) * a
further i a = omega arith

pub form_of-form-requires : goal.form_of-form-requires
form_of-form-requires c =
    let p = c.requires in (p.rows, subst Spanning (sym p.box) (box_spanning p.bounded p.rows))

pub corner-first-requires : goal.corner-first-requires
corner-first-requires c =
    let p = c.requires.bounded in
    (wider tt (directions_small p.directed), p.left, p.right)

pub strides_of-strides-requires : goal.strides_of-strides-requires
strides_of-strides-requires c =
    let p = c.requires in (
      form_words p.bounded p.rows p.box c.form_of-form.ensures,
      directions_small p.bounded.directed,
    )

pub overflow_mul-plane : goal.overflow_mul-plane
overflow_mul-plane c =
    record {
      fits = omega (
        arith,
        plane_most (turning _ c.turns_of-turns.ensures c.requires.bounded),
      );
    }

pub overflow_cast-plane : goal.overflow_cast-plane
overflow_cast-plane c =
    record {
      fits = omega (
        arith,
        plane_most (turning _ c.turns_of-turns.ensures c.requires.bounded),
      );
    }

pub number_by-number-requires : goal.number_by-number-requires
number_by-number-requires c =
    let p = c.requires in
    subst (Numbers c.form_of-form.result) (sym c.corner-first.ensures.0)
    (start_ready p.bounded p.rows p.box c.form_of-form.ensures)

pub overflow_cast-number : goal.overflow_cast-number
overflow_cast-number c =
    let p = c.requires in
    let w = start_word p.bounded p.rows p.box c.form_of-form.ensures c.corner-first.ensures.0 c.number_by-number.ensures in
    record { sfits = omega (arith, w.0) }

pub loop-i-init : goal.loop-i-init
loop-i-init c =
    let t = c.turns_of-turns.result in
    (along_zero _ c.strides_of-strides.result.x, none (t.middle * t.inner), λ f g. sym (fill_zero f _))
  where
    none : (a : ℕ) → 0 ≡ 0 * a
    none a = omega arith

pub put_plane-requires : goal.put_plane-requires
put_plane-requires c =
    let l = c.loop-i in
    let k = (counted_by c.requires.bounded c.requires.rows c.requires.box c.form_of-form.ensures c.turns_of-turns.ensures
    c.strides_of-strides.ensures.0
    (start_word c.requires.bounded c.requires.rows c.requires.box c.form_of-form.ensures c.corner-first.ensures.0
    c.number_by-number.ensures).1
    c.strides_of-strides.ensures.1) in
    let t = c.turns_of-turns.result in
    let h = c.loop-i-test.true in (
      subst (λ (z : ℤ). PlaneFits t.middle t.inner z c.strides_of-strides.result) (sym l.invariant.0) (k.fits l.i h),
      omega (
        arith,
        l.invariant.1,
        l.auto.out,
        k.whole,
        c.requires.room,
        mul-le-mul_right (t.middle * t.inner) h,
      ),
    )

pub overflow_add-number : goal.overflow_add-number
overflow_add-number c =
    let l = c.loop-i in
    fits tt (add (reading l.invariant.0
    ((counted_by c.requires.bounded c.requires.rows c.requires.box c.form_of-form.ensures c.turns_of-turns.ensures
    c.strides_of-strides.ensures.0
    (start_word c.requires.bounded c.requires.rows c.requires.box c.form_of-form.ensures c.corner-first.ensures.0
    c.number_by-number.ensures).1
    c.strides_of-strides.ensures.1).small l.i l.auto.i-end)) (at tt c.strides_of-strides.ensures.1.xs))

pub overflow_add-at : goal.overflow_add-at
overflow_add-at c =
    let t = c.turns_of-turns in
    record {
      fits = omega (
        arith,
        c.loop-i.invariant.1,
        all_most (turning _ t.ensures c.requires.bounded),
        mul-le-mul_right (t.result.middle * t.result.inner) c.loop-i-test.true,
      );
    }

pub loop-i-preserved : goal.loop-i-preserved
loop-i-preserved c =
    let l = c.loop-i in
    let s = c.strides_of-strides in
    let t = c.turns_of-turns.result in
    let h = c.loop-i-test.true in
    let r = c.put_plane.ensures in (
      (box tt (add (reading l.invariant.0
          ((counted_by c.requires.bounded c.requires.rows c.requires.box c.form_of-form.ensures c.turns_of-turns.ensures
          c.strides_of-strides.ensures.0
          (start_word c.requires.bounded c.requires.rows c.requires.box c.form_of-form.ensures c.corner-first.ensures.0
          c.number_by-number.ensures).1
          c.strides_of-strides.ensures.1).small l.i l.auto.i-end)) (at tt s.ensures.1.xs))).eq
          ∙ along_next l.i (to_z w32 c.number_by-number.result) s.result.x,
      ap (λ (a : ℕ). a + t.middle * t.inner) l.invariant.1 ∙ further l.i (t.middle * t.inner),
      λ f g.
          r.1 f c.args.out.now
          (subst₂ (λ (a : ℕ) (z : ℤ). AgreesAll f a t.middle t.inner z s.result) (sym l.invariant.1) (sym l.invariant.0)
          (g l.i h))
          (l.invariant.2 f g),
    )

pub returns : goal.returns
returns c =
    let l = c.loop-i in
    let a = c.args in
    let k = (counted_by c.requires.bounded c.requires.rows c.requires.box c.form_of-form.ensures c.turns_of-turns.ensures
    c.strides_of-strides.ensures.0
    (start_word c.requires.bounded c.requires.rows c.requires.box c.form_of-form.ensures c.corner-first.ensures.0
    c.number_by-number.ensures).1
    c.strides_of-strides.ensures.1) in
    let t = c.turns_of-turns.result in
    let e : l.i ≡ t.outer = omega (arith, l.auto.i-end, c.loop-i-test.false) in
    l.invariant.2 (number_at a.n a.m) k.agrees
    ∙ ap (λ (k : ℕ). fill_by (number_at a.n a.m) k a.out.now)
    (l.invariant.1 ∙ ap (λ (i : ℕ). i * (t.middle * t.inner)) e ∙ sym k.whole)
    ∙ fill_list (λ x. row_index (box_of a.n a.m) (image a.m x)) (instances a.n) zero3 0 _ c.requires.room
