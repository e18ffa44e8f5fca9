-- `untouched::untouched` meets its contract: the inner loop goes on where it stopped, with those passed marked. Assumes nothing.
use mathlib.Core.Path.{refl, sym, subst}
use mathlib.Core.Bool.{true}
use Prim.Native.Nat.{ℕ, ◌+◌, ◌<◌}
use native.Mathlib.Omega.{arith}
use lib.ListN.{set}
use Rattle.untouched.specs.Touched.{Misses, Misses.all_touched, Marked, touch_more, none_marked}
use Rattle.untouched.specs.Touched.{marked_on, not_marked, touched_on}
use Rattle.untouched.specs.Search.{number_on}
use Rattle.untouched.proofs.untouched.Goals as goal

pub elements-init : goal.elements-init
elements-init c =
    record {
      none = refl;
      passed = omega arith;
      marked = none_marked _ _ c.requires.clear;
      touched = λ i h. absurd (omega arith);
    }

pub bounds-marks-q : goal.bounds-marks-q
bounds-marks-q c = omega (arith, c.requires.few)

pub number_at-requires : goal.number_at-requires
number_at-requires c =
    c.requires.each c.loop-marks.k (omega (arith, c.loop-marks.invariant.passed, c.if-k-instances.false))

pub bounds-marks-number_at : goal.bounds-marks-number_at
bounds-marks-number_at c =
    let l = c.loop-marks in
    let b = c.requires.below l.k (omega (arith, l.invariant.passed, c.if-k-instances.false)) in
    omega (arith, c.number_at.ensures, b, c.requires.few)

pub loop-marks-preserved : goal.loop-marks-preserved
loop-marks-preserved c =
    let l = c.loop-marks in
    let f = number_on c.args.f c.args.walk.now in
    let b = c.requires.below l.k (omega (arith, l.invariant.passed, c.if-k-instances.false)) in
    record {
      none = l.invariant.none;
      passed = omega (arith, l.invariant.passed, c.if-k-instances.false);
      marked =
          subst (λ (r : ℕ). Marked f (l.k + 1) c.args.elements (set l.marks r true)) (sym c.number_at.ensures)
          (marked_on f l.invariant.marked (omega (arith, b, c.requires.few)));
    }

pub elements-preserved : goal.elements-preserved
elements-preserved c =
    let l = c.loop-marks in
    let f = number_on c.args.f c.args.walk.now in
    let q = c.elements.q in
    let h : q < c.args.elements = omega arith in
    record {
      none = l.invariant.none;
      passed = l.invariant.passed;
      marked = l.invariant.marked;
      touched =
          touched_on f c.elements.invariant.touched
          (touch_more f l.invariant.passed (l.invariant.marked.sound q h c.loop-marks-test.false));
    }

pub returns-after-elements : goal.returns-after-elements
returns-after-elements c =
    let e = c.elements in
    let f = number_on c.args.f c.args.walk.now in
    subst (Misses f c.args.instances c.args.elements) (sym e.invariant.none) (all_touched (λ i h. e.invariant.touched i (omega arith)))

pub returns-then-k-instances : goal.returns-then-k-instances
returns-then-k-instances c =
    let l = c.loop-marks in
    let f = number_on c.args.f c.args.walk.now in
    let h : c.elements.q < c.args.elements = omega arith in
    not_marked f (subst (λ (k : ℕ). Marked f k c.args.elements l.marks) c.if-k-instances.true l.invariant.marked) h
    c.loop-marks-test.true
