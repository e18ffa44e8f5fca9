-- `counting::put_row` meets its contract: after k turns the number is k strides on. Assumes nothing.
use mathlib.Core.Path.{◌≡◌, sym, ◌∙◌, ap, ap₂, subst}
use mathlib.Core.List.{List}
use Prim.Native.Nat.{ℕ, ◌+◌, ◌≤◌, ◌<◌}
use native.Mathlib.Nat.{add-zero}
use native.Mathlib.Omega.{arith}
use lib.IntN.{ℤ, nat_abs, pos, ◌+ℤ◌}
use lib.ListN.{set}
use lib.Signed.{◌≤ℤ◌}
use mir.Syntax.{w32}
use mir.Val.{to_z, of_z}
use Rattle.integers.specs.Differences.{up}
use Rattle.integers.specs.Fill.{fill_by, fill_step}
use Rattle.integers.specs.Words.{Holds, at, leaf, box, add, fits, cast_of}
use Rattle.geometry.specs.Numbers.{up_abs}
use Rattle.counting.specs.Strides.{along, along_zero, along_next, RowFits, row_small}
use Rattle.counting.proofs.put_row.Goals as goal

one_more : (a k : ℕ) → a + (k + 1) ≡ a + k + 1
one_more a k = omega arith

-- the words of first and stride, and of the number after k turns
module _ {count : ℕ} {first stride : ℤ} (h : RowFits count first stride) where
  abbrev F : ℤ
  F = to_z w32 (of_z w32 first)

  abbrev S : ℤ
  S = to_z w32 (of_z w32 stride)

  words : (k : ℕ) → along F S k ≡ along first stride k
  words k = ap₂ (λ (a d : ℤ). along a d k) (at tt h.begins).eq (at tt h.small).eq

  holds : {k : ℕ} {t : ℤ} → k ≤ count → t ≡ along F S k → Holds t (along first stride k) 5400000
  holds {k} {t} l e = subst (λ (t : ℤ). Holds t (along first stride k) 5400000) (sym (e ∙ words k)) (leaf (row_small h l))

  next : {k : ℕ} {t : ℤ} → k ≤ count → t ≡ along F S k → to_z w32 (of_z w32 (t +ℤ S)) ≡ along F S (k + 1)
  next {k} l e = (box tt (add (holds l e) (at tt h.small))).eq ∙ along_next k first stride ∙ sym (words (k + 1))

  number : {k : ℕ} {t : ℤ} → k < count → t ≡ along F S k → nat_abs t ≡ up (along F S k)
  number {k} l e = ap nat_abs e ∙ up_abs (along F S k) (subst (λ (z : ℤ). pos 0 ≤ℤ z) (sym (words k)) (h.some k l))

pub loop-k-init : goal.loop-k-init
loop-k-init c =
    let a = c.args in (
      along_zero (to_z w32 (of_z w32 a.first)) (to_z w32 (of_z w32 a.stride)),
      λ f xs g e. e ∙ ap (λ (k : ℕ). fill_by f k xs) (sym (add-zero a.from)),
    )

pub overflow_cast-out : goal.overflow_cast-out
overflow_cast-out c =
    let l = c.loop-k in
    let h = c.requires.0 in
    cast_of tt (holds h l.auto.k-end l.invariant.0) (h.some l.k c.loop-k-test.true)

pub overflow_add-number : goal.overflow_add-number
overflow_add-number c =
    let l = c.loop-k in
    let h = c.requires.0 in fits tt (add (holds h l.auto.k-end l.invariant.0) (at tt h.small))

pub loop-k-preserved : goal.loop-k-preserved
loop-k-preserved c =
    let l = c.loop-k in
    let h = c.requires.0 in
    let t = c.loop-k-test.true in (
      next h l.auto.k-end l.invariant.0,
      λ f xs g e.
          ap₂ (λ (m : List ℕ) (v : ℕ). set m (c.args.from + l.k) v) (l.invariant.1 f xs g e)
          (number h t l.invariant.0 ∙ sym (g l.k t))
          ∙ sym (fill_step f (c.args.from + l.k) xs)
          ∙ ap (λ (k : ℕ). fill_by f k xs) (sym (one_more c.args.from l.k)),
    )

pub returns : goal.returns
returns c =
    let l = c.loop-k in
    let h = c.requires.0 in
    let e : l.k ≡ c.args.count = omega (arith, l.auto.k-end, c.loop-k-test.false) in (
      l.auto.out,
      λ f xs g q.
          l.invariant.1 f xs (λ k m. g k m ∙ ap up (sym (words h k))) q ∙ ap (λ (k : ℕ). fill_by f (c.args.from + k) xs) e,
    )
