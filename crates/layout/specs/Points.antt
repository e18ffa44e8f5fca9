-- The point of a row number. Assumes nothing.
use Rattle.std.specs.Prelude.{◌≡◌, refl, Bool, true, false, cond, ℕ, ◌+◌, ◌*◌, ◌/◌, ◌%◌, ◌≤◌, ◌<◌, length, get_or, ℤ, pos, ◌+ℤ◌, ◌-ℤ◌, ◌≤ℤ◌}
use Rattle.std.proofs.Common.{sym, ◌∙◌, ap, ap₂, subst, true≢false, div-add-mod', mod-lt, div-lt_iff_lt-mul, mul-le-mul_right, arith}
use Rattle.std.proofs.Math.Decide.{dec_le}
use Rattle.std.specs.Int.Signed.{≤ℤ_refl}
use Rattle.integers.specs.Differences.{Abs, gaps, parts, up}
use Rattle.integers.specs.Variables.{linear}
use Rattle.integers.specs.Words.{eq_z, eq_z→eq}
use Rattle.integers.specs.Vectors.{zero2}
use Rattle.integers.specs.declared.V2.{V2}
use Rattle.meaning.specs.Loops.{size}
use Rattle.meaning.specs.Space.{Box, points, row_index}
use Rattle.meaning.specs.Points.{Inside}
use Rattle.lists.specs.Tests.{is_true}
use Rattle.geometry.specs.Numbers.{eq_eq_z}
use Rattle.geometry.specs.Places.{get_d_in}
use Rattle.geometry.specs.Boxes.{points_inside}
use Rattle.geometry.specs.RowOrder.{points_length, row_at_lem, row_number}
use Rattle.numbering.specs.Ranges.{size_some, Apart}
use Rattle.numbering.specs.Extents.{Spanning}

-- so far on from the least corner
abbrev pub from_corner : Box → ℕ → ℕ → V2
from_corner k i j = record { a = k.lo.a +ℤ pos i; b = k.lo.b +ℤ pos j }

up_corner : (i : ℕ) (a : ℤ) → up ((a +ℤ pos i) -ℤ a) ≡ i
up_corner i = linear 0 1 _ λ p m. simp (gaps, parts) (omega arith)

from_in : (i : ℕ) (l r : ℤ) → i < size l r → (l ≤ℤ (l +ℤ pos i)) × ((l +ℤ pos i) ≤ℤ r)
from_in i = linear 0 2 _ λ p m. simp (gaps, parts) (λ h. (omega arith, omega arith))

apart_size : {a b : ℤ} → Apart a b → size a b ≤ 1537
apart_size {a} {b} h = go a b h.low h.high h.ordered
  where
    go : (a b : ℤ) → Abs a 768 → Abs b 768 → a ≤ℤ b → size a b ≤ 1537
    go = linear 0 2 _ λ p m. simp (gaps, parts) (omega arith)

module _ {k : Box} (s : Spanning k) where
  abbrev columns : ℕ
  columns = size k.lo.b k.hi.b

  some : 0 < columns
  some = size_some k.lo.b k.hi.b s.second.ordered

  rows : (p : ℕ) → p < length (points k) → p / columns < size k.lo.a k.hi.a
  rows p h = (div-lt_iff_lt-mul some).1 (omega (arith, points_length k))

  -- its row and its column are small
  pub row_small : {m : ℕ} (p : ℕ) → m ≡ columns → p < length (points k) → p / m ≤ 1536
  row_small p e h = rw e (omega (arith, rows p h, apart_size s.first))

  pub column_small : {m : ℕ} (p : ℕ) → m ≡ columns → p % m ≤ 1536
  column_small p e = rw e (omega (arith, mod-lt p some, apart_size s.second))

  pub point_is : {m : ℕ} (p : ℕ) → m ≡ columns → p < length (points k) → from_corner k (p / m) (p % m) ≡ get_or (points k) p zero2
  point_is p e h =
      ap (λ (m : ℕ). from_corner k (p / m) (p % m)) e ∙ sym (row_at_lem k q zero2 inside) ∙ ap (λ (i : ℕ). get_or (points k) i zero2)
      (ap₂ (λ (i j : ℕ). i * columns + j) (up_corner (p / columns) k.lo.a) (up_corner (p % columns) k.lo.b)
      ∙ div-add-mod' p columns)
    where
      q : V2
      q = from_corner k (p / columns) (p % columns)

      inside : Inside k q
      inside =
          let a = from_in (p / columns) k.lo.a k.hi.a (rows p h) in
          let b = from_in (p % columns) k.lo.b k.hi.b (mod-lt p some) in
          record { ina = record { lo = a.0; hi = a.1 }; inb = record { lo = b.0; hi = b.1 } }

-- ---- from one point to the next

-- a column on, or in the next row the first
abbrev pub next_point : Box → V2 → V2
next_point k y =
    cond (eq_z y.b k.hi.b) (record { a = y.a +ℤ pos 1; b = k.lo.b }) (record { a = y.a; b = y.b +ℤ pos 1 })

up_next : (l z : ℤ) → l ≤ℤ z → up ((z +ℤ pos 1) -ℤ l) ≡ up (z -ℤ l) + 1
up_next = linear 0 2 _ λ p m. simp (gaps, parts) (omega arith)

up_last : (l r : ℤ) → l ≤ℤ r → up (r -ℤ l) + 1 ≡ size l r
up_last = linear 0 2 _ λ p m. simp (gaps, parts) (omega arith)

up_first : (l : ℤ) → up (l -ℤ l) ≡ 0
up_first = linear 0 1 _ λ p m. simp (gaps, parts) (omega arith)

step_in : (l z : ℤ) → l ≤ℤ z → (l ≤ℤ (z +ℤ pos 1))
step_in = linear 0 2 _ λ p m. simp gaps (omega arith)

not_last : (z r : ℤ) → z ≤ℤ r → (z ≡ r → ⊥) → (z +ℤ pos 1) ≤ℤ r
not_last = linear 0 2 _ λ p m. simp gaps (omega arith)

still_in : (l z r : ℤ) → l ≤ℤ z → up (z -ℤ l) + 1 < size l r → (z +ℤ pos 1) ≤ℤ r
still_in = linear 0 3 _ λ p m. simp (gaps, parts) (omega arith)

module _ {k : Box} (s : Spanning k) where
  abbrev width : ℕ
  width = size k.lo.b k.hi.b

  pub first_point_lem : 0 < length (points k) → k.lo ≡ get_or (points k) 0 zero2
  first_point_lem h =
      let z : 0 * width + 0 ≡ 0 = omega arith in
      sym (row_at_lem k k.lo zero2 inside)
      ∙ ap (λ (i : ℕ). get_or (points k) i zero2) (ap₂ (λ (i j : ℕ). i * width + j) (up_first k.lo.a) (up_first k.lo.b) ∙ z)
    where
      inside : Inside k k.lo
      inside =
          record {
            ina = record { lo = ≤ℤ_refl k.lo.a; hi = s.first.ordered };
            inb = record { lo = ≤ℤ_refl k.lo.b; hi = s.second.ordered };
          }

  module _ (p : ℕ) (l : p + 1 < length (points k)) {y : V2} (e : y ≡ get_or (points k) p zero2) where
    inside : Inside k y
    inside = subst (Inside k) (sym e) (points_inside k _ (get_d_in (points k) p zero2 (omega arith)))

    number : row_index k y ≡ p
    number = ap (row_index k) e ∙ row_number k p zero2 (omega arith)

    on : (q : V2) → Inside k q → row_index k q ≡ p + 1 → q ≡ get_or (points k) (p + 1) zero2
    on q i n = sym (row_at_lem k q zero2 i) ∙ ap (λ (j : ℕ). get_or (points k) j zero2) n

    pub points_next : next_point k y ≡ get_or (points k) (p + 1) zero2
    points_next = go (eq_z y.b k.hi.b) refl
      where
        go : (b : Bool) → eq_z y.b k.hi.b ≡ b
            → cond b (record { a = y.a +ℤ pos 1; b = k.lo.b }) (record { a = y.a; b = y.b +ℤ pos 1 }) ≡ get_or (points k) (p + 1) zero2
        go true q =
            on _
            (record {
              ina = record { lo = step_in _ _ inside.ina.lo; hi = still_in _ _ _ inside.ina.lo rows_left };
              inb = record { lo = ≤ℤ_refl k.lo.b; hi = s.second.ordered };
            }) (ap₂ (λ (i j : ℕ). i * width + j) (up_next _ _ inside.ina.lo) (up_first k.lo.b) ∙ omega (arith, number, full))
          where
            row : ℕ
            row = up (y.a -ℤ k.lo.a)

            full : up (y.b -ℤ k.lo.b) + 1 ≡ width
            full = ap (λ (z : ℤ). up (z -ℤ k.lo.b) + 1) (eq_z→eq y.b k.hi.b q) ∙ up_last _ _ s.second.ordered

            rows_left : row + 1 < size k.lo.a k.hi.a
            rows_left = at_most (dec_le (size k.lo.a k.hi.a) (row + 1))
              where
                at_most : Dec (size k.lo.a k.hi.a ≤ row + 1) → row + 1 < size k.lo.a k.hi.a
                at_most (yes h) = absurd (omega (arith, mul-le-mul_right width h, points_length k, number, full, l))
                at_most (no h) = omega arith
        go false q =
            on _
            (record {
              ina = inside.ina;
              inb = record {
                lo = step_in _ _ inside.inb.lo;
                hi = not_last _ _ inside.inb.hi (λ z. true≢false (sym (eq_eq_z' z) ∙ q));
              };
            }) (ap (λ (j : ℕ). up (y.a -ℤ k.lo.a) * width + j) (up_next _ _ inside.inb.lo) ∙ omega (arith, number))
          where
            eq_eq_z' : y.b ≡ k.hi.b → eq_z y.b k.hi.b ≡ true
            eq_eq_z' z = is_true _ (eq_eq_z y.b k.hi.b z)
