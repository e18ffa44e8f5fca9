-- Row order as numbers: `row_index` and the list of a box's points determine each other. Assumes nothing.
use Rattle.std.specs.Prelude.{◌≡◌, List, map, ℕ, ◌+◌, ◌*◌, ◌<◌, ℤ, pos, ◌+ℤ◌, ◌-ℤ◌, ◌*ℤ◌, ◌≤ℤ◌}
use Rattle.std.proofs.Common.{sym, ◌∙◌, subst, mul-le-mul_right, arith}
use Rattle.std.proofs.Math.Path.{ap}
use Rattle.std.proofs.Math.ListN.{length, get_or}
use Rattle.std.proofs.lemmas.List.{length-map}
use Rattle.integers.specs.Differences.{gaps, parts, up}
use Rattle.integers.specs.Variables.{linear}
use Rattle.integers.specs.Vectors.{zero2, same2}
use Rattle.integers.specs.declared.V2.{V2}
use Rattle.meaning.specs.Loops.{progression, size, loop}
use Rattle.meaning.specs.Space.{Box, points, row_index}
use Rattle.meaning.specs.Points.{Between, Inside}
use Rattle.meaning.specs.Sorted.{Sorted}
use Rattle.lists.specs.Members.{map_at, each_length, each_at}
use Rattle.lists.specs.Sums.{total_same}
use Rattle.geometry.specs.Places.{get_d_in, distinct_at, sorted_from}
use Rattle.geometry.specs.Instances.{progression_length, progression_at}
use Rattle.geometry.specs.Boxes.{row_distinct, points_inside, points_sorted}

-- a number between l and r is number x − l among them
in_size : (l r x : ℤ) → l ≤ℤ x → x ≤ℤ r → up (x -ℤ l) < size l r
in_size = linear 0 3 _ λ p m. simp (gaps, parts) (omega arith)

among : (l r x : ℤ) → Between l r x → get_or (progression l (pos 1) (size l r)) (up (x -ℤ l)) (pos 0) ≡ x
among l r x b = progression_at l (pos 1) (size l r) (up (x -ℤ l)) (pos 0) (in_size l r x b.lo b.hi) ∙ back l x b.lo
  where
    back : (l x : ℤ) → l ≤ℤ x → l +ℤ pos (up (x -ℤ l)) *ℤ pos 1 ≡ x
    back = linear 0 2 _ λ p m. simp (gaps, parts) (omega arith)

module _ (k : Box) where
  abbrev la : List ℤ
  la = loop k.lo.a k.hi.a (pos 1)

  abbrev lb : List ℤ
  lb = loop k.lo.b k.hi.b (pos 1)

  abbrev row : ℤ → List V2
  row i = map (λ j. record { a = i; b = j }) lb

  row_length : (i : ℤ) → length (row i) ≡ size k.lo.b k.hi.b
  row_length i = length-map lb (λ j. record { a = i; b = j }) ∙ progression_length k.lo.b (pos 1) (size k.lo.b k.hi.b)

  -- the number of a box's points
  pub points_length : length (points k) ≡ size k.lo.a k.hi.a * size k.lo.b k.hi.b
  unfolding points
  points_length =
      each_length row la ∙ total_same (λ i. length (row i)) (size k.lo.b k.hi.b) row_length la
      ∙ ap (λ (c : ℕ). c * size k.lo.b k.hi.b) (progression_length k.lo.a (pos 1) (size k.lo.a k.hi.a))

  -- a point stands at its number
  pub row_at_lem : (p : V2) (d : V2) → Inside k p → get_or (points k) (row_index k p) d ≡ p
  unfolding points
  row_at_lem p d h =
      let i = up (p.a -ℤ k.lo.a) in
      let j = up (p.b -ℤ k.lo.b) in
      let x = in_size k.lo.a k.hi.a p.a h.ina.lo h.ina.hi in
      let y = in_size k.lo.b k.hi.b p.b h.inb.lo h.inb.hi in
      each_at row (size k.lo.b k.hi.b) row_length la i j (pos 0) d
      (subst (λ (c : ℕ). i < c) (sym (progression_length k.lo.a (pos 1) (size k.lo.a k.hi.a))) x) y
      ∙ map_at (λ j. record { a = get_or la i (pos 0); b = j }) lb j (pos 0) d
      (subst (λ (c : ℕ). j < c) (sym (progression_length k.lo.b (pos 1) (size k.lo.b k.hi.b))) y)
      ∙ same2 (among k.lo.a k.hi.a p.a h.ina) (among k.lo.b k.hi.b p.b h.inb)

  pub row_lt : (p : V2) → Inside k p → row_index k p < length (points k)
  row_lt p h =
      subst (λ (c : ℕ). row_index k p < c) (sym points_length)
      (go _ _ _ _ (in_size k.lo.a k.hi.a p.a h.ina.lo h.ina.hi)
      (in_size k.lo.b k.hi.b p.b h.inb.lo h.inb.hi))
    where
      go : (i j a b : ℕ) → i < a → j < b → i * b + j < a * b
      go i j a b h k = omega (arith, mul-le-mul_right b h)

  -- and the number of what stands at i is i
  pub row_number : (i : ℕ) (d : V2) → i < length (points k) → row_index k (get_or (points k) i d) ≡ i
  row_number i d h =
      let w = points_inside k (get_or (points k) i d) (get_d_in (points k) i d h) in
      distinct_at (row_distinct (points_sorted k)) (row_index k (get_or (points k) i d)) i d (row_lt (get_or (points k) i d) w) h
      (row_at_lem (get_or (points k) i d) d w)

  -- so numbers rise in row order
  pub numbers_rise : Sorted (λ p q. row_index k p < row_index k q) (points k)
  numbers_rise =
      sorted_from (points k) zero2 λ i j h l.
      let a = row_number i zero2 (omega arith) in
      let b = row_number j zero2 l in omega arith
