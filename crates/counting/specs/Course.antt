-- The instances counted on: the first one, and the one after another. Assumes nothing.
use Rattle.std.specs.Prelude.{◌≡◌, refl, Bool, true, false, cond, ℕ, zero, suc, ◌+◌, ◌*◌, ◌≤◌, ◌<◌, T, length, get_or, ℤ, pos, negsuc}
use Rattle.std.specs.Prelude.{◌+ℤ◌, ◌*ℤ◌, ◌≤ℤ◌}
use Rattle.std.proofs.Common.{sym, ◌∙◌, ap, subst, mul-le-mul_right, add-one, arith}
use Rattle.std.proofs.Math.Decide.{dec_le}
use Rattle.std.specs.Int.Signed.{lt_z}
use Rattle.integers.specs.Differences.{gaps, parts}
use Rattle.integers.specs.Variables.{linear}
use Rattle.integers.specs.Words.{eq_z, eq_z→eq}
use Rattle.integers.specs.Vectors.{zero3, same3}
use Rattle.integers.specs.declared.V3.{V3}
use Rattle.meaning.specs.declared.Nest.{Nest}
use Rattle.meaning.specs.Loops.{size, instances}
use Rattle.meaning.specs.Points.{Direction, Direction.onward, Direction.back}
use Rattle.vectors.specs.Within.{Within}
use Rattle.geometry.specs.Numbers.{eq_eq_z}
use Rattle.geometry.specs.Instances.{progression_at}
use Rattle.numbering.specs.declared.Loop.{Loop}
use Rattle.numbering.specs.declared.Turns.{Turns}
use Rattle.counting.specs.declared.Course.{Course}
use Rattle.numbering.specs.Ranges.{Bounded, turns, values, outer_of, middle_of, inner_of, instance_small}
use Rattle.numbering.specs.Corners.{end_of, corner_of}
use Rattle.numbering.specs.Turns.{Turned, Turning, turns_of, turning, turned, point_after, instance_is, instances_length}

-- the values at which a loop begins and ends
abbrev first_value : Loop → ℤ
first_value l = end_of l.direction l.left l.right

abbrev last_value : Loop → ℤ
last_value l = end_of l.direction l.right l.left

-- the first and the last instance
abbrev pub first_point : Nest → V3
first_point n = corner_of n.direction n.left n.right

abbrev last_point : Nest → V3
last_point n = corner_of n.direction n.right n.left

abbrev pub course_of : Nest → Course
course_of n = record { first = first_point n; last = last_point n; direction = n.direction }

-- the innermost loop that is not at its end goes on by one, and those in it begin again
abbrev pub next_of : Course → V3 → V3
next_of c x =
    cond (eq_z x.z c.last.z)
    (cond (eq_z x.y c.last.y) (record { x = x.x +ℤ c.direction.x; y = c.first.y; z = c.first.z })
    (record { x = x.x; y = x.y +ℤ c.direction.y; z = c.first.z }))
    (record { x = x.x; y = x.y; z = x.z +ℤ c.direction.z })

-- the instance of a number, counted on from the first
unfoldable pub after : Course → ℕ → V3
after c zero = c.first
after c (suc k) = next_of c (after c k)

pub after_zero : (c : Course) → after c 0 ≡ c.first
unfolding after
after_zero c = refl

pub after_next : (c : Course) (k : ℕ) → after c (k + 1) ≡ next_of c (after c k)
unfolding after
after_next c k = ap (after c) (add-one k)

-- a course of small words
pub record Runs (c : Course) : Type 0 where
  pub first : Within 64 c.first
  pub last : Within 64 c.last
  pub direction : Within 1 c.direction

-- ---- one loop

abbrev value : Loop → ℕ → ℤ
value l i = get_or (values l) i (pos 0)

-- after i turns
pub value_at : (l : Loop) (i : ℕ) → i < turns l → value l i ≡ first_value l +ℤ pos i *ℤ l.direction
value_at l i h = progression_at (first_value l) l.direction (turns l) i (pos 0) h

module _ (l : Loop) (d : Direction l.direction) (o : l.left ≤ℤ l.right) where
  value_zero : 0 < turns l → value l 0 ≡ first_value l
  value_zero h = value_at l 0 h ∙ go (first_value l) l.direction
    where
      go : (a d : ℤ) → a +ℤ pos 0 *ℤ d ≡ a
      go = linear 0 2 _ λ p m. simp gaps (omega arith)

  value_next : (i : ℕ) → i + 1 < turns l → value l (i + 1) ≡ value l i +ℤ l.direction
  value_next i h =
      value_at l (i + 1) h ∙ go i (first_value l) l.direction ∙ ap (λ (z : ℤ). z +ℤ l.direction) (sym (value_at l i (omega arith)))
    where
      go : (i : ℕ) (a d : ℤ) → a +ℤ pos (i + 1) *ℤ d ≡ (a +ℤ pos i *ℤ d) +ℤ d
      go i = linear 0 2 _ λ p m. simp gaps (omega arith)

  -- it is at its end exactly after all turns but one
  value_last : (i : ℕ) → i < turns l → value l i ≡ last_value l → i + 1 ≡ turns l
  value_last i h e = go d l.left l.right o h (sym (value_at l i h) ∙ e)
    where
      up : (l r : ℤ) → l ≤ℤ r → i < size l r → l +ℤ pos i *ℤ pos 1 ≡ r → i + 1 ≡ size l r
      up = linear 0 2 _ λ p m. simp (gaps, parts) (omega arith)

      down : (l r : ℤ) → l ≤ℤ r → i < size l r → r +ℤ pos i *ℤ negsuc 0 ≡ l → i + 1 ≡ size l r
      down = linear 0 2 _ λ p m. simp (gaps, parts) (omega arith)

      go : {d : ℤ} → Direction d → (l r : ℤ) → l ≤ℤ r → i < size l r
          → cond (lt_z d (pos 0)) r l +ℤ pos i *ℤ d ≡ cond (lt_z d (pos 0)) l r → i + 1 ≡ size l r
      go onward = up
      go back = down

  value_end : (i : ℕ) → i + 1 ≡ turns l → value l i ≡ last_value l
  value_end i h = value_at l i (omega arith) ∙ go d l.left l.right o h
    where
      up : (l r : ℤ) → l ≤ℤ r → i + 1 ≡ size l r → l +ℤ pos i *ℤ pos 1 ≡ r
      up = linear 0 2 _ λ p m. simp (gaps, parts) (omega arith)

      down : (l r : ℤ) → l ≤ℤ r → i + 1 ≡ size l r → r +ℤ pos i *ℤ negsuc 0 ≡ l
      down = linear 0 2 _ λ p m. simp (gaps, parts) (omega arith)

      go : {d : ℤ} → Direction d → (l r : ℤ) → l ≤ℤ r → i + 1 ≡ size l r
          → cond (lt_z d (pos 0)) r l +ℤ pos i *ℤ d ≡ cond (lt_z d (pos 0)) l r
      go onward = up
      go back = down

  -- what a test of the end chooses, by the turns
  at_end : {A : Type 0} (P : A → Type 0) (i : ℕ) (u w : A) → i < turns l → (i + 1 ≡ turns l → P u) → (i + 1 < turns l → P w)
      → P (cond (eq_z (value l i) (last_value l)) u w)
  at_end P i u w h f g = go (eq_z (value l i) (last_value l)) refl
    where
      go : (b : Bool) → eq_z (value l i) (last_value l) ≡ b → P (cond b u w)
      go true e = f (value_last i h (eq_z→eq _ _ e))
      go false e = g (more (dec_le (turns l) (i + 1)))
        where
          more : Dec (turns l ≤ i + 1) → i + 1 < turns l
          more (yes k) = absurd (subst T e (eq_eq_z _ _ (value_end i (omega arith))))
          more (no k) = omega arith

-- ---- the nest

module _ {n : Nest} (h : Bounded n) where
  -- the first instance
  pub course_first : get_or (instances n) 0 zero3 ≡ (course_of n).first
  course_first =
      let t = turning n refl h in
      let u : Turns = record { outer = 0; middle = 0; inner = 0 } in
      sym (instance_is n 0 u (record { is = omega arith; outer = t.some_outer; middle = t.some_middle; inner = t.some_inner }))
      ∙ same3 (value_zero (outer_of n) h.directed.outer h.outer t.some_outer)
      (value_zero (middle_of n) h.directed.middle h.middle t.some_middle)
      (value_zero (inner_of n) h.directed.inner h.inner t.some_inner)

  -- the one after instance k
  course_next : (k : ℕ) → k + 1 < length (instances n)
      → next_of (course_of n) (get_or (instances n) k zero3) ≡ get_or (instances n) (k + 1) zero3
  course_next k l = go _ (turned n k refl h (omega arith))
    where
      go : (u : Turns) → Turned n k u → next_of (course_of n) (get_or (instances n) k zero3) ≡ get_or (instances n) (k + 1) zero3
      go u s = ap (next_of (course_of n)) (sym (instance_is n k u s)) ∙ next
        where
          t : Turns
          t = turns_of n

          some : Turning t
          some = turning n refl h

          x : V3
          x = point_after n u

          c : Course
          c = course_of n

          Is : V3 → Type 0
          Is v = v ≡ get_or (instances n) (k + 1) zero3

          inner : u.inner + 1 < t.inner → Is (record { x = x.x; y = x.y; z = x.z +ℤ c.direction.z })
          inner b =
              same3 refl refl (sym (value_next (inner_of n) h.directed.inner h.inner u.inner b))
              ∙ instance_is n (k + 1) (record { outer = u.outer; middle = u.middle; inner = u.inner + 1 })
              (record { is = omega (arith, s.is); outer = s.outer; middle = s.middle; inner = b })

          middle : u.inner + 1 ≡ t.inner → u.middle + 1 < t.middle → Is (record {
            x = x.x;
            y = x.y +ℤ c.direction.y;
            z = c.first.z;
          })
          middle e b =
              same3 refl (sym (value_next (middle_of n) h.directed.middle h.middle u.middle b))
              (sym (value_zero (inner_of n) h.directed.inner h.inner some.some_inner))
              ∙ instance_is n (k + 1) (record { outer = u.outer; middle = u.middle + 1; inner = 0 })
              (record { is = omega (arith, s.is, e); outer = s.outer; middle = b; inner = some.some_inner })

          outer : u.inner + 1 ≡ t.inner → u.middle + 1 ≡ t.middle → Is (record {
            x = x.x +ℤ c.direction.x;
            y = c.first.y;
            z = c.first.z;
          })
          outer e f =
              same3 (sym (value_next (outer_of n) h.directed.outer h.outer u.outer b))
              (sym (value_zero (middle_of n) h.directed.middle h.middle some.some_middle))
              (sym (value_zero (inner_of n) h.directed.inner h.inner some.some_inner))
              ∙ instance_is n (k + 1) (record { outer = u.outer + 1; middle = 0; inner = 0 })
              (record { is = omega (arith, s.is, e, whole); outer = b; middle = some.some_middle; inner = some.some_inner })
            where
              whole : (u.middle + 1) * t.inner ≡ t.middle * t.inner
              whole = ap (λ (m : ℕ). m * t.inner) f

              b : u.outer + 1 < t.outer
              b = before (dec_le t.outer (u.outer + 1))
                where
                  before : Dec (t.outer ≤ u.outer + 1) → u.outer + 1 < t.outer
                  before (yes m) = absurd (omega (arith, s.is, e, whole, instances_length n, mul-le-mul_right (t.middle * t.inner) m))
                  before (no m) = omega arith

          next : Is (next_of c x)
          next =
              at_end (inner_of n) h.directed.inner h.inner Is u.inner _ _ s.inner
              (λ e. at_end (middle_of n) h.directed.middle h.middle Is u.middle _ _ s.middle (outer e) (middle e)) inner

  -- so instance k
  after_is : (k : ℕ) → k < length (instances n) → after (course_of n) k ≡ get_or (instances n) k zero3
  after_is zero l = after_zero (course_of n) ∙ sym course_first
  after_is (suc k) l =
      let e : k + 1 ≡ suc k = add-one k in
      ap (after (course_of n)) (sym e) ∙ after_next (course_of n) k ∙ ap (next_of (course_of n)) (after_is k (omega arith))
      ∙ course_next k (omega arith) ∙ ap (λ (i : ℕ). get_or (instances n) i zero3) e

-- the instance that was counted on
module _ {n : Nest} {w : Course} {x : V3} {k : ℕ} (h : Bounded n) (e : w ≡ course_of n) (i : x ≡ after w k) (l : k < length (instances n))
  where
    pub reached : x ≡ get_or (instances n) k zero3
    reached = i ∙ ap (λ (w : Course). after w k) e ∙ after_is h k l

    pub reached_small : Within 64 x
    reached_small = subst (Within 64) (sym reached) (instance_small k h l)
