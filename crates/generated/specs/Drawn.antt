-- Words drawn: each is in its range, and each word of its range is drawn. Assumes nothing.
use Rattle.std.specs.Prelude.{◌≡◌, refl, ◌⊎◌, Bool, true, false, cond, ◌||◌, ℕ, suc, ◌+◌, ◌*◌, ◌-◌, ◌%◌, ◌≤◌, ◌<◌, T, eqb, ltb, ℤ, pos}
use Rattle.std.specs.Prelude.{negsuc, nat_abs, ◌+ℤ◌, ◌-ℤ◌, ◌≤ℤ◌}
use Rattle.std.proofs.Common.{sym, ◌∙◌, ap, subst, true≢false, mod-lt, zero-lt-suc, mod-eq_of_lt, add-zero, arith}
use Rattle.std.proofs.Math.Nat.{add-mod_left, mul-add-mod_self_right}
use Rattle.std.specs.Int.Signed.{le_z}
use Rattle.integers.specs.Differences.{gaps, parts, Abs}
use Rattle.integers.specs.Variables.{linear}
use Rattle.integers.specs.Words.{eq_z, eq_z→eq}
use Rattle.meaning.specs.declared.Range.{Range}
use Rattle.meaning.specs.declared.Sizes.{Sizes}
use Rattle.meaning.specs.Operations.{last_operation}
use Rattle.meaning.specs.Guards.{last_comparison}
use Rattle.meaning.specs.Description.{direction_at, step_at, place_at, loading_at, line_words, line_at, ◌to◌, within, range_at}
use Rattle.meaning.specs.Description.{is_direction, in_range}
use Rattle.meaning.specs.Ranges.{direction, no_direction}
use Rattle.meaning.specs.Conditions.{SizesFit}
use Rattle.meaning.specs.Generator.{size_of, drawn_from, drawn_direction, drawn}
use Rattle.meaning.specs.GeneratedLoad.{Seed}
use Rattle.lists.specs.Tests.{both_true, true_both, is_true}

-- ---- the ranges there are

either : (P : Range → Type 0) (b : Bool) {r s : Range} → P r → P s → P (cond b r s)
either P true p q = p
either P false p q = q

-- what holds of each of them holds of the range of every word
each_range : (P : Range → Type 0) (z : Sizes) → P (negsuc 63 to pos 64) → P (negsuc 7 to pos 8) → P (negsuc 3 to pos 4)
    → P (negsuc 0 to pos 1) → P (pos 0 to pos last_operation) → P (pos 0 to pos (suc z.streams)) → P (pos 0 to pos (z.loops - 1))
    → P (pos 0 to pos last_comparison) → (k : ℕ) → P (range_at z k)
each_range P z bound step matrix loading operation operand index comparison k =
    let j = (k - line_at z 0) % line_words in
    either P (ltb k (direction_at z)) bound
    (either P (ltb k (place_at z)) step
    (either P (ltb k (loading_at z 0)) matrix
    (either P (ltb k (line_at z 0)) loading
    (either P (eqb j 0) operation
    (either P (ltb j 4) operand
    (either P (eqb j 4) index
    (either P (eqb j 5) comparison bound)))))))

-- its least is not above its greatest
pub ordered : (z : Sizes) (k : ℕ) → (range_at z k).least ≤ℤ (range_at z k).greatest
ordered z =
    each_range (λ r. r.least ≤ℤ r.greatest) z (record { le = tt }) (record { le = tt }) (record { le = tt }) (record { le = tt })
    (record { le = tt }) (from_zero (suc z.streams)) (from_zero (z.loops - 1)) (record { le = tt })
  where
    from_zero : (n : ℕ) → pos 0 ≤ℤ pos n
    from_zero n = simp gaps (omega arith)

-- and it has at most 129 words
few : (z : Sizes) → SizesFit z → (k : ℕ) → size_of (range_at z k) ≤ 129
few z f =
    each_range (λ r. size_of r ≤ 129) z (omega arith) (omega arith) (omega arith) (omega arith) (omega arith)
    (omega (arith, counted (suc z.streams), f.streams.1)) (omega (arith, counted (z.loops - 1), f.loops.1)) (omega arith)
  where
    counted : (n : ℕ) → nat_abs (pos n -ℤ pos 0) ≡ n
    counted n = add-zero n

-- from −64 to 64
pub near : (z : Sizes) → SizesFit z → (k : ℕ) → Abs (range_at z k).least 64 × Abs (range_at z k).greatest 64
near z f =
    each_range (λ r. Abs r.least 64 × Abs r.greatest 64) z (both (omega arith) (omega arith)) (both (omega arith) (omega arith))
    (both (omega arith) (omega arith)) (both (omega arith) (omega arith)) (both (omega arith) (omega arith))
    (both (omega arith) (omega (arith, f.streams.1))) (both (omega arith) (omega (arith, f.loops.1))) (both (omega arith) (omega arith))
  where
    both : {l g : ℤ} → nat_abs l ≤ 64 → nat_abs g ≤ 64 → Abs l 64 × Abs g 64
    both h k = (record { abs = h }, record { abs = k })

-- ---- from a range

upward : (l : ℤ) (n : ℕ) → l ≤ℤ (l +ℤ pos n)
upward = linear 0 1 _ λ p m n. simp gaps (omega arith)

not_above : (l g : ℤ) (n : ℕ) → l ≤ℤ g → n < suc (nat_abs (g -ℤ l)) → (l +ℤ pos n) ≤ℤ g
not_above = linear 0 2 _ λ p m n. simp (gaps, parts) (omega arith)

nearer : (l g w : ℤ) → l ≤ℤ w → w ≤ℤ g → nat_abs (w -ℤ l) < suc (nat_abs (g -ℤ l))
nearer = linear 0 3 _ λ p m. simp (gaps, parts) (omega arith)

within_near : (l g w : ℤ) → Abs l 64 → Abs g 64 → l ≤ℤ w → w ≤ℤ g → Abs w 64
within_near = linear 0 3 _ λ p m. simp (gaps, parts) (omega arith)

there : (l w : ℤ) → l ≤ℤ w → l +ℤ pos (nat_abs (w -ℤ l)) ≡ w
there = linear 0 2 _ λ p m. simp (gaps, parts) (omega arith)

module _ (r : Range) where
  from_between : (x : ℕ) → r.least ≤ℤ r.greatest → (r.least ≤ℤ drawn_from r x) × (drawn_from r x ≤ℤ r.greatest)
  from_between x h =
      let m = mod-lt x (zero-lt-suc (nat_abs (r.greatest -ℤ r.least))) in
      (upward r.least (x % size_of r), not_above r.least r.greatest (x % size_of r) h m)

  from_within : (x : ℕ) → r.least ≤ℤ r.greatest → within r (drawn_from r x) ≡ true
  from_within x h =
      let b = from_between x h in
      true_both (is_true (le_z r.least (drawn_from r x)) b.0.le) (is_true (le_z (drawn_from r x) r.greatest) b.1.le)

  -- by the range's size and how far the word is from the least
  from_all : (w : ℤ) → within r w ≡ true → size_of r ≤ 129 → (x : ℕ) × Seed x × (drawn_from r x ≡ w)
  from_all w e h =
      let b = both_true (le_z r.least w) (le_z w r.greatest) e in
      let l : r.least ≤ℤ w = record { le = subst T (sym b.0) tt } in
      let g : w ≤ℤ r.greatest = record { le = subst T (sym b.1) tt } in
      let d : ℕ = nat_abs (w -ℤ r.least) in
      let n = nearer r.least r.greatest w l g in (
        size_of r + d,
        record { word = omega arith; not_zero = λ z. omega arith },
        ap (λ (n : ℕ). r.least +ℤ pos n) (add-mod_left (size_of r) d ∙ mod-eq_of_lt n) ∙ there r.least w l,
      )

-- ---- directions

direction_within : (x : ℕ) → (eq_z (drawn_direction x) (pos 1) || eq_z (drawn_direction x) (negsuc 0)) ≡ true
direction_within x = go (eqb (x % 2) 0)
  where
    go : (b : Bool) → (eq_z (cond b (negsuc 0) (pos 1)) (pos 1) || eq_z (cond b (negsuc 0) (pos 1)) (negsuc 0)) ≡ true
    go true = refl
    go false = refl

direction_all : (w : ℤ) → (eq_z w (pos 1) || eq_z w (negsuc 0)) ≡ true → (x : ℕ) × Seed x × (drawn_direction x ≡ w)
direction_all w e = go (eq_z w (pos 1)) (eq_z w (negsuc 0)) (eq_z→eq w (pos 1)) (eq_z→eq w (negsuc 0)) e
  where
    go : (a b : Bool) → (a ≡ true → w ≡ pos 1) → (b ≡ true → w ≡ negsuc 0) → (a || b) ≡ true → (x : ℕ) × Seed x × (drawn_direction x ≡ w)
    go true b f g e = (1, record { word = omega arith; not_zero = λ z. omega arith }, sym (f refl))
    go false true f g e = (2, record { word = omega arith; not_zero = λ z. omega arith }, sym (g refl))
    go false false f g e = absurd (true≢false (sym e))

-- ---- word k

module _ (z : Sizes) (k : ℕ) where
  -- a direction by the lowest bit
  pub direction_even : direction_at z ≤ k → k < step_at z → (x : ℕ) → x % 2 ≡ 0 → drawn z k x ≡ negsuc 0
  direction_even a b x e = rw (direction z k a b, e) refl

  pub direction_odd : direction_at z ≤ k → k < step_at z → (x : ℕ) → x % 2 ≡ 1 → drawn z k x ≡ pos 1
  direction_odd a b x e = rw (direction z k a b, e) refl

  -- another word by the remainder
  pub drawn_remainder : (k < direction_at z) ⊎ (step_at z ≤ k) → (x q m : ℕ) → m < size_of (range_at z k)
      → x ≡ q * size_of (range_at z k) + m
      → drawn z k x ≡ (range_at z k).least +ℤ pos m
  drawn_remainder o x q m h e = rw (no_direction z k o) (ap (λ (n : ℕ). (range_at z k).least +ℤ pos n) is)
    where
      is : x % size_of (range_at z k) ≡ m
      is = ap (λ (y : ℕ). y % size_of (range_at z k)) e ∙ mul-add-mod_self_right q (size_of (range_at z k)) m ∙ mod-eq_of_lt h

  pub drawn_in_range : (x : ℕ) → in_range z k (drawn z k x) ≡ true
  drawn_in_range x = go (is_direction z k)
    where
      go : (b : Bool) → let w = cond b (drawn_direction x) (drawn_from (range_at z k) x) in
          cond b (eq_z w (pos 1) || eq_z w (negsuc 0)) (within (range_at z k) w) ≡ true
      go true = direction_within x
      go false = from_within (range_at z k) x (ordered z k)

  pub drawn_by : SizesFit z → (w : ℤ) → in_range z k w ≡ true → (x : ℕ) × Seed x × (drawn z k x ≡ w)
  drawn_by f w = go (is_direction z k)
    where
      go : (b : Bool) → cond b (eq_z w (pos 1) || eq_z w (negsuc 0)) (within (range_at z k) w) ≡ true
          → (x : ℕ) × Seed x × (cond b (drawn_direction x) (drawn_from (range_at z k) x) ≡ w)
      go true e = direction_all w e
      go false e = from_all (range_at z k) w e (few z f k)

  -- it is from −64 to 64
  pub drawn_near : SizesFit z → (x : ℕ) → Abs (drawn z k x) 64
  drawn_near f x = go (is_direction z k)
    where
      one : (b : Bool) → Abs (cond b (negsuc 0) (pos 1)) 64
      one true = record { abs = omega arith }
      one false = record { abs = omega arith }

      go : (b : Bool) → Abs (cond b (drawn_direction x) (drawn_from (range_at z k) x)) 64
      go true = one (eqb (x % 2) 0)
      go false =
          let r = range_at z k in
          let n = near z f k in
          let b = from_between r x (ordered z k) in within_near r.least r.greatest (drawn_from r x) n.0 n.1 b.0 b.1
