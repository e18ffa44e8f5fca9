-- A list in which a part was replaced, as a call leaves it that was lent the part. Assumes nothing.
use Rattle.std.specs.Prelude.{◌≡◌, List, ◌++◌, ℕ, ◌+◌, ◌-◌, ◌≤◌, ◌<◌, length, get_or, take}
use Rattle.std.proofs.Common.{sym, ◌∙◌, ap, arith, length-drop, length-take-le, get_or-take, get_or-drop, get_or-append-add}
use Rattle.std.proofs.Math.ListN.{get_or-append}
use borrow.Rule.Slice.PartMut.{put_mid, mid_of, post_of, same_len_mid}
use Rattle.integers.specs.Fill.{fill_by, fill_length}
use Rattle.integers.proofs.Fill.{fill_at_lem}

module _ {A : Type 0} (a k : ℕ) (xs ys : List A) (d : A) (h : a ≤ length xs) where
  front : length (take a xs) ≡ a
  front = length-take-le a xs h

  -- before it, in it, after it
  pub put_before : (i : ℕ) → i < a → get_or (put_mid a k xs ys) i d ≡ get_or xs i d
  put_before i l = get_or-append (take a xs) (ys ++ post_of a k xs) d i (omega (arith, front)) ∙ get_or-take a xs i d l

  behind : (i : ℕ) → get_or (put_mid a k xs ys) (a + i) d ≡ get_or (ys ++ post_of a k xs) i d
  behind i =
      ap (λ (b : ℕ). get_or (put_mid a k xs ys) (b + i) d) (sym front) ∙ get_or-append-add (take a xs) (ys ++ post_of a k xs) i d

  pub put_in : (i : ℕ) → i < length ys → get_or (put_mid a k xs ys) (a + i) d ≡ get_or ys i d
  put_in i l = behind i ∙ get_or-append ys (post_of a k xs) d i l

  pub put_after : (i : ℕ) → length ys ≡ k → a + k ≤ i → get_or (put_mid a k xs ys) i d ≡ get_or xs i d
  put_after i e l =
      let j = i - (a + k) in
      let s : i ≡ a + (length ys + j) = omega arith in
      let t : a + (k + j) ≡ i = omega arith in
      ap (λ (b : ℕ). get_or (put_mid a k xs ys) b d) s ∙ behind (length ys + j) ∙ get_or-append-add ys (post_of a k xs) j d
      ∙ get_or-drop k _ j d ∙ get_or-drop a xs (k + j) d ∙ ap (λ (b : ℕ). get_or xs b d) t

-- the part itself
pub mid_at : {A : Type 0} (a k : ℕ) (xs : List A) (d : A) (i : ℕ) → i < k → get_or (mid_of a k xs) i d ≡ get_or xs (a + i) d
mid_at a k xs d i l = get_or-take k _ i d l ∙ get_or-drop a xs i d

-- a part whose first n members a loop has set
module _ {A : Type 0} (f : ℕ → A) (n a k : ℕ) (xs ys : List A) (e : ys ≡ fill_by f n (mid_of a k xs)) (h : a + k ≤ length xs) where
  mid : length (mid_of a k xs) ≡ k
  mid = length-take-le k _ (omega (arith, length-drop a xs))

  pub part_length : length ys ≡ k
  part_length = ap length e ∙ fill_length f n (mid_of a k xs) ∙ mid

  pub whole_length : length (put_mid a k xs ys) ≡ length xs
  whole_length = same_len_mid a k xs ys (part_length ∙ sym mid)

  pub part_at : (d : A) (i : ℕ) → i < n → n ≤ k → get_or (put_mid a k xs ys) (a + i) d ≡ f i
  part_at d i l m =
      put_in a k xs ys d (omega arith) i (omega (arith, part_length))
      ∙ ap (λ (l : List A). get_or l i d) e ∙ fill_at_lem f n i (mid_of a k xs) d l (omega (arith, mid))
