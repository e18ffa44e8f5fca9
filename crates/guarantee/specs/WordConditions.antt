-- Conditions 1 to 4, of the bytes, the sizes and the words, against their tests; what the fourth leaves: directions of 1 or −1.
-- Assumes nothing.
use Rattle.std.specs.Prelude.{◌≡◌, refl, ◌⊎◌, Bool, cond, ◌||◌, List, ℕ, zero, suc, ◌+◌, ◌*◌, ◌-◌, ◌%◌, ◌≤◌, ◌<◌, eqb, length, ℤ, pos}
use Rattle.std.specs.Prelude.{negsuc}
use Rattle.std.proofs.Common.{sym, ◌∙◌, ap, inl, inr, lt-ltb, ne_eqb}
use Rattle.std.proofs.Math.Path.{subst}
use Rattle.std.proofs.Math.Bool.{true, false}
use native.Mathlib.Omega.{arith}
use Rattle.std.proofs.lemmas.Bool.{eqb-false}
use Rattle.integers.specs.Order.{part}
use Rattle.integers.specs.Bytes.{word_at}
use Rattle.integers.specs.Words.{eq_z}
use Rattle.meaning.specs.declared.Range.{Range}
use Rattle.meaning.specs.declared.Sizes.{Sizes}
use Rattle.meaning.specs.Lists.{every, numbers_from}
use Rattle.meaning.specs.Points.{Direction, Direction.onward, Direction.back, Between, Directed}
use Rattle.meaning.specs.Operations.{last_operation}
use Rattle.meaning.specs.Description.{matrix_words, left_at, right_at, direction_at, step_at, place_at, map_at, loading_at, line_words}
use Rattle.meaning.specs.Description.{line_at}
use Rattle.meaning.specs.Description.{words_of, within, line_range, range_at, in_range, nest_of, refused2, refused3, refused4}
use Rattle.meaning.specs.Ranges.{at_bounds, at_steps, at_matrices, at_loading, at_lines, in_directions as one_of_lem, in_others}
use Rattle.meaning.specs.Conditions.{SizesFit, word_total, WordsFit}
use Rattle.lists.specs.Rows.{every_numbers, numbers_every}
use Rattle.abstract_network.specs.Cases.{Order, less, at_least, order}
use Rattle.network.specs.Decide.{Says, Says.holds, Says.fails, says_as, says_and, says_or, says_le, says_eq, said, says_true}
use Rattle.guarantee.specs.Refusals.{Refuses, refuses_as, refuses_or, refuses_not, says_eq_z, says_between}

-- ---- 2 and 3

pub refuses2 : (z : Sizes) → Refuses (SizesFit z) (refused2 z)
refuses2 z =
    refuses_as (λ p. record { loops = p.0.0; streams = p.0.1; lines = p.1 }) (λ f. ((f.loops, f.streams), f.lines))
    (refuses_or (refuses_or (refuses_not (says_and (says_le 2 z.loops) (says_le z.loops 3)))
    (refuses_not (says_and (says_le 1 z.streams) (says_le z.streams 6))))
    (refuses_not (says_and (says_le 1 z.lines) (says_le z.lines 8))))

pub refuses3 : (s : List ℕ) (z : Sizes) → Refuses (length s ≡ 4 * word_total z) (refused3 s z)
refuses3 s z =
    let e : word_total z ≡ words_of z = omega arith in
    subst (λ (w : ℕ). Refuses (length s ≡ 4 * w) (refused3 s z)) (sym e) (refuses_not (says_eq (length s) (4 * words_of z)))

-- ---- 4: a place of a list is place j of its part i

in_part : (P : ℕ → Type 0) (a n k : ℕ) → a ≤ k → k < a + n → ((j : ℕ) → j < n → P (a + j)) → P k
in_part P a n k l m f = let e : a + (k - a) ≡ k = omega arith in subst P e (f (k - a) (omega arith))

in_parts : (P : ℕ → Type 0) (a n w k : ℕ) → a ≤ k → k < a + n * w → ((i j : ℕ) → i < n → j < w → P (a + i * w + j)) → P k
in_parts P a zero w k l m f = absurd (omega arith)
in_parts P a (suc n) w k l m f = go (order k (a + w)) (λ g. in_parts P (a + w) n w k g (omega arith) rest)
  where
    rest : (i j : ℕ) → i < n → j < w → P (a + w + i * w + j)
    rest i j g h = let e : a + suc i * w + j ≡ a + w + i * w + j = omega arith in subst P e (f (suc i) j (omega arith) h)

    go : Order k (a + w) → (a + w ≤ k → P k) → P k
    go (less g) ih = in_part P a w k l g (λ j h. let e : a + 0 * w + j ≡ a + j = omega arith in subst P e (f 0 j (omega arith) h))
    go (at_least g) ih = ih g

-- ---- the range of a word, by the part that it is in

says_direction : (w : ℤ) → Says (Direction w) (eq_z w (pos 1) || eq_z w (negsuc 0))
says_direction w = says_as from to (says_or (says_eq_z w (pos 1)) (says_eq_z w (negsuc 0)))
  where
    from : (w ≡ pos 1) ⊎ (w ≡ negsuc 0) → Direction w
    from (inl e) = subst Direction (sym e) onward
    from (inr e) = subst Direction (sym e) back

    to : {w : ℤ} → Direction w → (w ≡ pos 1) ⊎ (w ≡ negsuc 0)
    to onward = inl refl
    to back = inr refl

module _ (z : Sizes) (k : ℕ) (w : ℤ) where
  -- of a word that is no direction, by its range
  in_range_lem : (k < direction_at z) ⊎ (step_at z ≤ k) → {r : Range} → range_at z k ≡ r
      → Says (Between r.least r.greatest w) (in_range z k w)
  in_range_lem o {r} e = rw (in_others z k o e w) (says_between r.least r.greatest w)

  in_bounds : k < direction_at z → Says (Between (negsuc 63) (pos 64) w) (in_range z k w)
  in_bounds a = in_range_lem (inl a) (at_bounds z k a)

  in_directions : direction_at z ≤ k → k < step_at z → Says (Direction w) (in_range z k w)
  in_directions a b = rw (one_of_lem z k a b w) (says_direction w)

  in_steps : step_at z ≤ k → k < place_at z → Says (Between (negsuc 7) (pos 8) w) (in_range z k w)
  in_steps b c = in_range_lem (inr b) (at_steps z k (omega arith) c)

  in_matrices : place_at z ≤ k → k < loading_at z 0 → Says (Between (negsuc 3) (pos 4) w) (in_range z k w)
  in_matrices c d = in_range_lem (inr (omega arith)) (at_matrices z k c d)

  in_loading : loading_at z 0 ≤ k → k < line_at z 0 → Says (Between (negsuc 0) (pos 1) w) (in_range z k w)
  in_loading d e = in_range_lem (inr (omega arith)) (at_loading z k d e)

  in_lines : line_at z 0 ≤ k → in_range z k w ≡ within (line_range z ((k - line_at z 0) % line_words)) w
  in_lines e = in_others z k (inr (omega arith)) (at_lines z k e) w

module _ (s : List ℕ) (z : Sizes) where
  abbrev ok : ℕ → Bool
  ok k = in_range z k (word_at s k)

  -- the parts stand in this order
  parts : (place_at z + matrix_words z ≤ loading_at z 0) × (loading_at z 0 ≤ line_at z 0) × (line_at z 0 ≤ words_of z)
  parts = (omega arith, omega arith, omega arith)

  left_word : (j : ℕ) → j < z.loops → Says (Between (negsuc 63) (pos 64) (word_at s (left_at z + j))) (ok (left_at z + j))
  left_word j h = in_bounds z (left_at z + j) _ (omega arith)

  right_word : (j : ℕ) → j < z.loops → Says (Between (negsuc 63) (pos 64) (word_at s (right_at z + j))) (ok (right_at z + j))
  right_word j h = in_bounds z (right_at z + j) _ (omega arith)

  direction_word : (j : ℕ) → j < z.loops → Says (Direction (word_at s (direction_at z + j))) (ok (direction_at z + j))
  direction_word j h = in_directions z (direction_at z + j) _ (omega arith) (omega arith)

  step_word : (j : ℕ) → j < z.loops → Says (Between (negsuc 7) (pos 8) (word_at s (step_at z + j))) (ok (step_at z + j))
  step_word j h = in_steps z (step_at z + j) _ (omega arith) (omega arith)

  place_word : (j : ℕ) → j < matrix_words z → Says (Between (negsuc 3) (pos 4) (word_at s (place_at z + j))) (ok (place_at z + j))
  place_word j h = in_matrices z (place_at z + j) _ (omega arith) (omega (arith, parts.0))

  map_word : (i j : ℕ) → i < z.streams → j < matrix_words z
      → Says (Between (negsuc 3) (pos 4) (word_at s (map_at z i + j))) (ok (map_at z i + j))
  map_word i j g h = in_matrices z (map_at z i + j) _ (omega arith) (omega (arith, part g (matrix_words z)))

  loading_word : (i j : ℕ) → i < z.streams → j < z.loops - 1
      → Says (Between (negsuc 0) (pos 1) (word_at s (loading_at z i + j))) (ok (loading_at z i + j))
  loading_word i j g h = in_loading z (loading_at z i + j) _ (omega arith) (omega (arith, part g (z.loops - 1)))

  -- word j of line i
  line_word : {A : Type 0} (i j : ℕ) → j < line_words → Says A (within (line_range z j) (word_at s (line_at z i + j)))
      → Says A (ok (line_at z i + j))
  line_word {A} i j h r =
      let k : ℕ = line_at z i + j in
      let e : (k - line_at z 0) % line_words ≡ j = omega arith in
      subst (Says A)
      (sym (in_lines z k (word_at s k) (omega arith) ∙ ap (λ (n : ℕ). within (line_range z n) (word_at s k)) e)) r

  pub operation_word : (i : ℕ) → Says (Between (pos 0) (pos last_operation) (word_at s (line_at z i))) (ok (line_at z i))
  operation_word i =
      let e : line_at z i + 0 ≡ line_at z i = omega arith in
      subst (λ (k : ℕ). Says (Between (pos 0) (pos last_operation) (word_at s k)) (ok k)) e
      (line_word i 0 (omega arith) (says_between (pos 0) (pos last_operation) _))

  -- target, first and second operand
  operand_word : (i j : ℕ) → 1 ≤ j → j < 4
      → Says (Between (pos 0) (pos (z.streams + 1)) (word_at s (line_at z i + j))) (ok (line_at z i + j))
  operand_word i j g h =
      let n : suc z.streams ≡ z.streams + 1 = omega arith in
      line_word i j (omega arith) (rw (ne_eqb j 0 (λ e. omega arith), lt-ltb j 4 h, n) (says_between (pos 0) (pos (z.streams + 1)) _))

  -- the guard
  pub index_word : (i : ℕ) → Says (Between (pos 0) (pos (z.loops - 1)) (word_at s (line_at z i + 4))) (ok (line_at z i + 4))
  index_word i = line_word i 4 (omega arith) (says_between (pos 0) (pos (z.loops - 1)) _)

  pub comparison_word : (i : ℕ) → Says (Between (pos 0) (pos 3) (word_at s (line_at z i + 5))) (ok (line_at z i + 5))
  comparison_word i = line_word i 5 (omega arith) (says_between (pos 0) (pos 3) _)

  pub bound_word : (i : ℕ) → Says (Between (negsuc 63) (pos 64) (word_at s (line_at z i + 6))) (ok (line_at z i + 6))
  bound_word i = line_word i 6 (omega arith) (says_between (negsuc 63) (pos 64) _)

  -- all words are in range exactly if those of each part are
  pub parts_fit : ((k : ℕ) → 3 ≤ k → k < words_of z → ok k ≡ true) → WordsFit s z
  parts_fit f =
      record {
        left = λ j h. said (left_word j h) (f (left_at z + j) (omega arith) (omega (arith, parts)));
        right = λ j h. said (right_word j h) (f (right_at z + j) (omega arith) (omega (arith, parts)));
        direction = λ j h. said (direction_word j h) (f (direction_at z + j) (omega arith) (omega (arith, parts)));
        step = λ j h. said (step_word j h) (f (step_at z + j) (omega arith) (omega (arith, parts)));
        place = λ j h. said (place_word j h) (f (place_at z + j) (omega arith) (omega (arith, parts)));
        map = λ i j g h. said (map_word i j g h) (f (map_at z i + j) (omega arith) (omega (arith, parts, part g (matrix_words z))));
        loading =
            λ i j g h. said (loading_word i j g h) (f (loading_at z i + j) (omega arith) (omega (arith, parts, part g (z.loops - 1))));
        operation = λ i g. said (operation_word i) (f (line_at z i) (omega arith) (omega arith));
        target = λ i g. said (operand_word i 1 (omega arith) (omega arith)) (f (line_at z i + 1) (omega arith) (omega arith));
        first = λ i g. said (operand_word i 2 (omega arith) (omega arith)) (f (line_at z i + 2) (omega arith) (omega arith));
        second = λ i g. said (operand_word i 3 (omega arith) (omega arith)) (f (line_at z i + 3) (omega arith) (omega arith));
        guard = λ i g. record {
          index = said (index_word i) (f (line_at z i + 4) (omega arith) (omega arith));
          comparison = said (comparison_word i) (f (line_at z i + 5) (omega arith) (omega arith));
          bound = said (bound_word i) (f (line_at z i + 6) (omega arith) (omega arith));
        };
      }

  fit_parts : WordsFit s z → (k : ℕ) → 3 ≤ k → k < words_of z → ok k ≡ true
  fit_parts f k l m = bounds (order k (right_at z))
    where
      In-range : ℕ → Type 0
      In-range k = ok k ≡ true

      line : (i j : ℕ) → i < z.lines → j < line_words → In-range (line_at z i + j)
      line i zero g h = let e : line_at z i ≡ line_at z i + 0 = omega arith in
          subst In-range e (says_true (operation_word i) (f.operation i g))
      line i (suc zero) g h = says_true (operand_word i 1 (omega arith) (omega arith)) (f.target i g)
      line i (suc (suc zero)) g h = says_true (operand_word i 2 (omega arith) (omega arith)) (f.first i g)
      line i (suc (suc (suc zero))) g h = says_true (operand_word i 3 (omega arith) (omega arith)) (f.second i g)
      line i (suc (suc (suc (suc zero)))) g h = says_true (index_word i) (f.guard i g).index
      line i (suc (suc (suc (suc (suc zero))))) g h = says_true (comparison_word i) (f.guard i g).comparison
      line i (suc (suc (suc (suc (suc (suc zero)))))) g h = says_true (bound_word i) (f.guard i g).bound
      line i (suc (suc (suc (suc (suc (suc (suc j))))))) g h = absurd (omega arith)

      loadings : map_at z z.streams ≤ k → Order k (loading_at z z.streams) → In-range k
      loadings b (less a) = in_parts In-range _ _ _ k b a (λ i j g h. says_true (loading_word i j g h) (f.loading i j g h))
      loadings b (at_least a) = in_parts In-range _ _ _ k a m line

      maps : place_at z + matrix_words z ≤ k → Order k (map_at z z.streams) → In-range k
      maps b (less a) = in_parts In-range _ _ _ k b a (λ i j g h. says_true (map_word i j g h) (f.map i j g h))
      maps b (at_least a) = loadings a (order k (loading_at z z.streams))

      places : place_at z ≤ k → Order k (place_at z + matrix_words z) → In-range k
      places b (less a) = in_part In-range _ _ k b a (λ j h. says_true (place_word j h) (f.place j h))
      places b (at_least a) = maps a (order k (map_at z z.streams))

      steps : step_at z ≤ k → Order k (place_at z) → In-range k
      steps b (less a) = in_part In-range _ _ k b a (λ j h. says_true (step_word j h) (f.step j h))
      steps b (at_least a) = places a (order k (place_at z + matrix_words z))

      directions : direction_at z ≤ k → Order k (step_at z) → In-range k
      directions b (less a) = in_part In-range _ _ k b a (λ j h. says_true (direction_word j h) (f.direction j h))
      directions b (at_least a) = steps a (order k (place_at z))

      rights : right_at z ≤ k → Order k (direction_at z) → In-range k
      rights b (less a) = in_part In-range _ _ k b a (λ j h. says_true (right_word j h) (f.right j h))
      rights b (at_least a) = directions a (order k (step_at z))

      bounds : Order k (right_at z) → In-range k
      bounds (less a) = in_part In-range _ _ k l a (λ j h. says_true (left_word j h) (f.left j h))
      bounds (at_least a) = rights a (order k (direction_at z))

  pub refuses4 : Refuses (WordsFit s z) (refused4 s z)
  refuses4 = refuses_not (go (every ok (numbers_from 3 (words_of z - 3))) refl)
    where
      long : 3 ≤ words_of z
      long = omega arith

      go : (b : Bool) → every ok (numbers_from 3 (words_of z - 3)) ≡ b → Says (WordsFit s z) b
      go true e = holds (parts_fit (λ k l m. every_numbers ok 3 (words_of z - 3) e k l (omega (arith, long))))
      go false e =
          fails (λ f. let d : every ok (numbers_from 3 (words_of z - 3)) ≡ true = numbers_every ok 3 (words_of z - 3)
          (λ k l m. fit_parts f k l (omega (arith, long))) in let y : ◌≡◌ {A = ℕ} 0 1 = cc in omega arith)

  -- ---- what they leave

  pub directed : SizesFit z → WordsFit s z → Directed (nest_of s z)
  unfolding nest_of
  directed h f =
      record {
        outer =
            let e : direction_at z + 0 ≡ direction_at z = omega arith in
            subst (λ (k : ℕ). Direction (word_at s k)) e (f.direction 0 (omega (arith, h.loops.0)));
        middle = f.direction 1 (omega (arith, h.loops.0));
        inner = third (eqb z.loops 2) (eqb-false z.loops 2);
      }
    where
      third : (b : Bool) → (b ≡ false → z.loops ≡ 2 → ⊥) → Direction (cond b (pos 1) (word_at s (direction_at z + 2)))
      third true g = onward
      third false g = f.direction 2 (go z.loops h.loops.0 (g refl))
        where
          go : (r : ℕ) → 2 ≤ r → (r ≡ 2 → ⊥) → 2 < r
          go r a g = omega arith
