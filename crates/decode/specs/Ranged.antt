-- What a description that none of the refusals 1 to 5 meets is: its sizes, its exact length, and the range of every part. Assumes nothing.
use Rattle.std.specs.Prelude.{◌≡◌, refl, Bool, false, cond, ◌||◌, ◌⊎◌, List, eqb, length, get_or, ℤ, negsuc, nat_abs, ◌≤ℤ◌}
use Rattle.std.proofs.Common.{sym, ◌∙◌, inl, inr, eqb-true, eq-eqb, ne_eqb}
use Rattle.std.proofs.Math.Path.{ap, subst}
use Rattle.std.proofs.Math.Bool.{true}
use Prim.Native.Nat.{ℕ, suc, ◌+◌, ◌*◌, ◌-◌, ◌%◌, ◌^◌, ◌≤◌, ◌<◌}
use native.Mathlib.Omega.{arith}
use Rattle.std.proofs.lemmas.Bool.{not-false}
use Rattle.std.proofs.Math.IntN.{pos}
use Rattle.std.specs.Int.Signed.{lt_z}
use Rattle.integers.specs.declared.V3.{V3}
use Rattle.integers.specs.declared.V2.{V2}
use Rattle.integers.specs.declared.Matrix.{Matrix}
use Rattle.integers.specs.Differences.{Abs}
use Rattle.integers.specs.Order.{part}
use Rattle.integers.specs.Vectors.{zero3}
use Rattle.integers.specs.Bytes.{bits_at, word_at}
use Rattle.integers.specs.Words.{not_less}
use Rattle.meaning.specs.declared.Range.{Range}
use Rattle.meaning.specs.declared.Sizes.{Sizes}
use Rattle.meaning.specs.declared.Nest.{Nest}
use Rattle.meaning.specs.declared.Stream.{Stream}
use Rattle.meaning.specs.declared.Line.{Line}
use Rattle.meaning.specs.declared.Description.{Description}
use Rattle.meaning.specs.Lists.{every, numbers_from}
use Rattle.meaning.specs.Tests.{refusal}
use Rattle.meaning.specs.Operations.{last_operation}
use Rattle.meaning.specs.Guards.{last_comparison}
use Rattle.meaning.specs.Description.{sizes_of, matrix_words, left_at, right_at, direction_at, step_at, place_at, map_at, loading_at}
use Rattle.meaning.specs.Description.{line_words}
use Rattle.meaning.specs.Description.{line_at, words_of, ◌to◌, within, line_range, range_at, in_range}
use Rattle.meaning.specs.Description.{vector_at, unit3, matrix_at, nest_of, loading_of, stream_of, body_line, no_stream}
use Rattle.meaning.specs.Description.{no_line, description_of, refused1, refused2, refused3, refused4, refused5}
use Rattle.meaning.specs.Ranges.{at_bounds, at_steps, at_matrices, at_loading, at_lines, in_directions, in_others}
use Rattle.decode.specs.Offsets.{Sized, two_or_three}
use Rattle.decode.specs.Filled.{filled_each}
use Rattle.lists.specs.Rows.{every_numbers}
use Rattle.decode.specs.Ranges.{magnitude_in, direction_is, bits_in}
use Rattle.decode.specs.Refusals.{first_tests, neither, passed, sizes_in_range}

-- ---- the record

-- components, and words of a matrix, at most n from 0
pub record Abs3 (v : V3) (n : ℕ) : Type 0 where
  pub x : Abs v.x n
  pub y : Abs v.y n
  pub z : Abs v.z n

pub record Abs2 (v : V2) (n : ℕ) : Type 0 where
  pub a : Abs v.a n
  pub b : Abs v.b n

pub record AbsMatrix (m : Matrix) (n : ℕ) : Type 0 where
  pub top : Abs3 m.top n
  pub low : Abs3 m.low n

-- 1 or −1
abbrev pub Direction : ℤ → Type 0
Direction w = (w ≡ pos 1) ⊎ (w ≡ negsuc 0)

pub record Directions (v : V3) : Type 0 where
  pub x : Direction v.x
  pub y : Direction v.y
  pub z : Direction v.z

pub record Ordered (left right : V3) : Type 0 where
  pub x : left.x ≤ℤ right.x
  pub y : left.y ≤ℤ right.y
  pub z : left.z ≤ℤ right.z

pub record RangedNest (n : Nest) : Type 0 where
  pub left : Abs3 n.left 64
  pub right : Abs3 n.right 64
  pub ordered : Ordered n.left n.right
  pub direction : Directions n.direction
  pub step : Abs3 n.step 8
  pub place : AbsMatrix n.place 4

pub record RangedStream (t : Stream) : Type 0 where
  pub map : AbsMatrix t.map 4
  pub loading : Abs2 t.loading 1

-- of r loops and m streams
pub record RangedLine (r m : ℕ) (l : Line) : Type 0 where
  pub operation : l.operation ≤ last_operation
  pub target : l.target ≤ m + 1
  pub first : l.first ≤ m + 1
  pub second : l.second ≤ m + 1
  pub index : l.index ≤ r - 1
  pub comparison : l.comparison ≤ last_comparison
  pub bound : Abs l.bound 64

-- those past the sizes are zero, and so in range too
pub record Ranged (d : Description) : Type 0 where
  pub sized : Sized d.sizes
  pub nest : RangedNest d.nest
  pub streams : (i : ℕ) → RangedStream (get_or d.streams i no_stream)
  pub lines : (i : ℕ) → RangedLine d.sizes.loops d.sizes.streams (get_or d.lines i no_line)

-- ---- the parts, from refusal 4

zero_abs : (n : ℕ) → Abs (pos 0) n
zero_abs n = record { abs = omega arith }

direction_of : (w : ℤ) → eqb (nat_abs w) 1 ≡ true → Direction w
direction_of (pos a) e = inl (ap pos (eqb-true a 1 e))
direction_of (negsuc a) e = let g : a ≡ 0 = omega (arith, eqb-true (suc a) 1 e) in inr (ap negsuc g)

module _ (s : List ℕ) (z : Sizes) (h : Sized z) (good : refused4 s z ≡ false) where
  -- the parts stand in this order
  order : (place_at z ≤ loading_at z 0) × (loading_at z 0 ≤ line_at z 0) × (line_at z 0 ≤ words_of z)
  order = (omega arith, omega arith, omega arith)

  tested : (k : ℕ) → 3 ≤ k → k < words_of z → in_range z k (word_at s k) ≡ true
  tested k l m =
      let all : every (λ k. in_range z k (word_at s k)) (numbers_from 3 (words_of z - 3)) ≡ true = not-false _ good in
      every_numbers (λ k. in_range z k (word_at s k)) 3 (words_of z - 3) all k l (omega arith)

  -- a word that is no direction, by its range
  ranged_word : (k : ℕ) → 3 ≤ k → k < words_of z → (k < direction_at z) ⊎ (step_at z ≤ k) → {r : Range} → range_at z k ≡ r
      → within r (word_at s k) ≡ true
  ranged_word k l m o e = sym (in_others z k o e (word_at s k)) ∙ tested k l m

  -- a word of each part
  bound_word : (k : ℕ) → 3 ≤ k → k < direction_at z → Abs (word_at s k) 64
  bound_word k l m = magnitude_in 63 (word_at s k) (ranged_word k l (omega (arith, order)) (inl m) (at_bounds z k m))

  direction_word : (k : ℕ) → direction_at z ≤ k → k < step_at z → Direction (word_at s k)
  direction_word k l m =
      direction_of (word_at s k)
      (direction_is (word_at s k) ∙ sym (in_directions z k l m (word_at s k)) ∙ tested k (omega arith) (omega (arith, order)))

  step_word : (k : ℕ) → step_at z ≤ k → k < place_at z → Abs (word_at s k) 8
  step_word k l m =
      magnitude_in 7 (word_at s k) (ranged_word k (omega arith) (omega (arith, order)) (inr l) (at_steps z k (omega arith) m))

  matrix_word : (k : ℕ) → place_at z ≤ k → k < loading_at z 0 → Abs (word_at s k) 4
  matrix_word k l m =
      magnitude_in 3 (word_at s k) (ranged_word k (omega arith) (omega (arith, order)) (inr (omega arith)) (at_matrices z k l m))

  loading_word : (k : ℕ) → loading_at z 0 ≤ k → k < line_at z 0 → Abs (word_at s k) 1
  loading_word k l m =
      magnitude_in 0 (word_at s k)
      (ranged_word k (omega (arith, order)) (omega (arith, order)) (inr (omega (arith, order))) (at_loading z k l m))

  -- vectors: the third component of two loops is given
  vector_each : (P : ℤ → Type 0) (k : ℕ) {pad : ℤ} → P pad → ((j : ℕ) → k ≤ j → j < k + z.loops → P (word_at s j))
      → P (word_at s k) × P (word_at s (k + 1)) × P (vector_at s z k pad).z
  vector_each P k {pad} p w =
      (w k (omega arith) (omega (arith, h.least_loops)), w (k + 1) (omega arith) (omega (arith, h.least_loops)), last (two_or_three h))
    where
      last : (z.loops ≡ 2) ⊎ (z.loops ≡ 3) → P (vector_at s z k pad).z
      last (inl e) = rw (eq-eqb z.loops 2 e) p
      last (inr e) = rw (ne_eqb z.loops 2 (λ g. omega arith)) (w (k + 2) (omega arith) (omega arith))

  vector_abs : (k n : ℕ) → ((j : ℕ) → k ≤ j → j < k + z.loops → Abs (word_at s j) n) → Abs3 (vector_at s z k (pos 0)) n
  vector_abs k n w =
      let v = vector_each (λ u. Abs u n) k {pad = pos 0} (zero_abs n) w in record { x = v.0; y = v.1; z = v.2 }

  matrix_abs : (k : ℕ) → ((j : ℕ) → k ≤ j → j < k + matrix_words z → Abs (word_at s j) 4) → AbsMatrix (matrix_at s z k) 4
  matrix_abs k w = go (two_or_three h)
    where
      go : (z.loops ≡ 2) ⊎ (z.loops ≡ 3) → AbsMatrix (matrix_at s z k) 4
      go (inl e) =
          let words : matrix_words z ≡ 2 = rw e refl in
          record {
            top = vector_abs k 4 (λ j l m. w j l (omega arith));
            low = rw (eq-eqb z.loops 2 e) (record { x = zero_abs 4; y = zero_abs 4; z = record { abs = omega arith } });
          }
      go (inr e) =
          let words : matrix_words z ≡ 6 = rw e refl in
          record {
            top = vector_abs k 4 (λ j l m. w j l (omega arith));
            low =
                subst (λ (b : Bool). Abs3 (cond b unit3 (vector_at s z (k + 3) (pos 0))) 4) (sym (ne_eqb z.loops 2 (λ g. omega arith)))
                (vector_abs (k + 3) 4 (λ j l m. w j (omega arith) (omega arith)));
          }

  -- the loops, a stream, a line
  nest_ranged : refused5 (nest_of s z) ≡ false → RangedNest (nest_of s z)
  unfolding nest_of
  nest_ranged e =
      let n = nest_of s z in
      let p = neither (lt_z n.right.x n.left.x || lt_z n.right.y n.left.y) (lt_z n.right.z n.left.z) e in
      let q = neither (lt_z n.right.x n.left.x) (lt_z n.right.y n.left.y) p.0 in
      let d = vector_each Direction (direction_at z) {pad = pos 1} (inl refl) (λ j l m. direction_word j l m) in
      record {
        left = vector_abs (left_at z) 64 (λ j l m. bound_word j l (omega arith));
        right = vector_abs (right_at z) 64 (λ j l m. bound_word j (omega arith) m);
        ordered = record { x = not_less q.0; y = not_less q.1; z = not_less p.1 };
        direction = record { x = d.0; y = d.1; z = d.2 };
        step = vector_abs (step_at z) 8 (λ j l m. step_word j l m);
        place = matrix_abs (place_at z) (λ j l m. matrix_word j l (omega arith));
      }

  stream_ranged : (i : ℕ) → i < z.streams → RangedStream (stream_of s z i)
  unfolding stream_of
  stream_ranged i f =
      record {
        map = matrix_abs (map_at z i) (λ j l m. matrix_word j (omega arith) (omega (arith, part f (matrix_words z))));
        loading = record {
          a = loading_word (loading_at z i) (omega arith) (omega (arith, part f (z.loops - 1), h.least_loops));
          b = last (two_or_three h);
        };
      }
    where
      last : (z.loops ≡ 2) ⊎ (z.loops ≡ 3) → Abs (loading_of s z (loading_at z i)).b 1
      last (inl e) = rw (eq-eqb z.loops 2 e) (zero_abs 1)
      last (inr e) =
          rw (ne_eqb z.loops 2 (λ g. omega arith))
          (loading_word (loading_at z i + 1) (omega arith) (omega (arith, part f (z.loops - 1))))

  line_ranged : (i : ℕ) → i < z.lines → RangedLine z.loops z.streams (body_line s z i)
  unfolding body_line word_at
  line_ranged i f =
      record {
        operation =
            let e : line_at z i + 0 ≡ line_at z i = omega arith in
            subst (λ (k : ℕ). bits_at s k ≤ last_operation) e (number 0 (omega arith) last_operation (omega arith) refl);
        target = operand 1 (omega arith) refl;
        first = operand 2 (omega arith) refl;
        second = operand 3 (omega arith) refl;
        index = number 4 (omega arith) (z.loops - 1) (omega (arith, h.most_loops)) refl;
        comparison = number 5 (omega arith) last_comparison (omega arith) refl;
        bound = magnitude_in 63 (word_at s (line_at z i + 6)) (word 6 (omega arith));
      }
    where
      word : (j : ℕ) → j < line_words → within (line_range z j) (word_at s (line_at z i + j)) ≡ true
      word j m =
          let k : ℕ = line_at z i + j in
          let e : (k - line_at z 0) % line_words ≡ j = omega arith in
          ranged_word k (omega (arith, order)) (omega (arith, part f line_words)) (inr (omega (arith, order)))
          (at_lines z k (omega arith) ∙ ap (line_range z) e)

      number : (j : ℕ) → j < line_words → (n : ℕ) → n < 2 ^ 31 → line_range z j ≡ (pos 0 to pos n) → bits_at s (line_at z i + j) ≤ n
      number j m n l e =
          bits_in n (bits_at s (line_at z i + j)) l
          (sym (ap (λ (r : Range). within r (word_at s (line_at z i + j))) e) ∙ word j m)

      operand : (j : ℕ) → j < line_words → line_range z j ≡ (pos 0 to pos (suc z.streams)) → bits_at s (line_at z i + j) ≤ z.streams + 1
      operand j m e =
          let n : suc z.streams ≡ z.streams + 1 = omega arith in
          subst (λ (n : ℕ). bits_at s (line_at z i + j) ≤ n) n (number j m (suc z.streams) (omega (arith, h.most_streams)) e)

-- ---- a refusal of 0

-- what stands past the sizes
zero_abs3 : (n : ℕ) → Abs3 zero3 n
zero_abs3 n = record { x = zero_abs n; y = zero_abs n; z = zero_abs n }

no_stream_lem : RangedStream no_stream
no_stream_lem =
    record {
      map = record { top = zero_abs3 4; low = zero_abs3 4 };
      loading = record { a = zero_abs 1; b = zero_abs 1 };
    }

no_line_lem : (r m : ℕ) → RangedLine r m no_line
no_line_lem r m =
    record {
      operation = omega arith;
      target = omega arith;
      first = omega arith;
      second = omega arith;
      index = omega arith;
      comparison = omega arith;
      bound = zero_abs 64;
    }

-- what an answer 0 says of the bytes
pub record Decoded (s : List ℕ) : Type 0 where
  pub sized : Sized (sizes_of s)
  pub exact : length s ≡ 4 * words_of (sizes_of s)
  pub ranged : Ranged (description_of s)

pub decoded : (s : List ℕ) → refusal (first_tests s) ≡ 0 → Decoded s
unfolding description_of
decoded s e =
    let z = sizes_of s in
    let p1 = passed 1 (refused1 s) _ (λ g. omega arith) e in
    let p2 = passed 2 (refused2 z) _ (λ g. omega arith) p1.1 in
    let p3 = passed 3 (refused3 s z) _ (λ g. omega arith) p2.1 in
    let p4 = passed 4 (refused4 s z) _ (λ g. omega arith) p3.1 in
    let p5 = passed 5 (refused5 (nest_of s z)) _ (λ g. omega arith) p4.1 in
    let h = sizes_in_range z p2.0 in
    record {
      sized = h;
      exact = eqb-true _ _ (not-false _ p3.0);
      ranged =
          record {
            sized = h;
            nest = nest_ranged s z h p4.0 p5.0;
            streams =
                filled_each (stream_of s z) RangedStream z.streams 6 no_stream h.most_streams no_stream_lem (stream_ranged s z h p4.0);
            lines =
                filled_each (body_line s z) (RangedLine z.loops z.streams) z.lines 8 no_line h.most_lines
                (no_line_lem z.loops z.streams) (line_ranged s z h p4.0);
          };
    }
