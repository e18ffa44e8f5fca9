-- A description with other step coefficients: its bytes, its words, and what it decodes to. Assumes nothing.
use Rattle.std.specs.Prelude.{◌≡◌, ◌⊎◌, Bool, true, false, cond, List, [], ◌∷◌, ◌++◌, ℕ, ◌+◌, ◌*◌, ◌-◌, ◌^◌, ◌≤◌, ◌<◌, eqb, length, take}
use Rattle.std.specs.Prelude.{drop, ℤ, pos}
use Rattle.std.proofs.Math.Path.{refl, ap}
use Rattle.std.proofs.Common.{sym, ◌∙◌, inl, inr, length-append, length-drop, length-take-le, get_or-append-add, get_or-take, get_or-drop}
use Rattle.std.proofs.Common.{to_z, eqb-true}
use native.Mathlib.Omega.{arith}
use Rattle.std.proofs.Math.ListN.{get_or, replicate, get_or-append}
use Rattle.std.specs.Int.Signed.{mag}
use Rattle.std.specs.Int.{w32}
use Rattle.std.proofs.lemmas.Bool.{eqb-false}
use Rattle.integers.specs.Bytes.{bits_at, word_at}
use Rattle.integers.specs.declared.V3.{V3}
use Rattle.meaning.specs.declared.Sizes.{Sizes}
use Rattle.meaning.specs.Description.{bytes, sizes_of, left_at, right_at, direction_at, step_at, place_at, line_at, words_of, vector_at}
use Rattle.meaning.specs.Description.{nest_of}
use Rattle.meaning.specs.Description.{stream_of, body_line, no_stream, no_line, decoded, description_of}
use Rattle.meaning.specs.Conditions.{SizesFit}
use Rattle.meaning.specs.Parts.{vector_same, matrix_same, stream_same}
use Rattle.meaning.specs.StepVectors.{with_step}
use Rattle.meaning.specs.HowManyWork.{step_vector, stepped, with_nest, Replaced}
use Rattle.lists.specs.Bytes.{bytes_length, bytes_word}
use Rattle.lists.specs.Rows.{same_numbers}

module _ (s : List ℕ) (v : List ℤ) (h : SizesFit (sizes_of s)) (long : length s ≡ 4 * words_of (sizes_of s))
    (count : length v ≡ (sizes_of s).loops) (small : (j : ℕ) → j < length v → mag (get_or v j (pos 0)) < 2 ^ 31) where
  abbrev z : Sizes
  z = sizes_of s

  abbrev at : ℕ
  at = 4 * step_at z

  abbrev front : List ℕ
  front = take at s

  abbrev back : List ℕ
  back = drop (at + 4 * length v) s

  front_length : length front ≡ at
  front_length = length-take-le at s (omega arith)

  middle_length : length (bytes v) ≡ 4 * z.loops
  middle_length = bytes_length v ∙ ap (λ (n : ℕ). 4 * n) count

  pub same_length : length (with_step s v) ≡ length s
  same_length =
      omega (
        arith,
        length-append front (bytes v ++ back),
        length-append (bytes v) back,
        length-drop (at + 4 * length v) s,
        front_length,
        middle_length,
        count,
        long,
      )

  -- ---- bytes and words

  byte_before : (i : ℕ) → i < at → get_or (with_step s v) i 0 ≡ get_or s i 0
  byte_before i l =
      get_or-append front (bytes v ++ back) 0 i (omega (arith, front_length)) ∙ get_or-take at s i 0 l

  byte_in : (i : ℕ) → i < 4 * z.loops → get_or (with_step s v) (at + i) 0 ≡ get_or (bytes v) i 0
  byte_in i l =
      ap (λ (n : ℕ). get_or (with_step s v) (n + i) 0) (sym front_length) ∙ get_or-append-add front (bytes v ++ back) i 0
      ∙ get_or-append (bytes v) back 0 i (omega (arith, middle_length))

  byte_after : (i : ℕ) → at + 4 * z.loops ≤ i → get_or (with_step s v) i 0 ≡ get_or s i 0
  byte_after i l =
      let j = i - (at + 4 * z.loops) in
      let e : length front + (length (bytes v) + j) ≡ i = omega (arith, front_length, middle_length) in
      let f : (at + 4 * length v) + j ≡ i = omega (arith, count) in
      ap (λ (n : ℕ). get_or (with_step s v) n 0) (sym e) ∙ get_or-append-add front (bytes v ++ back) (length (bytes v) + j) 0
      ∙ get_or-append-add (bytes v) back j 0 ∙ get_or-drop (at + 4 * length v) s j 0 ∙ ap (λ (n : ℕ). get_or s n 0) f

  -- a word that is none of the step
  bits_other : (k : ℕ) → (k < step_at z) ⊎ (place_at z ≤ k) → bits_at (with_step s v) k ≡ bits_at s k
  unfolding bits_at
  bits_other k o =
      rw (
        byte (4 * k) (omega arith) (omega arith),
        byte (4 * k + 1) (omega arith) (omega arith),
        byte (4 * k + 2) (omega arith) (omega arith),
        byte (4 * k + 3) (omega arith) (omega arith),
      )
    where
      byte : (i : ℕ) → 4 * k ≤ i → i < 4 * k + 4 → get_or (with_step s v) i 0 ≡ get_or s i 0
      byte i l m = go o
        where
          go : (k < step_at z) ⊎ (place_at z ≤ k) → get_or (with_step s v) i 0 ≡ get_or s i 0
          go (inl a) = byte_before i (omega arith)
          go (inr a) = byte_after i (omega arith)

  pub word_other : (k : ℕ) → (k < step_at z) ⊎ (place_at z ≤ k) → word_at (with_step s v) k ≡ word_at s k
  unfolding word_at
  word_other k o = ap (to_z w32) (bits_other k o)

  -- one of the step
  bits_in : (j : ℕ) → j < z.loops → bits_at (with_step s v) (step_at z + j) ≡ bits_at (bytes v) j
  unfolding bits_at
  bits_in j l =
      rw (
        byte (4 * (step_at z + j)) (4 * j) (omega arith) (omega arith),
        byte (4 * (step_at z + j) + 1) (4 * j + 1) (omega arith) (omega arith),
        byte (4 * (step_at z + j) + 2) (4 * j + 2) (omega arith) (omega arith),
        byte (4 * (step_at z + j) + 3) (4 * j + 3) (omega arith) (omega arith),
      )
    where
      byte : (k i : ℕ) → k ≡ at + i → i < 4 * z.loops → get_or (with_step s v) k 0 ≡ get_or (bytes v) i 0
      byte k i e m = ap (λ (n : ℕ). get_or (with_step s v) n 0) e ∙ byte_in i m

  word_in : (j : ℕ) → j < z.loops → word_at (with_step s v) (step_at z + j) ≡ get_or v j (pos 0)
  unfolding word_at
  word_in j l =
      ap (to_z w32) (bits_in j l) ∙ bytes_word v j (omega (arith, count)) (small j (omega (arith, count)))

  -- ---- what it decodes to

  pub same_sizes : sizes_of (with_step s v) ≡ z
  same_sizes =
      rw (bits_other 0 (inl (omega arith)), bits_other 1 (inl (omega arith)), bits_other 2 (inl (omega arith)))

  step_is : vector_at (with_step s v) z (step_at z) (pos 0) ≡ step_vector v
  step_is = go (eqb z.loops 2) (eqb-true z.loops 2) (eqb-false z.loops 2)
    where
      first : word_at (with_step s v) (step_at z) ≡ get_or v 0 (pos 0)
      first =
          let e : step_at z + 0 ≡ step_at z = omega arith in
          ap (word_at (with_step s v)) (sym e) ∙ word_in 0 (omega (arith, h.loops))

      past : (w : List ℤ) → length w ≡ 2 → get_or w 2 (pos 0) ≡ pos 0
      past (a ∷ b ∷ []) e = refl
      past [] e = refl
      past (a ∷ []) e = refl
      past (a ∷ b ∷ c ∷ w) e = absurd (omega arith)

      go : (b : Bool) → (b ≡ true → z.loops ≡ 2) → (b ≡ false → z.loops ≡ 2 → ⊥)
          → ◌≡◌ {A = V3}
          (record {
            x = word_at (with_step s v) (step_at z);
            y = word_at (with_step s v) (step_at z + 1);
            z = cond b (pos 0) (word_at (with_step s v) (step_at z + 2));
          })
          (step_vector v)
      go true e f = rw (first, word_in 1 (omega (arith, h.loops)), past v (count ∙ e refl)) refl
      go false e f =
          let n : 2 < z.loops = omega (arith, h.loops, f refl) in rw (first, word_in 1 (omega arith), word_in 2 n) refl

  nest_is : nest_of (with_step s v) z ≡ stepped (nest_of s z) (step_vector v)
  unfolding nest_of
  nest_is =
      let t = with_step s v in
      rw (
        vector_same t s h (left_at z) (pos 0) (λ j _ m. word_other j (inl (omega arith))),
        vector_same t s h (right_at z) (pos 0) (λ j _ m. word_other j (inl (omega arith))),
        vector_same t s h (direction_at z) (pos 1) (λ j _ m. word_other j (inl (omega arith))),
        step_is,
        matrix_same t s h (place_at z) (λ j l _. word_other j (inr l)),
      )
      refl

  lines_same : (i : ℕ) → body_line (with_step s v) z i ≡ body_line s z i
  unfolding body_line
  lines_same i =
      let o : (j : ℕ) → place_at z ≤ line_at z i + j = λ j. omega arith in
      rw (
        bits_other (line_at z i) (inr (omega arith)),
        bits_other (line_at z i + 1) (inr (o 1)),
        bits_other (line_at z i + 2) (inr (o 2)),
        bits_other (line_at z i + 3) (inr (o 3)),
        bits_other (line_at z i + 4) (inr (o 4)),
        bits_other (line_at z i + 5) (inr (o 5)),
        word_other (line_at z i + 6) (inr (o 6)),
      )

  pub description_is : description_of (with_step s v) ≡ with_nest (description_of s) (stepped (description_of s).nest (step_vector v))
  unfolding description_of
  description_is =
      ap (decoded (with_step s v)) same_sizes
      ∙ (λ i.
      record {
        sizes = z;
        nest = nest_is i;
        streams =
            same_numbers (stream_of (with_step s v) z) (stream_of s z) 0 z.streams
            (λ j _ m. stream_same (with_step s v) s h j (omega arith) (λ k l _. word_other k (inr l))) i
            ++ replicate (6 - z.streams) no_stream;
        lines =
            same_numbers (body_line (with_step s v) z) (body_line s z) 0 z.lines (λ j _ _. lines_same j) i
            ++ replicate (8 - z.lines) no_line;
      })

  pub replaced : Replaced s v
  replaced =
      record {
        long = same_length;
        coefficients = word_in;
        others = others;
        description = description_is;
      }
    where
      others : (i : ℕ) → (i < 4 * step_at z) ⊎ (4 * place_at z ≤ i) → get_or (with_step s v) i 0 ≡ get_or s i 0
      others i (inl l) = byte_before i l
      others i (inr l) = byte_after i (omega arith)
