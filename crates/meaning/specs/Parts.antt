-- Parts of two descriptions of one size that are read from the same words are the same. Assumes nothing.
use Rattle.std.specs.Prelude.{◌≡◌, refl, Bool, true, false, cond, List, ℕ, ◌+◌, ◌-◌, ◌≤◌, ◌<◌, eqb, ℤ, pos}
use Rattle.std.proofs.Common.{arith, eqb-true}
use Rattle.std.proofs.lemmas.Bool.{eqb-false}
use Rattle.integers.specs.Order.{part}
use Rattle.integers.specs.Bytes.{word_at}
use Rattle.integers.specs.declared.V3.{V3}
use Rattle.integers.specs.declared.V2.{V2}
use Rattle.integers.specs.declared.Matrix.{Matrix}
use Rattle.meaning.specs.declared.Sizes.{Sizes}
use Rattle.meaning.specs.Description.{matrix_words, place_at, map_at, loading_at, line_at, vector_at, unit3, matrix_at, loading_of}
use Rattle.meaning.specs.Description.{stream_of}
use Rattle.meaning.specs.Conditions.{SizesFit}

module _ (s t : List ℕ) where
  -- n words from word k on are the same
  abbrev pub Same : ℕ → ℕ → Type 0
  Same k n = (j : ℕ) → k ≤ j → j < k + n → word_at s j ≡ word_at t j

  module _ {z : Sizes} (h : SizesFit z) where
    three : (z.loops ≡ 2 → ⊥) → z.loops ≡ 3
    three f = go z.loops h.loops.0 h.loops.1 f
      where
        go : (r : ℕ) → 2 ≤ r → r ≤ 3 → (r ≡ 2 → ⊥) → r ≡ 3
        go r a b f = omega arith

    pub vector_same : (k : ℕ) (pad : ℤ) → Same k z.loops → vector_at s z k pad ≡ vector_at t z k pad
    vector_same k pad w = go (eqb z.loops 2) (eqb-false z.loops 2)
      where
        go : (b : Bool) → (b ≡ false → z.loops ≡ 2 → ⊥)
            → ◌≡◌ {A = V3} (record { x = word_at s k; y = word_at s (k + 1); z = cond b pad (word_at s (k + 2)) })
            (record { x = word_at t k; y = word_at t (k + 1); z = cond b pad (word_at t (k + 2)) })
        go true f =
            rw (w k (omega arith) (omega (arith, h.loops)), w (k + 1) (omega arith) (omega (arith, h.loops)))
        go false f =
            let n = three (f refl) in
            rw (w k (omega arith) (omega arith), w (k + 1) (omega arith) (omega arith), w (k + 2) (omega arith) (omega arith))

    pub matrix_same : (k : ℕ) → Same k (matrix_words z) → matrix_at s z k ≡ matrix_at t z k
    matrix_same k w = go (eqb z.loops 2) (eqb-true z.loops 2) (eqb-false z.loops 2)
      where
        go : (b : Bool) → (b ≡ true → z.loops ≡ 2) → (b ≡ false → z.loops ≡ 2 → ⊥)
            → ◌≡◌ {A = Matrix} (record { top = vector_at s z k (pos 0); low = cond b unit3 (vector_at s z (k + 3) (pos 0)) })
            (record { top = vector_at t z k (pos 0); low = cond b unit3 (vector_at t z (k + 3) (pos 0)) })
        go true e f =
            let g : matrix_words z ≡ 2 = rw (e refl) refl in
            rw (vector_same k (pos 0) (λ j l m. w j l (omega (arith, e refl))))
        go false e f =
            let n = three (f refl) in
            let g : matrix_words z ≡ 6 = rw n refl in
            rw (
              vector_same k (pos 0) (λ j l m. w j l (omega arith)),
              vector_same (k + 3) (pos 0) (λ j l m. w j (omega arith) (omega arith)),
            )

    loading_same : (k : ℕ) → Same k (z.loops - 1) → loading_of s z k ≡ loading_of t z k
    loading_same k w = go (eqb z.loops 2) (eqb-false z.loops 2)
      where
        go : (b : Bool) → (b ≡ false → z.loops ≡ 2 → ⊥)
            → ◌≡◌ {A = V2} (record { a = word_at s k; b = cond b (pos 0) (word_at s (k + 1)) })
            (record { a = word_at t k; b = cond b (pos 0) (word_at t (k + 1)) })
        go true f = rw (w k (omega arith) (omega (arith, h.loops)))
        go false f = let n = three (f refl) in rw (w k (omega arith) (omega arith), w (k + 1) (omega arith) (omega arith))

    -- a stream, of words behind place
    pub stream_same : (i : ℕ) → i < z.streams → ((j : ℕ) → place_at z ≤ j → j < line_at z 0 → word_at s j ≡ word_at t j)
        → stream_of s z i ≡ stream_of t z i
    unfolding stream_of
    stream_same i m w =
        rw (
          matrix_same (map_at z i) (λ j a b. w j (omega arith) (omega (arith, part m (matrix_words z)))),
          loading_same (loading_at z i) (λ j a b. w j (omega arith) (omega (arith, part m (z.loops - 1)))),
        )
