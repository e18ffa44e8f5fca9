-- The vector at a place of the list of all: its entries are the digits of the place. Assumes nothing.
use Rattle.std.specs.Prelude.{◌≡◌, refl, List, [], ◌∷◌, ℕ, ◌+◌, ◌*◌, ◌/◌, ◌%◌, ◌≤◌, ◌<◌, ℤ, pos, ◌-ℤ◌}
use Rattle.std.proofs.Common.{sym, ◌∙◌, subst, mul-one, mul_comm, mul_assoc, add-mul, add_assoc}
use Rattle.std.proofs.Common.{div-add-mod', mod-lt, div-lt_iff_lt-mul, arith}
use Rattle.std.proofs.Math.Path.{ap}
use Rattle.std.proofs.Math.ListN.{length, get_or}
use Rattle.integers.specs.Order.{part}
use Rattle.integers.specs.Differences.{Abs, gaps, parts}
use Rattle.integers.specs.Variables.{linear}
use Rattle.meaning.specs.StepVectors.{vectors}
use Rattle.meaning.specs.HowManyWork.{step_vector}
use Rattle.choices.specs.Vectors.{width, vectors_next, vectors_none, vector_at_lem}

-- a place among the vectors of two or three entries
pub record Placed (k loops j : ℕ) : Type 0 where
  pub few : k ≤ 3
  pub least : 2 ≤ loops
  pub most : loops ≤ 3
  pub place : j < length (vectors k loops)

module _ (k : ℕ) where
  abbrev w : ℕ
  w = width k

  -- how many there are of one, two and three entries
  one_long : length (vectors k 1) ≡ w
  one_long = vectors_next k 0 ∙ ap (λ (n : ℕ). w * n) (vectors_none k) ∙ mul-one w

  pub two_long : length (vectors k 2) ≡ w * w
  two_long = vectors_next k 1 ∙ ap (λ (n : ℕ). w * n) one_long

  pub three_long : length (vectors k 3) ≡ w * (w * w)
  three_long = vectors_next k 2 ∙ ap (λ (n : ℕ). w * n) two_long

  abbrev entry : ℕ → ℤ
  entry i = pos i -ℤ pos k

  one_at : (i : ℕ) → i < w → get_or (vectors k 1) i [] ≡ entry i ∷ []
  unfolding vectors
  one_at i h =
      let e : i * length (vectors k 0) + 0 ≡ i = omega (arith, vectors_none k) in
      ap (λ (n : ℕ). get_or (vectors k 1) n []) (sym e) ∙ vector_at_lem k 0 i 0 h (omega (arith, vectors_none k))

  two_at : (i j : ℕ) → i < w → j < w → get_or (vectors k 2) (i * w + j) [] ≡ entry i ∷ entry j ∷ []
  two_at i j h l =
      ap (λ (n : ℕ). get_or (vectors k 2) (i * n + j) []) (sym one_long)
      ∙ vector_at_lem k 1 i j h (subst (λ (n : ℕ). j < n) (sym one_long) l) ∙ ap (λ (v : List ℤ). entry i ∷ v) (one_at j l)

  three_at : (i j m : ℕ) → i < w → j * w + m < w * w → j < w → m < w
      → get_or (vectors k 3) (i * (w * w) + (j * w + m)) [] ≡ entry i ∷ entry j ∷ entry m ∷ []
  three_at i j m h l a b =
      ap (λ (n : ℕ). get_or (vectors k 3) (i * n + (j * w + m)) []) (sym two_long)
      ∙ vector_at_lem k 2 i (j * w + m) h (subst (λ (n : ℕ). j * w + m < n) (sym two_long) l)
      ∙ ap (λ (v : List ℤ). entry i ∷ v) (two_at j m a b)

  -- by the digits of the place
  some : 0 < w
  some = omega arith

  pub two_digits : (j : ℕ) → j < length (vectors k 2)
      → (j / w < w) × (j % w < w)
      × (step_vector (get_or (vectors k 2) j []) ≡ record { x = entry (j / w); y = entry (j % w); z = pos 0 })
  two_digits j h =
      let a : j / w < w = (div-lt_iff_lt-mul some).1 (subst (λ (n : ℕ). j < n) two_long h) in
      let b : j % w < w = mod-lt j some in (
        a,
        b,
        ap step_vector (ap (λ (n : ℕ). get_or (vectors k 2) n []) (sym (div-add-mod' j w)) ∙ two_at (j / w) (j % w) a b),
      )

  pub three_digits : (j : ℕ) → j < length (vectors k 3)
      → (j / w / w < w) × (j / w % w < w) × (j % w < w)
      × (step_vector (get_or (vectors k 3) j []) ≡ record { x = entry (j / w / w); y = entry (j / w % w); z = entry (j % w) })
  three_digits j h =
      let q = j / w in
      let r : q < w * w = (div-lt_iff_lt-mul some).1 (subst (λ (n : ℕ). j < n) (three_long ∙ mul_comm w (w * w)) h) in
      let a : q / w < w = (div-lt_iff_lt-mul some).1 r in
      let b : q % w < w = mod-lt q some in
      let c : j % w < w = mod-lt j some in
      let e : q / w * (w * w) + (q % w * w + j % w) ≡ j = digits (q / w) (q % w) (j % w) (div-add-mod' q w) (div-add-mod' j w) in (
        a,
        b,
        c,
        ap step_vector
            (ap (λ (n : ℕ). get_or (vectors k 3) n []) (sym e)
            ∙ three_at (q / w) (q % w) (j % w) a (omega (arith, part b w, c)) b c),
      )
    where
      digits : (i m l : ℕ) {q j : ℕ} → i * w + m ≡ q → q * w + l ≡ j → i * (w * w) + (m * w + l) ≡ j
      digits i m l e f =
          sym (add_assoc (i * (w * w)) (m * w) l)
          ∙ ap (λ (n : ℕ). n + l) (ap (λ (n : ℕ). n + m * w) (sym (mul_assoc i w w)) ∙ sym (add-mul (i * w) m w))
          ∙ ap (λ (n : ℕ). n * w + l) e ∙ f

-- entries are small
pub entry_small : (k i : ℕ) → k ≤ 3 → i < width k → Abs (pos i -ℤ pos k) 3
entry_small k i h l = go (pos i) (pos k) refl refl
  where
    go : (a b : ℤ) → a ≡ pos i → b ≡ pos k → Abs (a -ℤ b) 3
    go = linear 0 2 _ λ p m. simp (gaps, parts) (λ e f. omega arith)
