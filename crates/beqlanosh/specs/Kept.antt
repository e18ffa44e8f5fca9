-- What Window leaves in lent words. Assumes nothing.
use Rattle.std.specs.Prelude.{◌≡◌, refl, cond, List, [], ◌∷◌, ℕ, eqb}
use Rattle.std.proofs.Common.{sym, ◌∙◌, ap, eq-eqb, ne_eqb}
use Rattle.meaning.specs.Description.{description_of}
use Rattle.meaning.specs.Array.{array_of, part_start, elements_on}
use Rattle.answer_words.specs.Kept.{or_kept}
use Rattle.window.specs.declared.Piece.{Piece}
use Rattle.window.specs.Pieces.{piece_of}

-- where the part of a pipe begins and how long it is, unless the call is refused by n
abbrev pub window_values : List ℕ → ℕ → ℕ → List ℕ
window_values s pipe n = cond (eqb n 0)
    (part_start (array_of (description_of s)) pipe ∷ elements_on (array_of (description_of s)) pipe ∷ []) []

-- of the piece that is found, where n is the call's number
module _ (s : List ℕ) (pipe : ℕ) (words : List ℕ) {n : ℕ} where
  pub window_left : {p : Piece} → p ≡ piece_of (description_of s) pipe → 0 ≡ n
      → p.from ∷ p.length ∷ [] ≡ or_kept (window_values s pipe n) words
  window_left e q = ap (λ (p : Piece). p.from ∷ p.length ∷ []) e ∙ rw (eq-eqb n 0 (sym q)) refl

  pub window_declined : (n ≡ 0 → ⊥) → words ≡ or_kept (window_values s pipe n) words
  window_declined f = rw (ne_eqb n 0 f) refl
