-- Refusals tried in order: "where several apply, the first in the order listed for that call is given".
use Rattle.std.specs.Prelude.{Bool, cond, List, [], ◌∷◌, ℕ}

-- a refusal: its number, and whether it applies
pub record Test : Type 0 where
  pub number : ℕ
  pub applies : Bool

infix 20 ◌if◌
abbrev pub ◌if◌ : ℕ → Bool → Test
n if b = record { number = n; applies = b }

-- the number of the first that applies, 0 if none does
unfoldable pub refusal : List Test → ℕ
refusal [] = 0
refusal (t ∷ l) = cond t.applies t.number (refusal l)
