-- Cases on numbers, as data: a clause matches them, and omega reads what each case holds. Assumes nothing.
use Rattle.std.specs.Prelude.{◌≡◌, refl, Bool, true, false, ℕ, ◌≤◌, ◌<◌, ltb, eqb}
use Rattle.std.proofs.Common.{ltb-true, ltb-false, eqb-true}
use Rattle.std.proofs.lemmas.Bool.{eqb-false}

pub data Order (a b : ℕ) : Type 0 where
  less : a < b → Order a b
  at_least : b ≤ a → Order a b

pub order : (a b : ℕ) → Order a b
order a b = go (ltb a b) refl
  where
    go : (t : Bool) → ltb a b ≡ t → Order a b
    go true e = less (ltb-true a b e)
    go false e = at_least (ltb-false a b e)

pub data Equal (a b : ℕ) : Type 0 where
  same : a ≡ b → Equal a b
  other : (a ≡ b → ⊥) → Equal a b

pub equal : (a b : ℕ) → Equal a b
equal a b = go (eqb a b) refl
  where
    go : (t : Bool) → eqb a b ≡ t → Equal a b
    go true e = same (eqb-true a b e)
    go false e = other (eqb-false a b e)
