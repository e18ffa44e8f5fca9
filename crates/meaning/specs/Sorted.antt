-- Lists in an order, and lists without repetition, as the demands speak of them.
use Rattle.std.specs.Prelude.{◌≡◌}
use mathlib.Core.List.{List, [], ◌∷◌, Memᴰ as In}

module _ {A : Type 0} where
  -- each member stands in R to all behind it
  pub data Sorted (R : A → A → Type 0) : List A → Type 0 where
    none : Sorted R []
    more : {x : A} {l : List A} → ((y : A) → In y l → R x y) → Sorted R l → Sorted R (x ∷ l)

  -- no member twice
  abbrev pub Distinct : List A → Type 0
  Distinct l = Sorted (λ x y. x ≡ y → ⊥) l
