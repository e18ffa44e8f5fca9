-- Lists filtered and searched.
use Rattle.std.specs.Prelude.{Bool, true, false, cond, List, [], ◌∷◌, ◌++◌, ℕ, zero, suc, ◌+◌}

module _ {A : Type 0} where
  -- the members that pass a test
  unfoldable pub filter : (A → Bool) → List A → List A
  filter f [] = []
  filter f (x ∷ l) = cond (f x) (x ∷ filter f l) (filter f l)

  -- some member passes; all do
  unfoldable pub any : (A → Bool) → List A → Bool
  any f [] = false
  any f (x ∷ l) = cond (f x) true (any f l)

  unfoldable pub every : (A → Bool) → List A → Bool
  every f [] = true
  every f (x ∷ l) = cond (f x) (every f l) false

  -- the number of members before the first that passes, of all if none does
  unfoldable pub position : (A → Bool) → List A → ℕ
  position f [] = 0
  position f (x ∷ l) = cond (f x) 0 (suc (position f l))

  -- x, or the first member that is better than all before it
  unfoldable pub best : (A → A → Bool) → A → List A → A
  best better x [] = x
  best better x (y ∷ l) = best better (cond (better y x) y x) l

  -- the same of a whole list, d if it is empty
  unfoldable pub best_or : A → (A → A → Bool) → List A → A
  best_or d better [] = d
  best_or d better (x ∷ l) = best better x l

  -- the sum of a number of each member
  unfoldable pub total : (A → ℕ) → List A → ℕ
  total f [] = 0
  total f (x ∷ l) = f x + total f l

module _ {A B : Type 0} where
  -- the lists of all members, one after the other
  unfoldable pub each : (A → List B) → List A → List B
  each f [] = []
  each f (x ∷ l) = f x ++ each f l

-- 0, 1, .., n − 1; n numbers from i on
unfoldable pub numbers_from : ℕ → ℕ → List ℕ
numbers_from i zero = []
numbers_from i (suc n) = i ∷ numbers_from (suc i) n

abbrev pub numbers : ℕ → List ℕ
numbers n = numbers_from 0 n
