-- Where the words of a state stand: blocks one after the other, live words, and what every order of the words has in common. The order that
-- the program chose is in proofs/Places. Assumes nothing.
use Rattle.std.specs.Prelude.{◌≡◌, length, get_or, take}
use Rattle.std.proofs.Math.Path.{ap}
use mathlib.Core.List.{List, [], ◌∷◌}
use Prim.Native.Nat.{ℕ, zero, suc, ◌+◌, ◌≤◌, ◌<◌}
use native.Mathlib.Omega.{arith}
use Rattle.meaning.specs.Lists.{total}
use Rattle.meaning.specs.Array.{Array, process_count, stream_count, pipe_number, pipe_at}
use Rattle.meaning.specs.State.{Word, Firings, Taken, Given, Hand, Keep, Place, Sent, Received, End}
use Rattle.abstract_network.specs.Cases.{Order, less, at_least, order}

-- ---- blocks one after the other: block i of a list begins where those before it end

module _ {X : Type 0} (size : X → ℕ) (d : X) where
  block_end : (xs : List X) (i j : ℕ) → i < j → i < length xs → total size (take i xs) + size (get_or xs i d) ≤ total size (take j xs)
  unfolding total
  block_end [] i j h l = absurd (omega arith)
  block_end (x ∷ xs) zero zero h l = absurd (omega arith)
  block_end (x ∷ xs) zero (suc j) h l = omega arith
  block_end (x ∷ xs) (suc i) zero h l = absurd (omega arith)
  block_end (x ∷ xs) (suc i) (suc j) h l = omega (arith, block_end xs i j (omega arith) (omega arith))

  pub block_apart : (xs : List X) (i o j o' : ℕ) → i < length xs → j < length xs → o < size (get_or xs i d) → o' < size (get_or xs j d)
      → total size (take i xs) + o ≡ total size (take j xs) + o' → (i ≡ j) × (o ≡ o')
  block_apart xs i o j o' l l' h h' e = go (order i j) (order j i)
    where
      go : Order i j → Order j i → (i ≡ j) × (o ≡ o')
      go (less m) n = absurd (omega (arith, block_end xs i j m l))
      go (at_least m) (less n) = absurd (omega (arith, block_end xs j i n l'))
      go (at_least m) (at_least n) = let z : i ≡ j = omega arith in (z, omega (arith, ap (λ (i : ℕ). total size (take i xs)) z))

-- ---- live words

module _ (A : Array) where
  -- the words that a state has
  abbrev pub Live : Word → Type 0
  Live (Firings p) = p < process_count A
  Live (Taken p s) = (p < process_count A) × (s < stream_count A)
  Live (Given p s) = (p < process_count A) × (s < stream_count A)
  Live (Hand p s) = (p < process_count A) × (s < stream_count A)
  Live (Keep p s) = (p < process_count A) × (s < stream_count A)
  Live (Place p s i) = (p < process_count A) × (s < stream_count A) × (i < get_or A.hops s 0)
  Live (Sent q) = q < pipe_number A
  Live (Received q) = q < pipe_number A
  Live (End q i) = (q < pipe_number A) × (i < (pipe_at A q).hop)

  -- what every order of the words has in common
  pub record Layout (place : Word → ℕ) (count : ℕ) : Type 0 where
    pub apart : (v w : Word) → Live v → Live w → place v ≡ place w → v ≡ w
    pub below : (w : Word) → Live w → place w < count
