-- Tests and what they say: the tests of hands, uses and offers, as the rules make them, decide the conditions of the abstract network.
-- Assumes nothing.
use Rattle.std.specs.Prelude.{◌≡◌, refl, Bool, true, false, not, cond, ◌&&◌, ◌||◌, ◌⊎◌, ℕ, suc, ◌+◌, ◌≤◌, ◌<◌, ltb, leb, eqb}
use Rattle.std.proofs.Common.{inl, inr, arith, ltb-true, ltb-false, leb-true, leb-false, eqb-true}
use Rattle.std.proofs.lemmas.Bool.{eqb-false}
use Rattle.meaning.specs.Lists.{every, numbers}
use Rattle.meaning.specs.Array.{Array}
use Rattle.meaning.specs.Rules.{hand_empty, can_use, can_offer, sound_hand}
use Rattle.lists.specs.Rows.{every_numbers, numbers_every}
use Rattle.abstract_network.specs.Cases.{Order, less, at_least, order}
use Rattle.abstract_network.specs.Counters.{through, keep, Hand, empty, first, free, Offer, soaked, drained, used, passed, kept, Use, hand}
use Rattle.abstract_network.specs.Counters.{held}
use Rattle.abstract_network.specs.Sound.{Balance, even, ahead, untaken, keeping, given}
use Rattle.network.specs.Wiring.{kind_of}

-- b says whether A
pub data Says (A : Type 0) : Bool → Type 0 where
  holds : A → Says A true
  fails : (A → ⊥) → Says A false

module _ {A B : Type 0} where
  pub says_and : {a b : Bool} → Says A a → Says B b → Says (A × B) (a && b)
  says_and (holds x) (holds y) = holds (x, y)
  says_and (holds x) (fails n) = fails (λ z. n z.1)
  says_and (fails n) s = fails (λ z. n z.0)

  pub says_or : {a b : Bool} → Says A a → Says B b → Says (A ⊎ B) (a || b)
  says_or (holds x) s = holds (inl x)
  says_or (fails n) (holds y) = holds (inr y)
  says_or (fails n) (fails m) = fails neither
    where
      neither : A ⊎ B → ⊥
      neither (inl x) = n x
      neither (inr y) = m y

  pub says_as : {b : Bool} → (A → B) → (B → A) → Says A b → Says B b
  says_as f g (holds x) = holds (f x)
  says_as f g (fails n) = fails (λ y. n (g y))

pub says_not : {A : Type 0} {b : Bool} → Says A b → Says (A → ⊥) (not b)
says_not (holds x) = fails (λ n. n x)
says_not (fails n) = holds n

pub says_lt : (a b : ℕ) → Says (a < b) (ltb a b)
says_lt a b = go (ltb a b) refl
  where
    go : (t : Bool) → ltb a b ≡ t → Says (a < b) t
    go true e = holds (ltb-true a b e)
    go false e = fails (λ l. omega (arith, ltb-false a b e))

pub says_le : (a b : ℕ) → Says (a ≤ b) (leb a b)
says_le a b = go (leb a b) refl
  where
    go : (t : Bool) → leb a b ≡ t → Says (a ≤ b) t
    go true e = holds (leb-true a b e)
    go false e = fails (λ l. omega (arith, leb-false a b e))

pub says_eq : (a b : ℕ) → Says (a ≡ b) (eqb a b)
says_eq a b = go (eqb a b) refl
  where
    go : (t : Bool) → eqb a b ≡ t → Says (a ≡ b) t
    go true e = holds (eqb-true a b e)
    go false e = fails (eqb-false a b e)

-- a second test that makes sense only where the first passed
pub says_then : {A B : Type 0} {a b : Bool} → Says A a → (A → Says B b) → Says (A × B) (a && b)
says_then (holds x) f = says_as (λ y. (x, y)) (λ z. z.1) (f x)
says_then (fails n) f = fails (λ z. n z.0)

module _ {A : Type 0} where
  pub said : {b : Bool} → Says A b → b ≡ true → A
  said (holds x) e = x
  said (fails n) e = absurd (let z : ◌≡◌ {A = ℕ} 0 1 = cc in omega arith)

  pub says_true : {b : Bool} → Says A b → A → b ≡ true
  says_true (holds x) y = refl
  says_true (fails n) y = absurd (n y)

  -- under a test that passed
  pub says_given : (a b : Bool) → a ≡ true → Says A b → Says A (a && b)
  says_given true b e s = s
  says_given false b e s = absurd (let z : ◌≡◌ {A = ℕ} 0 1 = cc in omega arith)

-- for all numbers below n
pub says_every : {P : ℕ → Type 0} (f : ℕ → Bool) (n : ℕ) → ((j : ℕ) → j < n → Says (P j) (f j))
    → Says ((j : ℕ) → j < n → P j) (every f (numbers n))
says_every {P} f n h = go (every f (numbers n)) refl
  where
    go : (b : Bool) → every f (numbers n) ≡ b → Says ((j : ℕ) → j < n → P j) b
    go true e = holds (λ j l. said (h j l) (every_numbers f 0 n e j (omega arith) (omega arith)))
    go false e =
        fails
        (λ k. let d : every f (numbers n) ≡ true = numbers_every f 0 n (λ j _ l. says_true (h j (omega arith)) (k j (omega arith))) in
        let z : ◌≡◌ {A = ℕ} 0 1 = cc in omega arith)

-- ---- the tests at a stop, on numbers x', y', f' equal to the counters x, y, f

module _ (A : Array) (n s t x y f x' y' f' : ℕ) (ex : x' ≡ x) (ey : y' ≡ y) (ef : f' ≡ f) where
  pub says_hand : (b : Bool) → Says (Hand n s t x y f (kind_of b)) (hand_empty A b x' y')
  says_hand false = says_as (λ e. empty (omega arith)) to (says_eq x' y')
    where
      to : Hand n s t x y f through → x' ≡ y'
      to (empty e) = omega arith
  says_hand true = says_as from to (says_or (says_eq x' 0) (says_eq x' (suc y')))
    where
      from : (x' ≡ 0) ⊎ (x' ≡ suc y') → Hand n s t x y f keep
      from (inl e) = first (omega arith)
      from (inr e) = free (omega arith)

      to : Hand n s t x y f keep → (x' ≡ 0) ⊎ (x' ≡ suc y')
      to (first e) = inl (omega arith)
      to (free e) = inr (omega arith)

  pub says_use : (b : Bool) → Balance n x y (kind_of b) → Says (Use n s t x y f (kind_of b)) (can_use A b n s x' y' f')
  says_use false B = says_as (λ p. hand (omega arith) (omega arith)) to (says_and (says_eq x' (suc y')) (says_eq y' (s + f')))
    where
      to : Use n s t x y f through → (x' ≡ suc y') × (y' ≡ s + f')
      to (hand a b) = (omega arith, omega arith)
  says_use true B = says_as from to (says_and (says_lt 0 x') (says_lt y' n))
    where
      held_of : 0 < x' → y' < n → Balance n x y keep → y < x
      held_of a b (untaken d e) = absurd (omega arith)
      held_of a b (keeping d e g) = omega arith
      held_of a b (given d e) = absurd (omega arith)

      from : (0 < x') × (y' < n) → Use n s t x y f keep
      from p = held (held_of p.0 p.1 B)

      lt_of : y < x → Balance n x y keep → y' < n
      lt_of a (untaken d e) = absurd (omega arith)
      lt_of a (keeping d e g) = omega arith
      lt_of a (given d e) = absurd (omega arith)

      to : Use n s t x y f keep → (0 < x') × (y' < n)
      to (held a) = (omega arith, lt_of a B)

  pub says_offer : (b : Bool) → Balance n x y (kind_of b) → Says (Offer n s t x y f (kind_of b)) (can_offer A b n s t x' y' f')
  says_offer false B =
      says_as from to (says_and (says_eq x' (suc y')) (says_or (says_or (says_lt y' s) (says_le (s + t) y')) (says_lt y' (s + f'))))
    where
      pick : x' ≡ suc y' → ((y' < s) ⊎ (s + t ≤ y')) ⊎ (y' < s + f') → Offer n s t x y f through
      pick l (inl (inl a)) = soaked (omega arith) (omega arith)
      pick l (inl (inr a)) = drained (omega arith) (omega arith)
      pick l (inr a) = used (omega arith) (omega arith)

      from : (x' ≡ suc y') × (((y' < s) ⊎ (s + t ≤ y')) ⊎ (y' < s + f')) → Offer n s t x y f through
      from p = pick p.0 p.1

      next : y < x → Balance n x y through → x' ≡ suc y'
      next l (even a) = absurd (omega arith)
      next l (ahead a) = omega arith

      to : Offer n s t x y f through → (x' ≡ suc y') × (((y' < s) ⊎ (s + t ≤ y')) ⊎ (y' < s + f'))
      to (soaked l a) = (next l B, inl (inl (omega arith)))
      to (drained l a) = (next l B, inl (inr (omega arith)))
      to (used l a) = (next l B, inr (omega arith))
  says_offer true B =
      says_as from to (says_or (says_eq x' (suc (suc y'))) (says_and (says_and (says_eq x' (suc y')) (says_eq x' n)) (says_eq f' t)))
    where
      from : (x' ≡ suc (suc y')) ⊎ (((x' ≡ suc y') × (x' ≡ n)) × (f' ≡ t)) → Offer n s t x y f keep
      from (inl e) = passed (omega arith)
      from (inr e) = kept (omega arith) (omega arith) (omega arith)

      to : Offer n s t x y f keep → (x' ≡ suc (suc y')) ⊎ (((x' ≡ suc y') × (x' ≡ n)) × (f' ≡ t))
      to (passed e) = inl (omega arith)
      to (kept a b d) = inr ((omega arith, omega arith), omega arith)

  -- a sound hand, both counts being within the pipe's elements
  pub says_balance : (b : Bool) → x ≤ n → y ≤ n → Says (Balance n x y (kind_of b)) (sound_hand A b n x' y')
  says_balance false h l = says_as from to (says_or (says_eq x' y') (says_eq x' (suc y')))
    where
      from : (x' ≡ y') ⊎ (x' ≡ suc y') → Balance n x y through
      from (inl e) = even (omega arith)
      from (inr e) = ahead (omega arith)

      to : Balance n x y through → (x' ≡ y') ⊎ (x' ≡ suc y')
      to (even e) = inl (omega arith)
      to (ahead e) = inr (omega arith)
  says_balance true h l = zero_first (says_eq x' 0)
    where
      Holding : Type 0
      Holding = (x' ≡ suc y') ⊎ (x' ≡ suc (suc y'))

      from : (y' ≡ n → ⊥) → Holding → Balance n x y keep
      from a (inl e) = keeping (omega arith) (omega arith) (omega arith)
      from a (inr e) = keeping (omega arith) (omega arith) (omega arith)

      to : (x' ≡ 0 → ⊥) → (y' ≡ n → ⊥) → Order (suc y') x' → Balance n x y keep → Holding
      to a b o (untaken d e) = absurd (a (omega arith))
      to a b (less o) (keeping d e g) = inr (omega arith)
      to a b (at_least o) (keeping d e g) = inl (omega arith)
      to a b o (given d e) = absurd (b (omega arith))

      none : x' ≡ 0 → Balance n x y keep → y' ≡ 0
      none e (untaken a b) = omega arith
      none e (keeping a b d) = absurd (omega arith)
      none e (given a b) = omega arith

      all : y' ≡ n → (x' ≡ 0 → ⊥) → Balance n x y keep → x' ≡ n
      all e g (untaken a b) = absurd (g (omega arith))
      all e g (keeping a b d) = absurd (omega arith)
      all e g (given a b) = omega arith

      last : {b : Bool} → (x' ≡ 0 → ⊥) → Says (y' ≡ n) b
          → Says (Balance n x y keep) (cond b (eqb x' n) (eqb x' (suc y') || eqb x' (suc (suc y'))))
      last a (holds e) = says_as (λ d. given (omega arith) (omega arith)) (all e a) (says_eq x' n)
      last a (fails m) = says_as (from m) (to a m (order (suc y') x')) (says_or (says_eq x' (suc y')) (says_eq x' (suc (suc y'))))

      zero_first : {b : Bool} → Says (x' ≡ 0) b
          → Says (Balance n x y keep) (cond b (eqb y' 0) (cond (eqb y' n) (eqb x' n) (eqb x' (suc y') || eqb x' (suc (suc y')))))
      zero_first (holds e) = says_as (λ d. untaken (omega arith) (omega arith)) (none e) (says_eq y' 0)
      zero_first (fails m) = last m (says_eq y' n)
