-- The search for a number that is not among some others, as nested loops run it: those passed are marked, and the inner loop goes on from
-- where it stopped. Assumes nothing.
use Rattle.std.specs.Prelude.{◌≡◌, ◌⊎◌, Bool, true, false, List, ℕ, ◌+◌, ◌≤◌, ◌<◌, T, length, get_or, set}
use Rattle.std.proofs.Common.{sym, ◌∙◌, ap, subst, inl, inr, eq-or-lt_of_le, arith, get_or-set_same, get_or-set_other}
use Rattle.std.proofs.Math.Decide.{ℕ_discrete}

module _ (f : ℕ → ℕ) where
  -- e is one of f 0, .., f (c − 1)
  pub record Touch (c e : ℕ) : Type 0 where
    pub by : ℕ
    pub lt : by < c
    pub is : f by ≡ e

  -- whether some number below n is none of them
  pub data Misses (c n : ℕ) : Bool → Type 0 where
    untouched : (e : ℕ) → e < n → ((i : ℕ) → i < c → f i ≡ e → ⊥) → Misses c n true
    all_touched : ((e : ℕ) → e < n → Touch c e) → Misses c n false

  -- the marks say which of the numbers below n are among the first k
  pub record Marked (k n : ℕ) (marks : List Bool) : Type 0 where
    pub sound : (e : ℕ) → e < n → get_or marks e false ≡ true → Touch k e
    pub whole : (i : ℕ) → i < k → get_or marks (f i) false ≡ true

  pub touch_more : {k c e : ℕ} → k ≤ c → Touch k e → Touch c e
  touch_more h t = record { by = t.by; lt = omega (arith, t.lt); is = t.is }

  false_not : {b : Bool} → b ≡ false → b ≡ true → ⊥
  false_not e t = subst T (sym t ∙ e) tt

  pub none_marked : (n : ℕ) {marks : List Bool} → ((e : ℕ) → e < n → get_or marks e false ≡ false) → Marked 0 n marks
  none_marked n h = record { sound = λ e l t. absurd (false_not (h e l) t); whole = λ i l. absurd (omega arith) }

  -- one more passed
  pub marked_on : {k n : ℕ} {marks : List Bool} → Marked k n marks → f k < length marks → Marked (k + 1) n (set marks (f k) true)
  marked_on {k} {n} {marks} m room =
      record {
        sound = λ e l t. sound e l t (ℕ_discrete e (f k));
        whole = λ i l. whole i (eq-or-lt_of_le (let c : i ≤ k = omega arith in c)) (ℕ_discrete (f i) (f k));
      }
    where
      here : get_or (set marks (f k) true) (f k) false ≡ true
      here = get_or-set_same marks (f k) true false room

      sound : (e : ℕ) → e < n → get_or (set marks (f k) true) e false ≡ true → Dec (e ≡ f k) → Touch (k + 1) e
      sound e l t (yes q) = record { by = k; lt = omega arith; is = sym q }
      sound e l t (no q) = touch_more (omega arith) (m.sound e l (sym (get_or-set_other marks (f k) e true false q) ∙ t))

      whole : (i : ℕ) → (i ≡ k) ⊎ (i < k) → Dec (f i ≡ f k) → get_or (set marks (f k) true) (f i) false ≡ true
      whole i a (yes q) = ap (λ (e : ℕ). get_or (set marks (f k) true) e false) q ∙ here
      whole i (inl e) (no q) = absurd (q (ap f e))
      whole i (inr l) (no q) = get_or-set_other marks (f k) (f i) true false q ∙ m.whole i l

  -- what is not marked once all are passed is untouched
  pub not_marked : {c n e : ℕ} {marks : List Bool} → Marked c n marks → e < n → get_or marks e false ≡ false → Misses c n true
  not_marked {e} {marks} m l h = untouched e l λ i b q. false_not (ap (λ (j : ℕ). get_or marks j false) q ∙ h) (m.whole i b)

  -- the outer loop goes on
  pub touched_on : {c e : ℕ} → ((q : ℕ) → q < e → Touch c q) → Touch c e → (q : ℕ) → q < e + 1 → Touch c q
  touched_on {c} {e} h t q l = go (eq-or-lt_of_le (let b : q ≤ e = omega arith in b))
    where
      go : (q ≡ e) ⊎ (q < e) → Touch c q
      go (inl p) = subst (Touch c) (sym p) t
      go (inr b) = h q b
