-- Tests, and what `any`, `position` and `filter` say of the members that pass one. Assumes nothing.
use Rattle.std.specs.Prelude.{◌≡◌, Bool, not, ◌&&◌, ◌||◌, T, get_or}
use Rattle.std.proofs.Math.Path.{refl, ap}
use Rattle.std.proofs.Common.{sym, ◌∙◌, true≢false}
use Rattle.std.proofs.Math.Bool.{true, false, cond}
use mathlib.Core.List.{List, [], ◌∷◌, ◌++◌, map}
use Prim.Native.Nat.{ℕ, zero, suc, ◌≤◌, ◌<◌}
use native.Mathlib.Omega.{arith}
use Rattle.std.proofs.Math.ListN.{length, take}
use Rattle.meaning.specs.Lists.{filter, any, position}

-- ---- tests

pub is_true : (b : Bool) → T b → b ≡ true
is_true true t = refl
is_true false t = absurd t

pub is_false : (b : Bool) → T (not b) → b ≡ false
is_false true t = absurd t
is_false false t = refl

-- a test of two parts
pub both_true : (a b : Bool) → (a && b) ≡ true → (a ≡ true) × (b ≡ true)
both_true true b h = (refl, h)
both_true false b h = absurd (true≢false (sym h))

pub true_both : {a b : Bool} → a ≡ true → b ≡ true → (a && b) ≡ true
true_both {a} {b} e f = ap (λ (t : Bool). t && b) e ∙ f

-- ---- some member passes

module _ {X : Type 0} (f : X → Bool) where
  pub any_append : (l m : List X) → any f (l ++ m) ≡ (any f l || any f m)
  unfolding any
  any_append [] m = refl
  any_append (x ∷ l) m = go (f x) (any_append l m)
    where
      go : (b : Bool) → any f (l ++ m) ≡ (any f l || any f m) → cond b true (any f (l ++ m)) ≡ (cond b true (any f l) || any f m)
      go true e = refl
      go false e = e

  pub any_map : (g : ℕ → X) (l : List ℕ) → any f (map g l) ≡ any (λ n. f (g n)) l
  unfolding any
  any_map g [] = refl
  any_map g (n ∷ l) = ap (cond (f (g n)) true) (any_map g l)

  -- one of two tests
  pub any_either : (g : X → Bool) (l : List X) → any (λ x. f x || g x) l ≡ (any f l || any g l)
  unfolding any
  any_either g [] = refl
  any_either g (x ∷ l) = go (f x) (g x) (any f l) (any_either g l)
    where
      go : (a b c : Bool) → any (λ x. f x || g x) l ≡ (c || any g l)
          → cond (a || b) true (any (λ x. f x || g x) l) ≡ (cond a true c || cond b true (any g l))
      go true b c e = refl
      go false true true e = refl
      go false true false e = refl
      go false false c e = e

-- ---- the first member that passes

module _ {X : Type 0} (f : X → Bool) where
  pub position_most : (l : List X) → position f l ≤ length l
  unfolding position
  position_most [] = omega arith
  position_most (x ∷ l) = go (f x) (position_most l)
    where
      go : (b : Bool) → position f l ≤ length l → cond b 0 (suc (position f l)) ≤ suc (length l)
      go true e = omega arith
      go false e = omega arith

  pub any_position : (l : List X) → any f l ≡ true → position f l < length l
  unfolding any position
  any_position [] h = absurd (true≢false (sym h))
  any_position (x ∷ l) h = go (f x) h (any_position l)
    where
      go : (b : Bool) → cond b true (any f l) ≡ true → (any f l ≡ true → position f l < length l)
          → cond b 0 (suc (position f l)) < suc (length l)
      go true h ih = omega arith
      go false h ih = omega (arith, ih h)

  -- it passes
  pub position_passes : (d : X) (l : List X) → position f l < length l → f (get_or l (position f l) d) ≡ true
  unfolding position
  position_passes d [] h = absurd (omega arith)
  position_passes d (x ∷ l) h = go (f x) refl h (position_passes d l)
    where
      go : (b : Bool) → f x ≡ b → cond b 0 (suc (position f l)) < suc (length l)
          → (position f l < length l → f (get_or l (position f l) d) ≡ true) → f (get_or (x ∷ l) (cond b 0 (suc (position f l))) d) ≡ true
      go true e h ih = e
      go false e h ih = ih (omega arith)

-- ---- the members that pass

module _ {X : Type 0} (f : X → Bool) where
  pub filter_fewer : (l : List X) → length (filter f l) ≤ length l
  unfolding filter
  filter_fewer [] = omega arith
  filter_fewer (x ∷ l) = go (f x) (filter_fewer l)
    where
      go : (b : Bool) → length (filter f l) ≤ length l → length (cond b (x ∷ filter f l) (filter f l)) ≤ suc (length l)
      go true e = omega arith
      go false e = omega arith

  -- those before some place are the first of all
  pub take_filter : (k : ℕ) (l : List X) → take (length (filter f (take k l))) (filter f l) ≡ filter f (take k l)
  unfolding filter
  take_filter zero [] = refl
  take_filter (suc k) [] = refl
  take_filter zero (x ∷ l) = go (cond (f x) (x ∷ filter f l) (filter f l))
    where
      go : (m : List X) → take 0 m ≡ []
      go [] = refl
      go (y ∷ m) = refl
  take_filter (suc k) (x ∷ l) = go (f x) (take_filter k l)
    where
      go : (b : Bool) → take (length (filter f (take k l))) (filter f l) ≡ filter f (take k l)
          → take (length (cond b (x ∷ filter f (take k l)) (filter f (take k l)))) (cond b (x ∷ filter f l) (filter f l))
          ≡ cond b (x ∷ filter f (take k l)) (filter f (take k l))
      go true e = ap (λ (m : List X). x ∷ m) e
      go false e = e
