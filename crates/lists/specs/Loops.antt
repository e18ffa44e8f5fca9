-- Tests of numbers and of a list's members, as a loop makes them that stops at the first answer: a turn that goes on, one that stops, and
-- the end. Assumes nothing.
use Rattle.std.specs.Prelude.{◌≡◌, Bool, false, List, length, get_or, drop}
use Rattle.std.proofs.Common.{sym, ◌∙◌, drop_of_length-le, drop-cons}
use Rattle.std.proofs.Math.Path.{ap}
use Rattle.std.proofs.Math.Bool.{true, cond}
use Prim.Native.Nat.{ℕ, suc, ◌+◌, ◌-◌, ◌≤◌, ◌<◌}
use Rattle.std.proofs.Math.Numerals.{add-one}
use native.Mathlib.Omega.{arith}
use Rattle.meaning.specs.Lists.{any, every, numbers, numbers_from}

-- ---- the numbers below n, from i on

-- all pass; one does
abbrev pub every_left : (ℕ → Bool) → ℕ → ℕ → Bool
every_left f n i = every f (numbers_from i (n - i))

abbrev pub any_left : (ℕ → Bool) → ℕ → ℕ → Bool
any_left f n i = any f (numbers_from i (n - i))

module _ (f : ℕ → Bool) (n i : ℕ) where
  every_next : i < n → every_left f n i ≡ cond (f i) (every_left f n (i + 1)) false
  unfolding every numbers_from
  every_next h = let e : n - i ≡ suc (n - (i + 1)) = omega arith in rw (e, add-one i)

  pub every_turn : i < n → f i ≡ true → every_left f n i ≡ every_left f n (i + 1)
  every_turn h t = every_next h ∙ ap (λ (b : Bool). cond b (every_left f n (i + 1)) false) t

  pub every_stop : i < n → f i ≡ false → every_left f n i ≡ false
  every_stop h t = every_next h ∙ ap (λ (b : Bool). cond b (every_left f n (i + 1)) false) t

  pub every_end : n ≤ i → every_left f n i ≡ true
  unfolding every numbers_from
  every_end h = let e : n - i ≡ 0 = omega arith in ap (λ (k : ℕ). every f (numbers_from i k)) e

  any_next : i < n → any_left f n i ≡ cond (f i) true (any_left f n (i + 1))
  unfolding any numbers_from
  any_next h = let e : n - i ≡ suc (n - (i + 1)) = omega arith in rw (e, add-one i)

  pub any_turn : i < n → f i ≡ false → any_left f n i ≡ any_left f n (i + 1)
  any_turn h t = any_next h ∙ ap (λ (b : Bool). cond b true (any_left f n (i + 1))) t

  pub any_stop : i < n → f i ≡ true → any_left f n i ≡ true
  any_stop h t = any_next h ∙ ap (λ (b : Bool). cond b true (any_left f n (i + 1))) t

  pub any_end : n ≤ i → any_left f n i ≡ false
  unfolding any numbers_from
  any_end h = let e : n - i ≡ 0 = omega arith in ap (λ (k : ℕ). any f (numbers_from i k)) e

pub every_start : (f : ℕ → Bool) (n : ℕ) → every f (numbers n) ≡ every_left f n 0
every_start f n = let e : n ≡ n - 0 = omega arith in ap (λ (k : ℕ). every f (numbers_from 0 k)) e

pub any_start : (f : ℕ → Bool) (n : ℕ) → any f (numbers n) ≡ any_left f n 0
any_start f n = let e : n ≡ n - 0 = omega arith in ap (λ (k : ℕ). any f (numbers_from 0 k)) e

-- ---- the members of a list, from member i on: one passes

module _ {X : Type 0} (f : X → Bool) (l : List X) (d : X) where
  module _ (i : ℕ) (h : i < length l) where
    member_next : any f (drop i l) ≡ cond (f (get_or l i d)) true (any f (drop (i + 1) l))
    unfolding any
    member_next =
        ap (any f) (drop-cons l i d h) ∙ ap (λ (j : ℕ). cond (f (get_or l i d)) true (any f (drop j l))) (sym (add-one i))

    pub member_turn : f (get_or l i d) ≡ false → any f (drop i l) ≡ any f (drop (i + 1) l)
    member_turn e = member_next ∙ ap (λ (b : Bool). cond b true (any f (drop (i + 1) l))) e

    pub member_stop : f (get_or l i d) ≡ true → any f (drop i l) ≡ true
    member_stop e = member_next ∙ ap (λ (b : Bool). cond b true (any f (drop (i + 1) l))) e

  pub member_end : (i : ℕ) → length l ≤ i → any f (drop i l) ≡ false
  unfolding any
  member_end i h = ap (any f) (drop_of_length-le l h)
