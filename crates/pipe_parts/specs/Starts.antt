-- The entries of a stream before a process, and the elements of their pipes. Assumes nothing.
use Rattle.std.specs.Prelude.{◌≡◌, Bool, not, cond, ◌&&◌, T, length, get_or, take}
use Rattle.std.proofs.Math.Path.{refl}
use Rattle.std.proofs.Common.{sym, ◌∙◌, ap, subst, length-take}
use Rattle.std.proofs.Math.Bool.{true, false}
use mathlib.Core.List.{List, [], ◌∷◌}
use Prim.Native.Nat.{ℕ, zero, suc, ◌+◌, ◌≤◌, ◌<◌}
use native.Mathlib.Omega.{arith}
use Rattle.integers.specs.Vectors.{zero2}
use Rattle.integers.specs.declared.V2.{V2}
use Rattle.meaning.specs.declared.Nest.{Nest}
use Rattle.meaning.specs.declared.Stream.{Stream}
use Rattle.meaning.specs.Lists.{filter, total}
use Rattle.meaning.specs.Space.{processes}
use Rattle.meaning.specs.Streams.{elements}
use Rattle.meaning.specs.Pipes.{is_entry, is_pipe, pipe_elements}
use Rattle.lists.specs.Tests.{filter_fewer}
use Rattle.geometry.specs.Places.{rank, rank_zero, rank_yes, rank_no}
use Rattle.geometry.specs.Pipes.{Accepted}
use Rattle.geometry.proofs.Elements.{pipes_total}
use Rattle.layout.specs.Spans.{process_of}
use Rattle.survey.specs.declared.Flow.{Flow}
use Rattle.lanes.specs.Flow.{Seen}

-- ---- lists

module _ {A : Type 0} where
  -- one more member looked at
  pub total_next : (g : A → ℕ) (f : A → Bool) (l : List A) (k : ℕ) (d : A) → k < length l
      → total g (filter f (take (suc k) l)) ≡ total g (filter f (take k l)) + cond (f (get_or l k d)) (g (get_or l k d)) 0
  unfolding filter total
  total_next g f [] k d h = absurd (omega arith)
  total_next g f (x ∷ l) zero d h = go (f x) (none l)
    where
      none : (l : List A) → total g (filter f (take 0 l)) ≡ 0
      none [] = refl
      none (x ∷ l) = refl

      go : (b : Bool) → total g (filter f (take 0 l)) ≡ 0
          → total g (cond b (x ∷ filter f (take 0 l)) (filter f (take 0 l))) ≡ 0 + cond b (g x) 0
      go true e = omega (arith, e)
      go false e = omega (arith, e)
  total_next g f (x ∷ l) (suc k) d h = go (f x) (total_next g f l k d (omega arith))
    where
      go : (b : Bool) → total g (filter f (take (suc k) l)) ≡ total g (filter f (take k l)) + cond (f (get_or l k d)) (g (get_or l k d)) 0
          → total g (cond b (x ∷ filter f (take (suc k) l)) (filter f (take (suc k) l)))
          ≡ total g (cond b (x ∷ filter f (take k l)) (filter f (take k l))) + cond (f (get_or l k d)) (g (get_or l k d)) 0
      go true e = omega (arith, e)
      go false e = e

  -- a first part is no more than the whole
  pub total_part : (g : A → ℕ) (f : A → Bool) (l : List A) (k : ℕ) → total g (filter f (take k l)) ≤ total g (filter f l)
  unfolding filter total
  total_part g f [] zero = omega arith
  total_part g f [] (suc k) = omega arith
  total_part g f (x ∷ l) zero = omega arith
  total_part g f (x ∷ l) (suc k) = go (f x) (total_part g f l k)
    where
      go : (b : Bool) → total g (filter f (take k l)) ≤ total g (filter f l)
          → total g (cond b (x ∷ filter f (take k l)) (filter f (take k l))) ≤ total g (cond b (x ∷ filter f l) (filter f l))
      go true e = omega arith
      go false e = e

-- ---- the entries of a stream

abbrev pub entering : Nest → Stream → V2 → Bool
entering n s y = is_entry n s y && is_pipe n s y

pub entering_entry : (n : Nest) (s : Stream) (y : V2) → entering n s y ≡ true → is_entry n s y ≡ true
entering_entry n s y e = go (is_entry n s y) e
  where
    go : (b : Bool) → b && is_pipe n s y ≡ true → b ≡ true
    go true e = refl
    go false e = e

pub entering_pipe : (n : Nest) (s : Stream) (y : V2) → entering n s y ≡ true → is_pipe n s y ≡ true
entering_pipe n s y e = go (is_entry n s y) e
  where
    go : (b : Bool) → b && is_pipe n s y ≡ true → is_pipe n s y ≡ true
    go true e = e
    go false e = absurd (subst (λ (b : Bool). T (not b)) e tt)

-- ---- where parts begin

abbrev length_on : Nest → Stream → V2 → ℕ
length_on n s y = length (pipe_elements n s y)

-- those of the pipe that enters at process p, if one does
abbrev pub entering_length : Nest → Stream → ℕ → ℕ
entering_length n s p = cond (entering n s (process_of n p)) (length_on n s (process_of n p)) 0

-- one, if one does
abbrev pub entering_one : Nest → Stream → ℕ → ℕ
entering_one n s p = cond (entering n s (process_of n p)) 1 0

module _ (n : Nest) (s : Stream) (p : ℕ) where
  pub length_yes : entering n s (process_of n p) ≡ true → {r : ℕ} → r ≡ length_on n s (process_of n p) → r ≡ entering_length n s p
  length_yes e h = h ∙ sym (ap (λ (b : Bool). cond b (length_on n s (process_of n p)) 0) e)

  pub length_no : entering n s (process_of n p) ≡ false → 0 ≡ entering_length n s p
  length_no e = sym (ap (λ (b : Bool). cond b (length_on n s (process_of n p)) 0) e)

  pub one_yes : entering n s (process_of n p) ≡ true → 1 ≡ entering_one n s p
  one_yes e = sym (ap (λ (b : Bool). cond b 1 0) e)

  pub one_no : entering n s (process_of n p) ≡ false → 0 ≡ entering_one n s p
  one_no e = sym (ap (λ (b : Bool). cond b 1 0) e)

-- the elements of the pipes that enter before process p, after `first` others
abbrev pub start_at : Nest → Stream → ℕ → ℕ → ℕ
start_at n s first p = first + total (length_on n s) (filter (entering n s) (take p (processes n)))

-- what the passes over the processes are lent
pub record Counting (f : Flow) (count : ℕ) (spans lanes : List ℕ) : Type 0 where
  pub seen : Seen f spans lanes
  pub counted : count ≡ length (processes f.nest)

module _ (n : Nest) (s : Stream) (first : ℕ) where
  pub start_zero : first ≡ start_at n s first 0
  unfolding filter total
  start_zero = go (processes n)
    where
      go : (l : List V2) → first ≡ first + total (length_on n s) (filter (entering n s) (take 0 l))
      go [] = omega arith
      go (x ∷ l) = omega arith

  pub start_next : (p : ℕ) → p < length (processes n) → (k : ℕ) → k ≡ entering_length n s p
      → start_at n s first p + k ≡ start_at n s first (suc p)
  start_next p h k e = omega (arith, e, total_next (length_on n s) (entering n s) (processes n) p zero2 h)

module _ (n : Nest) (s : Stream) where
  -- the pipes that enter before process p
  abbrev pub entered_at : ℕ → ℕ
  entered_at p = rank (entering n s) p (processes n)

  pub entered_zero : 0 ≡ entered_at 0
  entered_zero = sym (rank_zero (entering n s) (processes n))

  pub entered_next : (p : ℕ) → p < length (processes n) → (k : ℕ) → k ≡ entering_one n s p → entered_at p + k ≡ entered_at (suc p)
  entered_next p h k e = go (entering n s (process_of n p)) refl e
    where
      go : (b : Bool) → entering n s (process_of n p) ≡ b → k ≡ cond b 1 0 → entered_at p + k ≡ entered_at (suc p)
      go true q e = omega (arith, e, rank_yes (entering n s) (processes n) p zero2 h (subst T (sym q) tt))
      go false q e = omega (arith, e, rank_no (entering n s) (processes n) p zero2 h (subst (λ (b : Bool). T (not b)) (sym q) tt))

  pub entered_le : (p : ℕ) → entered_at p ≤ length (processes n)
  entered_le p = omega (arith, filter_fewer (entering n s) (take p (processes n)), length-take p (processes n))

pub start_most : {n : Nest} {s : Stream} → Accepted n s → length (elements n s) ≤ 4096 → (first p : ℕ) → start_at n s first p ≤ first + 4096
start_most {n} {s} h small first p =
    omega (arith, total_part (length_on n s) (entering n s) (processes n) p, pipes_total h)
