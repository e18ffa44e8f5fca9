-- Sums over the entries of a stream, process by process. Assumes nothing.
use Rattle.std.specs.Prelude.{◌≡◌, Bool, true, false, not, cond, ℕ, suc, ◌+◌, ◌*◌, ◌≤◌, ◌<◌, T, length, take}
use Rattle.std.proofs.Math.Path.{refl}
use Rattle.std.proofs.Common.{sym, ◌∙◌, ap, subst, mul-le-mul, length-take-le}
use mathlib.Core.List.Memᴰ.{head as here}
use mathlib.Core.List.Memᴰ.{tail as there}
use mathlib.Core.List.{List, [], ◌∷◌, Memᴰ as In}
use native.Mathlib.Omega.{arith}
use Rattle.std.proofs.Math.Seq.{take-length}
use Rattle.integers.specs.Vectors.{zero2}
use Rattle.integers.specs.declared.V2.{V2}
use Rattle.meaning.specs.declared.Nest.{Nest}
use Rattle.meaning.specs.declared.Stream.{Stream}
use Rattle.meaning.specs.Lists.{filter, total}
use Rattle.meaning.specs.Space.{space, processes}
use Rattle.meaning.specs.Streams.{elements}
use Rattle.meaning.specs.Pipes.{entries, pipe, pipe_elements}
use Rattle.meaning.specs.Points.{Inside}
use Rattle.lists.specs.Tests.{filter_fewer}
use Rattle.geometry.specs.Sorting.{fewer}
use Rattle.geometry.specs.Places.{rank_yes, rank_no}
use Rattle.geometry.specs.Boxes.{inside_points}
use Rattle.geometry.specs.Pipes.{Accepted, in_pipe}
use Rattle.geometry.specs.Positions.{pipe_distinct}
use Rattle.geometry.specs.Elements.{entries_entry}
use Rattle.geometry.proofs.Elements.{pipes_total}
use Rattle.layout.specs.Spans.{process_of}
use Rattle.pipe_parts.specs.Starts.{entering, total_next, total_part}
use Rattle.figures.specs.declared.Sums.{Sums}

-- ---- lists

module _ {A : Type 0} where
  -- a sum that is no more than so many times another
  total_times : (g h : A → ℕ) (c : ℕ) (l : List A) → ((x : A) → In x l → g x ≤ c * h x) → total g l ≤ c * total h l
  unfolding total
  total_times g h c [] e = omega arith
  total_times g h c (x ∷ l) e = go (g x) (h x) (total g l) (total h l) (e x (here refl)) (total_times g h c l (λ y i. e y (there i)))
    where
      go : (a b u v : ℕ) → a ≤ c * b → u ≤ c * v → a + u ≤ c * (b + v)
      go a b u v p q = omega arith

-- ---- the steps of a stream

-- "twice its elements times one more than its processes"
abbrev pub steps_on : Nest → Stream → V2 → ℕ
steps_on n s y = 2 * (length (pipe_elements n s y) * suc (length (pipe n s y)))

-- the sums over some entries; over those of the first k processes
abbrev pub sums_over : Nest → Stream → List V2 → Sums
sums_over n s l = record { pipes = length l; steps = total (steps_on n s) l }

abbrev pub sums_at : Nest → Stream → ℕ → Sums
sums_at n s k = sums_over n s (filter (entering n s) (take k (processes n)))

abbrev pub no_sums : Sums
no_sums = record { pipes = 0; steps = 0 }

same_sums : {a b : Sums} → a.pipes ≡ b.pipes → a.steps ≡ b.steps → a ≡ b
same_sums e f = λ i. record { pipes = e i; steps = f i }

-- what keeps the sums small
pub record Under (n : Nest) (s : Stream) : Type 0 where
  pub few : length (processes n) ≤ 1024
  pub most : total (steps_on n s) (entries n s) ≤ 8396800

module _ (n : Nest) (s : Stream) where
  pub sums_zero : no_sums ≡ sums_at n s 0
  unfolding filter total
  sums_zero = go (processes n)
    where
      go : (l : List V2) → no_sums ≡ sums_over n s (filter (entering n s) (take 0 l))
      go [] = refl
      go (x ∷ l) = refl

  pub sums_all : (k : ℕ) → k ≡ length (processes n) → sums_at n s k ≡ sums_over n s (entries n s)
  sums_all k e =
      ap (λ (l : List V2). sums_over n s (filter (entering n s) l)) (ap (λ (k : ℕ). take k (processes n)) e ∙ take-length (processes n))

  module _ (p : ℕ) (lt : p < length (processes n)) where
    steps_next : (sums_at n s (suc p)).steps
        ≡ (sums_at n s p).steps + cond (entering n s (process_of n p)) (steps_on n s (process_of n p)) 0
    steps_next = total_next (steps_on n s) (entering n s) (processes n) p zero2 lt

    -- an entry adds its pipe
    pub sums_yes : entering n s (process_of n p) ≡ true → {r : Sums} → r.pipes ≡ (sums_at n s p).pipes + 1
        → r.steps ≡ (sums_at n s p).steps + steps_on n s (process_of n p) → r ≡ sums_at n s (suc p)
    sums_yes e {r} ea eb =
        same_sums (omega (arith, ea, rank_yes (entering n s) (processes n) p zero2 lt (subst T (sym e) tt)))
        (eb ∙ sym (steps_next ∙ ap (λ (b : Bool). (sums_at n s p).steps + cond b (steps_on n s (process_of n p)) 0) e))

    pub sums_no : entering n s (process_of n p) ≡ false → sums_at n s p ≡ sums_at n s (suc p)
    sums_no e =
        same_sums (sym (rank_no (entering n s) (processes n) p zero2 lt (subst (λ (b : Bool). T (not b)) (sym e) tt)))
        (omega (arith, steps_next ∙ ap (λ (b : Bool). (sums_at n s p).steps + cond b (steps_on n s (process_of n p)) 0) e))

    -- and the sums stay small
    pub steps_fit : Under n s → entering n s (process_of n p) ≡ true → (sums_at n s p).steps + steps_on n s (process_of n p) ≤ 8396800
    steps_fit u e =
        omega (
          arith,
          u.most,
          total_part (steps_on n s) (entering n s) (processes n) (suc p),
          steps_next ∙ ap (λ (b : Bool). (sums_at n s p).steps + cond b (steps_on n s (process_of n p)) 0) e,
        )

    pub pipes_fit : Under n s → (sums_at n s p).pipes ≤ 1024
    pipes_fit u = omega (arith, u.few, filter_fewer (entering n s) (take p (processes n)), length-take-le p (processes n) (omega arith))

-- ---- the bounds

module _ {n : Nest} {s : Stream} (h : Accepted n s) (few : length (processes n) ≤ 1024) (small : length (elements n s) ≤ 4096) where
  on_pipe_lem : (y : V2) → Inside (space n) y → length (pipe n s y) ≤ 1024
  on_pipe_lem y hy =
      omega (arith, fewer (pipe_distinct h y) (λ z i. inside_points (space n) z (in_pipe h hy i).0))

  times : (a l : ℕ) → l ≤ 1024 → 2 * (a * suc l) ≤ 2050 * a
  times a l h =
      let m : a * suc l ≤ a * 1025 = mul-le-mul {n₁ = a} {m₁ = suc l} {n₂ = a} {m₂ = 1025} (omega arith) (omega arith) in
      omega arith

  pub under : Under n s
  under =
      record {
        few = few;
        most =
            omega (
              arith,
              pipes_total h,
              small,
              total_times (steps_on n s) (λ y. length (pipe_elements n s y)) 2050 (entries n s)
                  (λ y i. times (length (pipe_elements n s y)) (length (pipe n s y)) (on_pipe_lem y (entries_entry h i).inside)),
            );
      }
