-- The processes of a pipe by their positions: 0 is the entry, and each next one is a move on. Assumes an accepted stream.
use Rattle.std.specs.Prelude.{◌≡◌, Bool, true, false, cond, ℕ, suc, ◌+◌, ◌<◌, length, get_or, ℤ, pos, negsuc, ◌+ℤ◌, ◌-ℤ◌, ◌<ℤ◌}
use Rattle.std.proofs.Common.{sym, ◌∙◌, ap, arith}
use Rattle.integers.specs.Differences.{up, lt_out, eq_out, Is-eq, Is-add, Is-neg, Is-pos}
use Rattle.integers.specs.Vectors.{shift2}
use Rattle.integers.specs.declared.V2.{V2}
use Rattle.meaning.specs.declared.Nest.{Nest}
use Rattle.meaning.specs.declared.Stream.{Stream}
use Rattle.meaning.specs.Loops.{step_of}
use Rattle.meaning.specs.Space.{space}
use Rattle.meaning.specs.Streams.{line, stationary, move, hop}
use Rattle.meaning.specs.Pipes.{reach, line_in, pipe, before}
use Rattle.meaning.specs.Points.{Inside}
use Rattle.meaning.specs.Sorted.{Sorted, Distinct}
use Rattle.geometry.specs.Numbers.{shift_shift}
use Rattle.geometry.specs.Places.{ahead, get_d_in}
use Rattle.geometry.specs.Reach.{back_shift}
use Rattle.geometry.specs.BoxLines.{march_sorted, line_distinct, line_length, line_at_lem, ahead_line}
use Rattle.geometry.specs.Pipes.{Accepted, OnePipe, in_pipe}

module _ {n : Nest} {s : Stream} (h : Accepted n s) where
  -- a process stands once on its pipe, at the position that `before` says
  pub pipe_distinct : (y : V2) → Distinct (pipe n s y)
  unfolding pipe
  pipe_distinct y = line_distinct (space n) (move n s) h.goes y

  pub pipe_sorted : (y : V2) → Sorted (λ p p'. (k : ℕ) × (p' ≡ shift2 p (pos (suc k)) (move n s))) (pipe n s y)
  unfolding pipe line_in
  pipe_sorted y = march_sorted _ (move n s) _

  pub before_is : (y : V2) → ahead y (pipe n s y) ≡ before n s y
  unfolding pipe
  before_is y = ahead_line (space n) (move n s) h.goes y

  pub pipe_length : (y : V2) → length (pipe n s y) ≡ before n s y + suc (reach (space n) (move n s) y)
  unfolding pipe
  pipe_length y = line_length (space n) (move n s) y

  -- what stands at position k
  pub pipe_at_lem : (y : V2) (k : ℕ) (d : V2) → k < length (pipe n s y)
      → get_or (pipe n s y) k d ≡ shift2 y (pos k -ℤ pos (before n s y)) (move n s)
  unfolding pipe
  pipe_at_lem y k d l = line_at_lem (space n) (move n s) y k d l

  pub at_inside : {y : V2} → Inside (space n) y → (k : ℕ) (d : V2) → k < length (pipe n s y) → Inside (space n) (get_or (pipe n s y) k d)
  at_inside {y} hy k d l = (in_pipe h hy (get_d_in (pipe n s y) k d l)).0

  pub at_pipe : (y : V2) (k : ℕ) (d : V2) → k < length (pipe n s y) → OnePipe n s y (get_or (pipe n s y) k d)
  at_pipe y k d l = record { by = pos k -ℤ pos (before n s y); eq = pipe_at_lem y k d l }

  -- has position k
  pub before_at : {y : V2} → Inside (space n) y → (k : ℕ) (d : V2) → k < length (pipe n s y) → before n s (get_or (pipe n s y) k d) ≡ k
  before_at {y} hy k d l =
      natural (before n s (get_or (pipe n s y) k d)) (before n s y) k
      (back_shift (space n) h.goes (pos k -ℤ pos (before n s y)) hy (at_inside hy k d l) (pipe_at_lem y k d l))
    where
      natural : (p q k : ℕ) → pos p ≡ pos q +ℤ (pos k -ℤ pos q) → p ≡ k
      natural p q k e =
          omega (arith, eq_out (e ∙ Is-eq (Is-add (Is-pos q) (Is-add (Is-pos k) (Is-neg (Is-pos q)))) (Is-pos k) (omega arith)))

  -- and the next is a move on
  pub pipe_next : (y : V2) (k : ℕ) (d : V2) → suc k < length (pipe n s y)
      → get_or (pipe n s y) (suc k) d ≡ shift2 (get_or (pipe n s y) k d) (pos 1) (move n s)
  pipe_next y k d l =
      pipe_at_lem y (suc k) d l ∙ ap (λ (w : ℤ). shift2 y w (move n s)) (one k (before n s y))
      ∙ sym (ap (λ (w : V2). shift2 w (pos 1) (move n s)) (pipe_at_lem y k d (omega arith))
      ∙ shift_shift y (move n s) (pos k -ℤ pos (before n s y)) (pos 1))
    where
      one : (k p : ℕ) → pos (suc k) -ℤ pos p ≡ (pos k -ℤ pos p) +ℤ pos 1
      one k p =
          Is-eq (Is-add (Is-pos (suc k)) (Is-neg (Is-pos p))) (Is-add (Is-add (Is-pos k) (Is-neg (Is-pos p))) (Is-pos 1)) (omega arith)

  -- every link has a place
  pub hop_positive : 0 < hop n s
  hop_positive = go (stationary n s) (step_of n (line n s)) h.lin.ahead
    where
      go : (b : Bool) (a : ℤ) → pos 0 <ℤ a → 0 < cond b 1 (up a)
      go true a h = omega arith
      go false (pos a) h = omega (arith, lt_out h)
      go false (negsuc a) h = absurd (omega (arith, lt_out h))
