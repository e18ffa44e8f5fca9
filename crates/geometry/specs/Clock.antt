-- The clock of a moving pipe: one number θ gives the step of every firing of every process on it. Assumes an accepted stream that moves.
use Rattle.std.specs.Prelude.{◌≡◌, refl, not, ℕ, ◌+◌, T, ℤ, pos, negsuc, ◌+ℤ◌, ◌-ℤ◌, ◌*ℤ◌, ◌<ℤ◌}
use Rattle.std.proofs.Common.{sym, ◌∙◌, ap, ap₂, arith}
use Rattle.integers.specs.Differences.{gaps, up, lt_out}
use Rattle.integers.specs.Variables.{linear}
use Rattle.integers.specs.Ring.{ring, quotes, given, ◌also◌, Ex.var, Ex.minus, Ex.plain}
use Rattle.integers.proofs.Ring.{solve_by}
use Rattle.integers.specs.Vectors.{shift3, shift2, image}
use Rattle.integers.proofs.Vectors.{dot_shift}
use Rattle.integers.specs.declared.V3.{V3}
use Rattle.integers.specs.declared.V2.{V2}
use Rattle.meaning.specs.declared.Nest.{Nest}
use Rattle.meaning.specs.declared.Stream.{Stream}
use Rattle.meaning.specs.Loops.{step_of, increment}
use Rattle.meaning.specs.Space.{box_of, space, first, computing}
use Rattle.meaning.specs.Streams.{line, stationary, hop}
use Rattle.meaning.specs.Pipes.{before, soak}
use Rattle.meaning.specs.Points.{Inside}
use Rattle.geometry.specs.Numbers.{no_cond}
use Rattle.geometry.specs.Lines.{coordinates, image_other}
use Rattle.geometry.specs.Boxes.{box_has}
use Rattle.geometry.specs.Segments.{first_at}
use Rattle.geometry.specs.Processes.{RunAt, run_at}
use Rattle.geometry.specs.Reach.{back_shift}
use Rattle.geometry.specs.Pipes.{Accepted, OnePipe, flip_pipe, join_pipe, moving_move, passes, in_space_lem}

-- θ of the pipe through y
pub record Clock (n : Nest) (s : Stream) (y : V2) : Type 0 where
  pub theta : ℤ
  pub step : (y' : V2) → Inside (space n) y' → OnePipe n s y y' → T (computing n y') → (i : ℕ)
      → step_of n (run_at n y' i) ≡ theta +ℤ pos (before n s y') *ℤ pos (hop n s) +ℤ pos (soak n s y' + i) *ℤ step_of n (increment n)

-- it is that of every point of the pipe
pub clock_from : {n : Nest} {s : Stream} {y y' : V2} → Clock n s y' → OnePipe n s y y' → Clock n s y
clock_from c o = record { theta = c.theta; step = λ z hz p t i. c.step z hz (join_pipe (flip_pipe o) p) t i }

module _ {n : Nest} {s : Stream} (h : Accepted n s) (moves : T (not (stationary n s))) where
  -- a moving stream's hop is the step of its line
  pub hop_is : pos (hop n s) ≡ step_of n (line n s)
  hop_is = ap pos (no_cond (stationary n s) 1 (up (step_of n (line n s))) moves) ∙ positive (step_of n (line n s)) h.lin.ahead
    where
      positive : (a : ℤ) → pos 0 <ℤ a → pos (up a) ≡ a
      positive (pos a) h = refl
      positive (negsuc a) h = absurd (omega (arith, lt_out h))

  -- how two processes of a pipe stand to each other
  pub before_shift : {y y' : V2} → Inside (space n) y → Inside (space n) y' → (o : OnePipe n s y y')
      → pos (before n s y') ≡ pos (before n s y) +ℤ o.by
  before_shift hy hy' o = back_shift (space n) h.goes o.by hy hy' o.eq
