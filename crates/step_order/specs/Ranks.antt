-- The step of a rank, and the rank of a step. Assumes nothing.
use Rattle.std.specs.Prelude.{cond, ℕ, suc, ◌+◌, ◌*◌, ◌-◌, ◌/◌, ◌%◌, ◌≤◌, ◌<◌, eqb, ltb}
use Rattle.std.proofs.Common.{mul-le-mul, mul-le-mul_right, arith}
use Rattle.meaning.specs.declared.Step.{Step}
use Rattle.meaning.specs.declared.Step.TheVariants.{Send, Take, Fire, Give, Receive}
use Rattle.port_table.specs.declared.Size.{Size}

-- sizes within those of an accepted description
pub record Sized (z : Size) : Type 0 where
  pub processes : z.processes ≤ 1024
  pub streams : z.streams ≤ 6
  pub pipes : z.pipes ≤ 6144

-- how many steps a process has, and how many there are
abbrev pub width : Size → ℕ
width z = 2 * z.streams + 1

abbrev pub rank_count : Size → ℕ
rank_count z = 2 * z.pipes + z.processes * width z

-- the o-th step of process p: takes by stream, fire, gives by stream
abbrev pub process_step : Size → ℕ → ℕ → Step
process_step z p o = cond (ltb o z.streams) (Take p o) (cond (eqb o z.streams) (Fire p) (Give p (o - z.streams - 1)))

-- sends by pipe, then the steps of the processes, then receives
abbrev pub step_at : Size → ℕ → Step
step_at z r =
    cond (ltb r z.pipes) (Send r)
    (cond (ltb (r - z.pipes) (z.processes * width z)) (process_step z ((r - z.pipes) / width z) ((r - z.pipes) % width z))
    (Receive (r - z.pipes - z.processes * width z)))

-- ranks of steps
abbrev pub take_rank : Size → ℕ → ℕ → ℕ
take_rank z p i = z.pipes + p * width z + i

abbrev pub fire_rank : Size → ℕ → ℕ
fire_rank z p = z.pipes + p * width z + z.streams

abbrev pub give_rank : Size → ℕ → ℕ → ℕ
give_rank z p i = z.pipes + p * width z + z.streams + 1 + i

abbrev pub receive_rank : Size → ℕ → ℕ
receive_rank z q = z.pipes + z.processes * width z + q

-- the steps of all processes, and those of a process among them
pub steps_most : {z : Size} → Sized z → z.processes * width z ≤ 13312
steps_most s = mul-le-mul {n₂ = 1024} {m₂ = 13} s.processes (omega (arith, s.streams))

pub steps_inside : (z : Size) {p : ℕ} → p < z.processes → p * width z + width z ≤ z.processes * width z
steps_inside z {p} h = omega (arith, mul-le-mul_right {m = suc p} {n = z.processes} (width z) h)
