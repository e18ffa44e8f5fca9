-- Each kind of step has its ranks: the step of a step's rank, and there are no other ranks. Assumes nothing.
use Rattle.std.specs.Prelude.{◌≡◌, refl, ℕ, ◌+◌, ◌*◌, ◌-◌, ◌/◌, ◌%◌, ◌<◌}
use Rattle.std.proofs.Common.{◌∙◌, ap, add-zero, mod-eq_of_lt, arith, lt-ltb, le-ltb, eq-eqb, ne_eqb}
use Rattle.std.proofs.Math.Nat.{mul-add-div_right, mul-add-mod_self_right, div-eq_of_lt}
use Rattle.meaning.specs.declared.Step.TheVariants.{Send, Take, Fire, Give, Receive}
use Rattle.port_table.specs.declared.Size.{Size}
use Rattle.step_order.specs.Ranks.{width, rank_count, process_step, step_at, take_rank, fire_rank, give_rank, receive_rank}
use Rattle.step_order.specs.Ranks.{steps_inside}

-- ---- the step of a step's rank

module _ (z : Size) where
  pub send_step : (q : ℕ) → q < z.pipes → step_at z q ≡ Send q
  send_step q h = rw (lt-ltb q z.pipes h) refl

  -- place o of process p
  place_step : (p o r : ℕ) → p < z.processes → o < width z → r ≡ z.pipes + (p * width z + o) → step_at z r ≡ process_step z p o
  place_step p o r h l e =
      let k : r - z.pipes ≡ p * width z + o = omega arith in
      let i : p * width z + o < z.processes * width z = omega (arith, steps_inside z h) in
      let d : (p * width z + o) / width z ≡ p =
      mul-add-div_right {m = width z} (omega arith) p o ∙ ap (λ (j : ℕ). p + j) (div-eq_of_lt l) ∙ add-zero p in
      let m : (p * width z + o) % width z ≡ o = mul-add-mod_self_right p (width z) o ∙ mod-eq_of_lt l in
      rw (le-ltb r z.pipes (omega arith), k, lt-ltb _ _ i, d, m) refl

  pub take_step : (p i : ℕ) → p < z.processes → i < z.streams → step_at z (take_rank z p i) ≡ Take p i
  take_step p i h l = place_step p i (take_rank z p i) h (omega arith) (omega arith) ∙ rw (lt-ltb i z.streams l) refl

  pub fire_step : (p : ℕ) → p < z.processes → step_at z (fire_rank z p) ≡ Fire p
  fire_step p h =
      place_step p z.streams (fire_rank z p) h (omega arith) (omega arith)
      ∙ rw (le-ltb z.streams z.streams (omega arith), eq-eqb z.streams z.streams refl) refl

  pub give_step : (p i : ℕ) → p < z.processes → i < z.streams → step_at z (give_rank z p i) ≡ Give p i
  give_step p i h l =
      let o = z.streams + 1 + i in
      let s : z.streams + 1 + i - z.streams - 1 ≡ i = omega arith in
      place_step p o (give_rank z p i) h (omega arith) (omega arith)
      ∙ rw (le-ltb o z.streams (omega arith), ne_eqb o z.streams (λ (e : o ≡ z.streams). omega arith), s) refl

  pub receive_step : (q : ℕ) → step_at z (receive_rank z q) ≡ Receive q
  receive_step q =
      let r = receive_rank z q in
      let k : z.pipes + z.processes * width z + q - z.pipes ≡ z.processes * width z + q = omega arith in
      let s : z.processes * width z + q - z.processes * width z ≡ q = omega arith in
      rw (le-ltb r z.pipes (omega arith), k, le-ltb (z.processes * width z + q) (z.processes * width z) (omega arith), s) refl

  -- ---- they are ranks

  pub take_in : (p i : ℕ) → p < z.processes → i < z.streams → take_rank z p i < rank_count z
  take_in p i h l = omega (arith, steps_inside z h)

  pub fire_in : (p : ℕ) → p < z.processes → fire_rank z p < rank_count z
  fire_in p h = omega (arith, steps_inside z h)

  pub give_in : (p i : ℕ) → p < z.processes → i < z.streams → give_rank z p i < rank_count z
  give_in p i h l = omega (arith, steps_inside z h)

-- ---- there are no others

pub data Ranked (z : Size) (r : ℕ) : Type 0 where
  send : (q : ℕ) → q < z.pipes → r ≡ q → Ranked z r
  take : (p i : ℕ) → p < z.processes → i < z.streams → r ≡ take_rank z p i → Ranked z r
  fire : (p : ℕ) → p < z.processes → r ≡ fire_rank z p → Ranked z r
  give : (p i : ℕ) → p < z.processes → i < z.streams → r ≡ give_rank z p i → Ranked z r
  receive : (q : ℕ) → q < z.pipes → r ≡ receive_rank z q → Ranked z r
