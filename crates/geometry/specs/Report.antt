-- The report's equations (2), (3), (4), (8), (9) and (10) for document 01's words. (2), the process space, is `box-basis` of Boxes. The
-- report's v // u is the k with v = k u; and first_s and last_s are the first and the last element of a pipe. Assumes, of the nest,
-- `Layout`; of the stream, that it is accepted and moves.
use Rattle.std.specs.Prelude.{◌≡◌, refl, not, List, ℕ, zero, suc, ◌+◌, ◌-◌, ◌<◌, T, length, get_or, ℤ, pos, ◌+ℤ◌, ◌-ℤ◌, ◌*ℤ◌, ◌<ℤ◌}
use Rattle.std.proofs.Common.{sym, ◌∙◌, ap, subst, subst₂, arith}
use Rattle.std.specs.Int.Signed.{<ℤ_irrefl}
use Rattle.integers.specs.Differences.{gaps}
use Rattle.integers.specs.Variables.{linear}
use Rattle.integers.specs.Ring.{ring, quotes, solve3}
use Rattle.integers.proofs.Ring.{solve}
use Rattle.integers.specs.Vectors.{sub3, scale3, shift3, dot, zero2, neg2, shift2, image}
use Rattle.integers.proofs.Vectors.{dot_shift}
use Rattle.integers.specs.declared.V3.{V3}
use Rattle.integers.specs.declared.V2.{V2}
use Rattle.meaning.specs.declared.Nest.{Nest}
use Rattle.meaning.specs.declared.Stream.{Stream}
use Rattle.meaning.specs.Loops.{step_of, place_of, increment}
use Rattle.meaning.specs.Space.{box_of, space, count, first, last}
use Rattle.meaning.specs.Streams.{stationary, pass}
use Rattle.meaning.specs.Pipes.{reach, pipe_elements, soak, drain}
use Rattle.meaning.specs.Points.{Within, Inside}
use Rattle.meaning.specs.Demand2.{Adjacent}
use Rattle.geometry.specs.Numbers.{lt_le, beyond, shift_shift, zero_shift3}
use Rattle.geometry.specs.Places.{ahead, get_d_in, get_d_ahead}
use Rattle.geometry.specs.Lines.{Ahead, along, ahead_of}
use Rattle.geometry.specs.Segments.{convex, first_at, last_at, segment}
use Rattle.geometry.specs.Processes.{Layout, RunAt, computing_count}
use Rattle.geometry.specs.BoxLines.{line_at_lem}
use Rattle.geometry.specs.Pipes.{Accepted, in_space_lem, same_elements, touched_in}
use Rattle.geometry.specs.Moving.{pipe_line, index_is, length_is}

-- ---- a process

module _ {n : Nest} (layout : Layout n) where
  -- (3): w + increment = z. The report keeps to increments with components −1, 0 and 1; nothing here needs that
  pub increment_is : {y : V2} {w z : V3} → Adjacent n y w z → shift3 w (pos 1) (increment n) ≡ z
  increment_is {y} {w} {z} a = go r.at r.eq
    where
      r : Ahead (increment n) w z
      r = ahead_of layout.inc w z (a.from.to ∙ sym a.to.to) (lt_le a.before)

      more : (i : ℕ) (s : V3) → pos 0 <ℤ dot s (increment n)
          → dot s (shift3 w (pos i) (increment n)) <ℤ dot s (shift3 w (pos (suc i)) (increment n))
      more i s h =
          subst₂ ◌<ℤ◌ (sym (dot_shift s w (increment n) (pos i))) (sym (dot_shift s w (increment n) (pos (suc i))))
          (on i (dot s w) (dot s (increment n)) h)
        where
          on : (i : ℕ) (a c : ℤ) → pos 0 <ℤ c → (a +ℤ pos i *ℤ c) <ℤ (a +ℤ pos (suc i) *ℤ c)
          on i = linear 0 2 _ λ p m. simp gaps (omega arith)

      go : (i : ℕ) → z ≡ shift3 w (pos i) (increment n) → shift3 w (pos 1) (increment n) ≡ z
      go zero e = absurd (<ℤ_irrefl (subst (λ (x : V3). step_of n w <ℤ step_of n x) (e ∙ zero_shift3 w (increment n)) a.before))
      go (suc zero) e = sym e
      go (suc (suc i)) e =
          let b : RunAt n y (shift3 w (pos (suc i)) (increment n)) =
          record {
            within = convex n w (increment n) (suc i) (suc (suc i)) (omega arith) a.from.within (subst (Within n) e a.to.within);
            to = along layout.inc w (pos (suc i)) ∙ a.from.to;
          } in
          absurd (a.none (shift3 w (pos (suc i)) (increment n)) b (ahead_step i)
          (subst (λ (x : V3). step_of n (shift3 w (pos (suc i)) (increment n)) <ℤ step_of n x) (sym e)
          (more (suc i) n.step layout.inc.ahead)))
        where
          ahead_step : (i : ℕ) → step_of n w <ℤ step_of n (shift3 w (pos (suc i)) (increment n))
          ahead_step i =
              subst (λ (t : ℤ). step_of n w <ℤ t) (sym (dot_shift n.step w (increment n) (pos (suc i))))
              (beyond i (step_of n (increment n)) (step_of n w) layout.inc.ahead)

  -- (4): count = ((last − first) // increment) + 1
  pub count_is : {y : V2} {x : V3} → RunAt n y x
      → (k : ℕ) × (sub3 (last n y) (first n y) ≡ scale3 (pos k) (increment n)) × (count n y ≡ k + 1)
  count_is {y} a =
      let w = segment layout.dirs layout.inc a in
      (w.span, ap (λ (l : V3). sub3 l (first n y)) w.end ∙ cut (first n y) (increment n) (pos w.span), omega (arith, w.size))
    where
      cut : (f u : V3) (t : ℤ) → sub3 (shift3 f t u) f ≡ scale3 t u
      cut = ring 2 1 _ λ ρ. simp quotes (solve3 (solve ρ _ _ tt) (solve ρ _ _ tt) (solve ρ _ _ tt))

-- ---- a pipe
-- The report gives these for moving and stationary streams alike, with an increment_s taken from the loading vector. Document 01 orders a
-- stationary pipe's elements by the processes that hold them: its soak and drain are ranks, `soak-rank` and `still-total` of Pipes. That
-- every element is used, which the report assumes, is refusal 17.

-- its first and its last element
abbrev pub first_element : Nest → Stream → V2 → V2
first_element n s y = get_or (pipe_elements n s y) 0 zero2

abbrev pub last_element : Nest → Stream → V2 → V2
last_element n s y = get_or (pipe_elements n s y) (length (pipe_elements n s y) - 1) zero2
