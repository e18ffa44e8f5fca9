-- The report's equations (8), (9) and (10), of a pipe, for document 01's words. Assumes a stream that is accepted and moves.
use Rattle.std.specs.Prelude.{◌≡◌, refl, not, List, ℕ, zero, suc, ◌+◌, ◌-◌, ◌<◌, T, length, get_or, ℤ, pos, ◌+ℤ◌, ◌-ℤ◌, ◌*ℤ◌, ◌<ℤ◌}
use Rattle.std.proofs.Common.{sym, ◌∙◌, ap, subst, subst₂, arith}
use Rattle.std.specs.Int.Signed.{<ℤ_irrefl}
use Rattle.integers.specs.Differences.{gaps}
use Rattle.integers.specs.Variables.{linear}
use Rattle.integers.specs.Ring.{ring, quotes, solve3}
use Rattle.integers.proofs.Ring.{solve}
use Rattle.integers.specs.Vectors.{sub3, scale3, shift3, dot, zero2, neg2, shift2, image}
use Rattle.integers.proofs.Vectors.{dot_shift}
use Rattle.integers.specs.declared.V3.{V3}
use Rattle.integers.specs.declared.V2.{V2}
use Rattle.meaning.specs.declared.Nest.{Nest}
use Rattle.meaning.specs.declared.Stream.{Stream}
use Rattle.meaning.specs.Loops.{step_of, place_of, increment}
use Rattle.meaning.specs.Space.{box_of, space, count, first, last}
use Rattle.meaning.specs.Streams.{stationary, pass}
use Rattle.meaning.specs.Pipes.{reach, pipe_elements, soak, drain}
use Rattle.meaning.specs.Points.{Within, Inside}
use Rattle.meaning.specs.Demand2.{Adjacent}
use Rattle.geometry.specs.Numbers.{lt_le, beyond, shift_shift, zero_shift3}
use Rattle.geometry.specs.Places.{ahead, get_d_in, get_d_ahead}
use Rattle.geometry.specs.Lines.{Ahead, along, ahead_of}
use Rattle.geometry.specs.Segments.{convex, first_at, last_at, segment}
use Rattle.geometry.specs.Processes.{Layout, RunAt, computing_count}
use Rattle.geometry.specs.BoxLines.{line_at_lem}
use Rattle.geometry.specs.Pipes.{Accepted, in_space_lem, same_elements, touched_in}
use Rattle.geometry.proofs.Pipes.{in_on}
use Rattle.geometry.specs.Moving.{pipe_line, index_is, length_is}
use Rattle.geometry.proofs.Soaks.{soak_first, drain_last, total_is}
use Rattle.geometry.specs.Report.{first_element, last_element}

module _ {n : Nest} {s : Stream} (h : Accepted n s) (moves : T (not (stationary n s))) where
  -- its element i is i times index map times increment on from its first
  pub element_on_lem : {y : V2} {x : V3} → RunAt n y x → (i : ℕ) → i < length (pipe_elements n s y)
      → get_or (pipe_elements n s y) i zero2 ≡ shift2 (first_element n s y) (pos i) (pass n s)
  element_on_lem {y} {x} a i l =
      at i l ∙ ap (λ (w : ℤ). shift2 e w (pass n s)) (split (pos i) (pos r)) ∙ sym (shift_shift e (pass n s) (pos 0 -ℤ pos r) (pos i))
      ∙ ap (λ (w : V2). shift2 w (pos i) (pass n s)) (sym (at 0 (omega arith)))
    where
      e : V2
      e = image s.map x

      r : ℕ
      r = reach (box_of n s.map) (neg2 (pass n s)) e

      at : (i : ℕ) → i < length (pipe_elements n s y) → get_or (pipe_elements n s y) i zero2 ≡ shift2 e (pos i -ℤ pos r) (pass n s)
      at i l =
          ap (λ (l : List V2). get_or l i zero2) (pipe_line h moves a)
          ∙ line_at_lem (box_of n s.map) (pass n s) e i zero2 (subst (λ (l : List V2). i < length l) (pipe_line h moves a) l)

      split : (i r : ℤ) → i -ℤ r ≡ (pos 0 -ℤ r) +ℤ i
      split = linear 0 2 _ λ p m. simp gaps (omega arith)

  element_of : {y : V2} {x : V3} → RunAt n y x
      → get_or (pipe_elements n s y) (ahead (image s.map x) (pipe_elements n s y)) zero2 ≡ image s.map x
  element_of {x} a = get_d_ahead (image s.map x) zero2 (touched_in h a)

  -- (8): soak = (M first − first_s) // increment_s
  pub soak_report : {y : V2} {x : V3} → RunAt n y x → image s.map (first n y) ≡ shift2 (first_element n s y) (pos (soak n s y)) (pass n s)
  soak_report {y} a =
      let f = first_at h.layout.dirs a in
      sym (element_of f) ∙ ap (λ (k : ℕ). get_or (pipe_elements n s y) k zero2) (sym (soak_first h a))
      ∙ element_on_lem a (soak n s y) (omega (arith, total_is h moves a, computing_count h.layout a))

  -- (9): drain = (last_s − M last) // increment_s
  pub drain_report : {y : V2} {x : V3} → RunAt n y x → last_element n s y ≡ shift2 (image s.map (last n y)) (pos (drain n s y)) (pass n s)
  drain_report {y} a =
      let l = last_at h.layout.dirs a in
      let c : ahead (image s.map (last n y)) (pipe_elements n s y) < length (pipe_elements n s y)
      = omega (arith, index_is h moves l, length_is h moves l) in
      let i = ahead (image s.map (last n y)) (pipe_elements n s y) in
      element_on_lem a (length (pipe_elements n s y) - 1) (omega arith)
      ∙ ap (λ (k : ℕ). shift2 (first_element n s y) (pos k) (pass n s))
      (sum (length (pipe_elements n s y)) i (drain n s y) c (drain_last h a))
      ∙ sym (shift_shift (first_element n s y) (pass n s) (pos i) (pos (drain n s y)))
      ∙ ap (λ (w : V2). shift2 w (pos (drain n s y)) (pass n s)) (sym (element_on_lem a i c) ∙ element_of l)
    where
      sum : (l i k : ℕ) → i < l → k ≡ l - suc i → l - 1 ≡ i + k
      sum l i k h e = omega arith

  -- so of any pipe that has an element
  pub element_from : {y : V2} → Inside (space n) y → (i : ℕ) → i < length (pipe_elements n s y)
      → get_or (pipe_elements n s y) i zero2 ≡ shift2 (first_element n s y) (pos i) (pass n s)
  element_from {y} hy i l =
      let o = in_on h hy (get_d_in (pipe_elements n s y) i zero2 l) in
      let a : RunAt n (place_of n o.by) o.by = record { within = o.at.within; to = refl } in
      subst (λ (es : List V2). (i : ℕ) → i < length es → get_or es i zero2 ≡ shift2 (get_or es 0 zero2) (pos i) (pass n s))
      (same_elements h hy (in_space_lem h a) o.place) (element_on_lem a) i l

  -- (10): the soak of a null process, which is the number of its pipe's elements, = ((last_s − first_s) // increment_s) + 1. Where its line
  -- has no computing process there is no pipe: document 01 has 0 there, `no-pipe` of Pipes, and the report says nothing
  pub null_report : {y : V2} → Inside (space n) y → 0 < length (pipe_elements n s y)
      → (k : ℕ) × (last_element n s y ≡ shift2 (first_element n s y) (pos k) (pass n s)) × (length (pipe_elements n s y) ≡ suc k)
  null_report {y} hy c = (length (pipe_elements n s y) - 1, element_from hy (length (pipe_elements n s y) - 1) (omega arith), omega arith)
