-- That every moving pipe has its clock. Assumes an accepted stream that moves.
use Rattle.std.specs.Prelude.{◌≡◌, refl, not, ℕ, ◌+◌, T, ℤ, pos, negsuc, ◌+ℤ◌, ◌-ℤ◌, ◌*ℤ◌, ◌<ℤ◌}
use Rattle.std.proofs.Common.{sym, ◌∙◌, ap, ap₂, arith}
use Rattle.integers.specs.Differences.{gaps, up, lt_out}
use Rattle.integers.specs.Variables.{linear}
use Rattle.integers.specs.Ring.{ring, quotes, given, ◌also◌, Ex.var, Ex.minus, Ex.plain}
use Rattle.integers.proofs.Ring.{solve_by}
use Rattle.integers.specs.Vectors.{shift3, shift2, image}
use Rattle.integers.proofs.Vectors.{dot_shift}
use Rattle.integers.specs.declared.V3.{V3}
use Rattle.integers.specs.declared.V2.{V2}
use Rattle.meaning.specs.declared.Nest.{Nest}
use Rattle.meaning.specs.declared.Stream.{Stream}
use Rattle.meaning.specs.Loops.{step_of, increment}
use Rattle.meaning.specs.Space.{box_of, space, first, computing}
use Rattle.meaning.specs.Streams.{line, stationary, hop}
use Rattle.meaning.specs.Pipes.{before, soak}
use Rattle.meaning.specs.Points.{Inside}
use Rattle.geometry.specs.Numbers.{no_cond}
use Rattle.geometry.specs.Lines.{coordinates, image_other}
use Rattle.geometry.specs.Boxes.{box_has}
use Rattle.geometry.specs.Segments.{first_at}
use Rattle.geometry.specs.Processes.{RunAt, run_at}
use Rattle.geometry.proofs.Processes.{computes}
use Rattle.geometry.specs.Reach.{back_shift}
use Rattle.geometry.specs.Pipes.{Accepted, OnePipe, flip_pipe, join_pipe, moving_move, passes, in_space_lem}
use Rattle.geometry.proofs.Soaks.{soak_is}
use Rattle.geometry.specs.Clock.{Clock, hop_is, before_shift}

module _ {n : Nest} {s : Stream} (h : Accepted n s) (moves : T (not (stationary n s))) where
  -- G8 for two of them: their first steps differ by hops and by the difference of their soaks
  pub first_steps : {y y' : V2} {x x' : V3} → RunAt n y x → RunAt n y' x' → (o : OnePipe n s y y')
      → step_of n (first n y')
      ≡ step_of n (first n y) +ℤ o.by *ℤ step_of n (line n s) +ℤ (pos (soak n s y') -ℤ pos (soak n s y)) *ℤ step_of n (increment n)
  first_steps {y} {y'} a a' o =
      let f = first n y in
      let k = o.by in
      let b = first_at h.layout.dirs a in
      let b' = first_at h.layout.dirs a' in
      let c =
      coordinates h.layout.inc h.lin f (first n y') k
      (b'.to ∙ o.eq ∙ ap₂ (λ (p d : V2). shift2 p k d) (sym b.to) (moving_move h moves)) in
      let r =
      back_shift (box_of n s.map) (passes h moves) c.by (box_has h.layout.dirs s.map b.within)
      (box_has h.layout.dirs s.map b'.within) (ap (image s.map) c.eq ∙ image_other h.layout.inc h.lin f k c.by) in
      ap (step_of n) c.eq ∙ dot_shift n.step (shift3 f k (line n s)) (increment n) c.by
      ∙ ap (λ (w : ℤ). w +ℤ c.by *ℤ step_of n (increment n)) (dot_shift n.step f (line n s) k)
      ∙ ap (λ (w : ℤ). (step_of n f +ℤ k *ℤ step_of n (line n s)) +ℤ w *ℤ step_of n (increment n))
      (difference c.by (pos (soak n s y')) (pos (soak n s y))
      (ap pos (soak_is h moves a') ∙ r ∙ ap (λ (w : ℕ). pos w +ℤ c.by) (sym (soak_is h moves a))))
    where
      difference : (j p q : ℤ) → p ≡ q +ℤ j → j ≡ p -ℤ q
      difference = linear 0 3 _ λ p m. simp gaps (omega arith)

  -- G8: of a pipe with a computing process
  pub clock : {y : V2} {x : V3} → RunAt n y x → Clock n s y
  clock {y} a =
      record {
        theta = step_of n (first n y) -ℤ pos (before n s y) *ℤ pos (hop n s) -ℤ pos (soak n s y) *ℤ step_of n (increment n);
        step = λ y' hy' o t i.
            dot_shift n.step (first n y') (increment n) (pos i)
            ∙ together (step_of n (first n y)) (step_of n (first n y')) (pos (before n s y)) (pos (before n s y')) (pos (soak n s y))
            (pos (soak n s y')) o.by (pos (hop n s)) (step_of n (line n s)) (step_of n (increment n)) (pos i) (hop_is h moves)
            (first_steps a (computes h.layout y' t) o) (before_shift h moves (in_space_lem h a) hy' o);
      }
    where
      together : (f f' b b' q q' k c l g i : ℤ) → c ≡ l → f' ≡ f +ℤ k *ℤ l +ℤ (q' -ℤ q) *ℤ g → b' ≡ b +ℤ k
          → f' +ℤ i *ℤ g ≡ (f -ℤ b *ℤ c -ℤ q *ℤ g) +ℤ b' *ℤ c +ℤ (q' +ℤ i) *ℤ g
      together = ring 0 11 _ λ ρ.
          simp quotes (λ d e k. solve_by _ _ (given (plain 1) e also given (minus (var 6)) d also given (minus (var 7)) k) tt)
