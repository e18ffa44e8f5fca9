-- Along a line that leads on in the written order, as refusal 15 leaves the lines of written streams, the written order and the order of
-- steps are one; along a line that leads back, the written order is the other way round. Assumes directions of 1 or −1.
use Rattle.std.specs.Prelude.{◌≡◌, ◌⊎◌, not, ℕ, zero, suc, ◌<◌, T, ℤ, pos, neg_ℤ, ◌+ℤ◌, ◌*ℤ◌, ◌<ℤ◌}
use Rattle.std.proofs.Common.{sym, ◌∙◌, ap, subst, inl, inr, arith}
use Rattle.std.specs.Int.Signed.{lt_z, lt_z_no, <ℤ_irrefl}
use Rattle.integers.specs.Differences.{gaps, eq_out, lt_in}
use Rattle.integers.specs.Variables.{linear}
use Rattle.integers.specs.Order.{mul_positive}
use Rattle.integers.specs.Vectors.{zero3, neg3, shift3, shift2, image}
use Rattle.integers.proofs.Vectors.{image_shift}
use Rattle.integers.specs.declared.V3.{V3}
use Rattle.integers.specs.declared.Matrix.{Matrix}
use Rattle.meaning.specs.declared.Nest.{Nest}
use Rattle.meaning.specs.declared.Stream.{Stream}
use Rattle.meaning.specs.Loops.{step_of, place_of}
use Rattle.meaning.specs.Space.{space}
use Rattle.meaning.specs.Streams.{line, stationary}
use Rattle.meaning.specs.Pipes.{before}
use Rattle.meaning.specs.Points.{IsLine as Line, Precedes, Within, Earlier, Earlier.by_outer, Earlier.by_middle, Earlier.by_inner}
use Rattle.geometry.specs.Numbers.{decide, lt_le, stay, zero_shift3}
use Rattle.geometry.specs.Lines.{Ahead, ahead_of}
use Rattle.geometry.specs.Instances.{earlier_irr, earlier_asym}
use Rattle.geometry.specs.Boxes.{box_has}
use Rattle.geometry.specs.Processes.{firing_of}
use Rattle.geometry.specs.Reach.{back_shift}
use Rattle.geometry.specs.Pipes.{Accepted, moving_move, still_line, still_place}

-- a component that leads on, a whole number of times
runs_on : (d c a : ℤ) (t : ℕ) → Precedes d (pos 0) c → Precedes d a (a +ℤ pos (suc t) *ℤ c)
runs_on d c a t r = go d a (pos (suc t)) c (mul_positive (pos (suc t)) (d *ℤ c) (lt_in (omega arith)) (from d c r))
  where
    from : (d c : ℤ) → (d *ℤ pos 0) <ℤ (d *ℤ c) → pos 0 <ℤ (d *ℤ c)
    from = linear 0 2 _ λ p m. simp gaps (omega arith)

    go : (d a t c : ℤ) → pos 0 <ℤ (t *ℤ (d *ℤ c)) → (d *ℤ a) <ℤ (d *ℤ (a +ℤ t *ℤ c))
    go = linear 0 4 _ λ p m. simp gaps (omega arith)

-- a vector that leads on, some times, leads to a later instance
pub on_later : (d u x : V3) (t : ℕ) → Earlier d zero3 u → Earlier d x (shift3 x (pos (suc t)) u)
on_later d u x t (by_outer r) = by_outer (runs_on d.x u.x x.x t r)
on_later d u x t (by_middle e r) = by_middle (sym (stay (pos (suc t)) u.x x.x (sym e))) (runs_on d.y u.y x.y t r)
on_later d u x t (by_inner e f r) =
    by_inner (sym (stay (pos (suc t)) u.x x.x (sym e))) (sym (stay (pos (suc t)) u.y x.y (sym f)))
    (runs_on d.z u.z x.z t r)

-- G9: of two instances that touch one element, the one of smaller step is the earlier in the written order, and the other way round
module _ {n : Nest} {m : Matrix} {u : V3} (lin : Line n m u) {d : V3} (leads : Earlier d zero3 u) where
  pub step_earlier : (x x' : V3) → image m x ≡ image m x' → step_of n x <ℤ step_of n x' → Earlier d x x'
  step_earlier x x' e h = go (ahead_of lin x x' e (lt_le h)).at (ahead_of lin x x' e (lt_le h)).eq
    where
      go : (i : ℕ) → x' ≡ shift3 x (pos i) u → Earlier d x x'
      go zero e = absurd (<ℤ_irrefl (subst (λ (w : V3). step_of n x <ℤ step_of n w) (e ∙ zero_shift3 x u) h))
      go (suc t) e = subst (Earlier d x) (sym e) (on_later d u x t leads)

  pub earlier_step : (x x' : V3) → image m x ≡ image m x' → Earlier d x x' → step_of n x <ℤ step_of n x'
  earlier_step x x' e k = go (decide (lt_z (step_of n x) (step_of n x')))
    where
      not_ahead : (i : ℕ) → x ≡ shift3 x' (pos i) u → ⊥
      not_ahead zero e = earlier_irr d x (subst (Earlier d x) (sym (e ∙ zero_shift3 x' u)) k)
      not_ahead (suc t) e =
          earlier_asym d x x' k (subst (Earlier d x') (sym e) (on_later d u x' t leads))

      go : T (lt_z (step_of n x) (step_of n x')) ⊎ T (not (lt_z (step_of n x) (step_of n x'))) → step_of n x <ℤ step_of n x'
      go (inl t) = record { lt = t }
      go (inr t) = let r = ahead_of lin x' x (sym e) (lt_z_no t) in absurd (not_ahead r.at r.eq)

-- the written order of directions turned round is the written order turned round
turned : {d p q : V3} → Earlier d p q → Earlier (neg3 d) q p
turned {d} {p} {q} h = go h
  where
    flip : (d a b : ℤ) → Precedes d a b → Precedes (neg_ℤ d) b a
    flip = linear 0 3 _ λ p m. simp gaps (omega arith)

    go : Earlier d p q → Earlier (neg3 d) q p
    go (by_outer r) = by_outer (flip d.x p.x q.x r)
    go (by_middle e r) = by_middle (sym e) (flip d.y p.y q.y r)
    go (by_inner e f r) = by_inner (sym e) (sym f) (flip d.z p.z q.z r)

-- so along a line that leads back the earlier one is of greater step
pub earlier_later : {n : Nest} {m : Matrix} {u : V3} → Line n m u → Earlier n.direction u zero3
    → (x x' : V3) → image m x ≡ image m x' → Earlier n.direction x x' → step_of n x' <ℤ step_of n x
earlier_later lin leads x x' e k = earlier_step lin (turned leads) x' x (sym e) (turned k)
