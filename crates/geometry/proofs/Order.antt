-- Of two instances that touch one element of a written stream, the earlier in the written order is earlier on the network. Assumes an
-- accepted
-- stream whose line leads on.
use Rattle.std.specs.Prelude.{◌≡◌, ◌⊎◌, not, ℕ, zero, suc, ◌<◌, T, ℤ, pos, neg_ℤ, ◌+ℤ◌, ◌*ℤ◌, ◌<ℤ◌}
use Rattle.std.proofs.Common.{sym, ◌∙◌, ap, subst, inl, inr, arith}
use Rattle.std.specs.Int.Signed.{lt_z, lt_z_no, <ℤ_irrefl}
use Rattle.integers.specs.Differences.{gaps, eq_out, lt_in}
use Rattle.integers.specs.Variables.{linear}
use Rattle.integers.specs.Order.{mul_positive}
use Rattle.integers.specs.Vectors.{zero3, neg3, shift3, shift2, image}
use Rattle.integers.proofs.Vectors.{image_shift}
use Rattle.integers.specs.declared.V3.{V3}
use Rattle.integers.specs.declared.Matrix.{Matrix}
use Rattle.meaning.specs.declared.Nest.{Nest}
use Rattle.meaning.specs.declared.Stream.{Stream}
use Rattle.meaning.specs.Loops.{step_of, place_of}
use Rattle.meaning.specs.Space.{space}
use Rattle.meaning.specs.Streams.{line, stationary}
use Rattle.meaning.specs.Pipes.{before}
use Rattle.meaning.specs.Points.{IsLine as Line, Precedes, Within, Earlier, Earlier.by_outer, Earlier.by_middle, Earlier.by_inner}
use Rattle.geometry.specs.Numbers.{decide, lt_le, stay, zero_shift3}
use Rattle.geometry.specs.Lines.{Ahead, ahead_of}
use Rattle.geometry.specs.Instances.{earlier_irr, earlier_asym}
use Rattle.geometry.specs.Boxes.{box_has}
use Rattle.geometry.specs.Processes.{firing_of}
use Rattle.geometry.proofs.Processes.{firing_shift}
use Rattle.geometry.specs.Reach.{back_shift}
use Rattle.geometry.specs.Pipes.{Accepted, moving_move, still_line, still_place}
use Rattle.geometry.specs.Order.{earlier_step}

-- G9 on the network: of two instances that touch one element of a written stream, the earlier in the written order
module _ {n : Nest} {s : Stream} (h : Accepted n s) (leads : Earlier n.direction zero3 (line n s)) {x x' : V3} (w : Within n x)
    (w' : Within n x') (one : image s.map x ≡ image s.map x') (earlier : Earlier n.direction x x') where
  -- is some lines behind the other
  behind : (t : ℕ) × (x' ≡ shift3 x (pos (suc t)) (line n s))
  behind = go r.at r.eq
    where
      step : step_of n x <ℤ step_of n x'
      step = earlier_step h.lin leads x x' one earlier

      r : Ahead (line n s) x x'
      r = ahead_of h.lin x x' one (lt_le step)

      go : (i : ℕ) → x' ≡ shift3 x (pos i) (line n s) → (t : ℕ) × (x' ≡ shift3 x (pos (suc t)) (line n s))
      go zero e = absurd (<ℤ_irrefl (subst (λ (w : V3). step_of n x <ℤ step_of n w) (e ∙ zero_shift3 x (line n s)) step))
      go (suc t) e = (t, e)

  -- so, if the stream moves, it is at the earlier position of the pipe
  pub written_moving : T (not (stationary n s)) → before n s (place_of n x) < before n s (place_of n x')
  written_moving moves =
      natural (before n s (place_of n x)) (before n s (place_of n x')) behind.0
      (back_shift (space n) h.goes (pos (suc behind.0)) (box_has h.layout.dirs n.place w)
      (box_has h.layout.dirs n.place w') (ap (place_of n) behind.1 ∙ image_shift n.place x (line n s) (pos (suc behind.0))
      ∙ ap (shift2 (place_of n x) (pos (suc behind.0))) (sym (moving_move h moves))))
    where
      natural : (p q t : ℕ) → pos q ≡ pos p +ℤ pos (suc t) → p < q
      natural p q t e = omega (arith, eq_out e)

  -- and if it is stationary, it is the earlier firing of the same process
  pub written_still : T (stationary n s) → (place_of n x ≡ place_of n x') × (firing_of n x < firing_of n x')
  written_still t =
      let p = sym (still_place h t x x' one) in (
        p,
        subst (λ (k : ℕ). firing_of n x < k)
            (sym (firing_shift h.layout w w' (suc behind.0) (behind.1 ∙ ap (shift3 x (pos (suc behind.0))) (still_line h t))))
            (omega arith),
      )
