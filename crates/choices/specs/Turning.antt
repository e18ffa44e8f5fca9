-- Another step turns a line, or leaves it: what Accept tests of the loops and of a stream by the line as it was. Assumes nothing.
use Rattle.std.specs.Prelude.{◌≡◌, Bool, not, ◌&&◌, ℕ, zero, suc, T, ℤ, pos, negsuc, neg_ℤ}
use Rattle.std.proofs.Math.Path.{refl, sym, ap}
use Rattle.std.proofs.Common.{◌∙◌, ap₂, subst, arith, le-ltb}
use Rattle.std.proofs.Math.Bool.{true, false, cond}
use Rattle.std.proofs.Math.Dec.{ltb}
use Rattle.std.proofs.Math.IntN.{nat_abs, neg_ℤ-neg_ℤ}
use Rattle.std.specs.Int.Signed.{lt_z}
use Rattle.integers.specs.Bounds.{abs_neg}
use Rattle.integers.specs.Differences.{up}
use Rattle.integers.specs.Words.{eq_z}
use Rattle.integers.specs.Vectors.{zero2, neg3, neg2, dot, image, same2, same3}
use Rattle.integers.proofs.Vectors.{dot_neg}
use Rattle.integers.specs.declared.V3.{V3}
use Rattle.integers.specs.declared.V2.{V2}
use Rattle.integers.specs.declared.Matrix.{Matrix}
use Rattle.meaning.specs.declared.Limits.{Limits}
use Rattle.meaning.specs.declared.Nest.{Nest}
use Rattle.meaning.specs.declared.Stream.{Stream}
use Rattle.meaning.specs.Tests.{refusal}
use Rattle.meaning.specs.Loops.{instances, turn, short_of, line_of, increment}
use Rattle.meaning.specs.Space.{eq2, box_of}
use Rattle.meaning.specs.Streams.{line, stationary}
use Rattle.meaning.specs.Accept.{small, against, refused8, refused10, refused11, refused13, refused14, refused15, refused16}
use Rattle.meaning.specs.Accept.{refused17, stream_tests}
use Rattle.meaning.specs.HowManyWork.{stepped}
use Rattle.geometry.specs.Numbers.{up_abs, small_neg, zero_neg}
use Rattle.geometry.specs.Lines.{turn_ahead}

-- ---- vectors turned round

neg_neg3 : (u : V3) → neg3 (neg3 u) ≡ u
neg_neg3 u = same3 (neg_ℤ-neg_ℤ u.x) (neg_ℤ-neg_ℤ u.y) (neg_ℤ-neg_ℤ u.z)

-- w is u, or u turned round
data Either (w u : V3) : Type 0 where
  same : w ≡ u → Either w u
  opposite : w ≡ neg3 u → Either w u

image_neg : (m : Matrix) (u : V3) → image m (neg3 u) ≡ neg2 (image m u)
image_neg m u = same2 (dot_neg m.top u) (dot_neg m.low u)

-- ---- one line, turned by two steps

module _ (p v u : V3) where
  either_turn : Either (turn v u) (turn p u)
  either_turn = go (lt_z (dot v u) (pos 0)) (lt_z (dot p u) (pos 0))
    where
      go : (a b : Bool) → Either (cond a (neg3 u) u) (cond b (neg3 u) u)
      go true true = same refl
      go false false = same refl
      go true false = opposite refl
      go false true = opposite (sym (neg_neg3 u))

  -- where its step is not 0, it is turned by that
  turn_turn : eq_z (dot v (turn p u)) (pos 0) ≡ false → turn v u ≡ turn v (turn p u)
  turn_turn n = go (lt_z (dot p u) (pos 0)) n
    where
      -- t and −t, not 0, have other signs
      sign : (t : ℤ) → eq_z (neg_ℤ t) (pos 0) ≡ false → lt_z t (pos 0) ≡ not (lt_z (neg_ℤ t) (pos 0))
      sign (pos zero) e = absurd (subst (λ (b : Bool). T (not b)) (sym e) tt)
      sign (pos (suc n)) e = le-ltb (suc n) 0 (omega arith)
      sign (negsuc n) e = ap not (sym (le-ltb (suc n) 0 (omega arith)))

      other : (t : ℤ) → eq_z (neg_ℤ t) (pos 0) ≡ false → cond (lt_z t (pos 0)) (neg3 u) u ≡ cond (lt_z (neg_ℤ t) (pos 0)) u (neg3 u)
      other t e = ap (λ (b : Bool). cond b (neg3 u) u) (sign t e) ∙ go (lt_z (neg_ℤ t) (pos 0))
        where
          go : (b : Bool) → cond (not b) (neg3 u) u ≡ cond b u (neg3 u)
          go true = refl
          go false = refl

      go : (b : Bool) → eq_z (dot v (cond b (neg3 u) u)) (pos 0) ≡ false
          → cond (lt_z (dot v u) (pos 0)) (neg3 u) u
          ≡ cond (lt_z (dot v (cond b (neg3 u) u)) (pos 0)) (neg3 (cond b (neg3 u) u)) (cond b (neg3 u) u)
      go false e = refl
      go true e =
          let d = dot_neg v u in
          other (dot v u) (sym (ap (λ (t : ℤ). eq_z t (pos 0)) d) ∙ e)
          ∙ ap₂ (λ (t : ℤ) (w : V3). cond (lt_z t (pos 0)) w (neg3 u)) (sym d) (sym (neg_neg3 u))

-- ---- a matrix under another step

module _ (n : Nest) (v : V3) (m : Matrix) where
  either : Either (line_of (stepped n v) m) (line_of n m)
  unfolding line_of
  either = either_turn n.step v (short_of m).vector

  -- its line's step, which is not negative
  distance : up (dot v (line_of (stepped n v) m)) ≡ nat_abs (dot v (line_of n m))
  unfolding line_of
  distance = sym (up_abs _ (turn_ahead v (short_of m).vector)) ∙ go either
    where
      go : Either (line_of (stepped n v) m) (line_of n m) → nat_abs (dot v (line_of (stepped n v) m)) ≡ nat_abs (dot v (line_of n m))
      go (same e) = ap (λ (u : V3). nat_abs (dot v u)) e
      go (opposite e) = ap (λ (u : V3). nat_abs (dot v u)) e ∙ ap nat_abs (dot_neg v (line_of n m)) ∙ abs_neg (dot v (line_of n m))

  still_same : eq_z (dot v (line_of (stepped n v) m)) (pos 0) ≡ eq_z (dot v (line_of n m)) (pos 0)
  still_same = go either
    where
      go : Either (line_of (stepped n v) m) (line_of n m)
          → eq_z (dot v (line_of (stepped n v) m)) (pos 0) ≡ eq_z (dot v (line_of n m)) (pos 0)
      go (same e) = ap (λ (u : V3). eq_z (dot v u) (pos 0)) e
      go (opposite e) =
          ap (λ (u : V3). eq_z (dot v u) (pos 0)) e ∙ ap (λ (t : ℤ). eq_z t (pos 0)) (dot_neg v (line_of n m))
          ∙ zero_neg (dot v (line_of n m))

  -- which way it is turned
  turned_is : eq_z (dot v (line_of n m)) (pos 0) ≡ false → line_of (stepped n v) m ≡ turn v (line_of n m)
  unfolding line_of
  turned_is e = turn_turn n.step v (short_of m).vector e

  -- what place makes of it
  image_either : (A : V2 → Bool) → ((p : V2) → A (neg2 p) ≡ A p)
      → A (image n.place (line_of (stepped n v) m)) ≡ A (image n.place (line_of n m))
  image_either A f = go either
    where
      go : Either (line_of (stepped n v) m) (line_of n m) → A (image n.place (line_of (stepped n v) m)) ≡ A (image n.place (line_of n m))
      go (same e) = ap (λ (u : V3). A (image n.place u)) e
      go (opposite e) =
          ap (λ (u : V3). A (image n.place u)) e ∙ ap A (image_neg n.place (line_of n m)) ∙ f (image n.place (line_of n m))

-- ---- the tests of the loops

module _ (n : Nest) (v : V3) where
  pub still_by : refused8 (stepped n v) ≡ eq_z (dot v (increment n)) (pos 0)
  still_by = still_same n v n.place

  pub processes_same : (l : Limits) → refused10 l (stepped n v) ≡ refused10 l n
  unfolding box_of instances
  processes_same l = refl

-- ---- the tests of a stream

-- its answer, by what is known of it: 11; whether the step of its line is 0; 13; whether it is a leap; 15 as the line was and turned round;
-- whether it is turned round; 16; 17
abbrev pub ladder : Bool → Bool → Bool → Bool → Bool → Bool → Bool → Bool → Bool → ℕ
ladder rank still move leap onward back turned loading untouched =
    cond rank 11 (cond still 12 (cond move 13 (cond leap 14 (cond (cond turned back onward) 15
    (cond loading 16 (cond untouched 17 0))))))

module _ (l : Limits) (n : Nest) (v : V3) (w : Bool) (s : Stream) where
  abbrev u : V3
  u = line n s

  abbrev t : ℤ
  t = dot v u

  stays_same : stationary (stepped n v) s ≡ stationary n s
  stays_same = image_either n v s.map (λ p. eq2 p zero2) (λ p. ap₂ ◌&&◌ (zero_neg p.a) (zero_neg p.b))

  moves_same : refused13 (stepped n v) s ≡ refused13 n s
  moves_same =
      ap not (image_either n v s.map (λ p. small p.a && small p.b) (λ p. ap₂ ◌&&◌ (small_neg p.a) (small_neg p.b)))

  leaps_by : refused14 l (stepped n v) s ≡ (not (stationary n s) && ltb l.hop (nat_abs t))
  leaps_by = ap (λ (b : Bool). not b && ltb l.hop (cond b 1 (up (dot v (line (stepped n v) s))))) stays_same ∙ go (stationary n s)
    where
      go : (b : Bool) → (not b && ltb l.hop (cond b 1 (up (dot v (line (stepped n v) s))))) ≡ (not b && ltb l.hop (nat_abs t))
      go true = refl
      go false = ap (ltb l.hop) (distance n v s.map)

  loads_same : refused16 (stepped n v) s ≡ refused16 n s
  loads_same = ap (λ (b : Bool). cond b (eq2 s.loading zero2) (not (eq2 s.loading zero2))) stays_same

  untouched_same : refused17 (stepped n v) s ≡ refused17 n s
  unfolding box_of instances
  untouched_same = refl

  orders_by : eq_z t (pos 0) ≡ false
      → refused15 w (stepped n v) s ≡ cond (lt_z t (pos 0)) (w && against n.direction (neg3 u)) (w && against n.direction u)
  orders_by e =
      ap (λ (u : V3). w && against n.direction u) (turned_is n v s.map e) ∙ go (lt_z t (pos 0))
    where
      go : (b : Bool) → (w && against n.direction (cond b (neg3 u) u))
          ≡ cond b (w && against n.direction (neg3 u)) (w && against n.direction u)
      go true = refl
      go false = refl

  pub stream_answer : refusal (stream_tests l (stepped n v) w s)
      ≡ ladder (refused11 s) (eq_z t (pos 0)) (refused13 n s) (not (stationary n s) && ltb l.hop (nat_abs t))
      (w && against n.direction u) (w && against n.direction (neg3 u)) (lt_z t (pos 0)) (refused16 n s) (refused17 n s)
  unfolding refusal
  stream_answer =
      rw (still_same n v s.map, moves_same, leaps_by, loads_same, untouched_same) (go (eq_z t (pos 0)) refl)
    where
      go : (b : Bool) → eq_z t (pos 0) ≡ b
          → cond (refused11 s) 11 (cond b 12 (cond (refused13 n s) 13 (cond (not (stationary n s) && ltb l.hop (nat_abs t)) 14
          (cond (refused15 w (stepped n v) s) 15 (cond (refused16 n s) 16 (cond (refused17 n s) 17 0))))))
          ≡ ladder (refused11 s) b (refused13 n s) (not (stationary n s) && ltb l.hop (nat_abs t))
          (w && against n.direction u) (w && against n.direction (neg3 u)) (lt_z t (pos 0)) (refused16 n s) (refused17 n s)
      go true e = refl
      go false e = rw (orders_by e) refl
