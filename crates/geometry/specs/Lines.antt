-- Lines: the shortest vector that a matrix sends to zero, turned so that its step is positive. A matrix has one line, and what it sends to
-- one point lies along it. Of two matrices either each sends the other's line to zero, and then they have one line, or neither does.
-- Assumes nothing.
use Rattle.std.specs.Prelude.{◌≡◌, Bool, true, false, not, cond, ℕ, zero, suc, ◌≤◌, T, ℤ, pos, negsuc, neg_ℤ, ◌+ℤ◌, ◌-ℤ◌, ◌*ℤ◌, ◌≤ℤ◌, ◌<ℤ◌}
use Rattle.std.proofs.Common.{sym, ◌∙◌, ap, subst₂, arith}
use Rattle.std.specs.Int.Signed.{lt_z, lt_z_no}
use Rattle.integers.specs.Differences.{gaps, le_out, lt_out, eq_out}
use Rattle.integers.specs.Variables.{linear}
use Rattle.integers.specs.Ring.{ring, quotes, literal, solve3, given, ◌also◌, Ex.var, Ex.minus, Ex.plain}
use Rattle.integers.proofs.Ring.{solve, solve_by}
use Rattle.integers.specs.Order.{mul_reflects}
use Rattle.integers.proofs.Order.{cancel, cancel_zero}
use Rattle.integers.specs.Vectors.{zero3, sub3, neg3, scale3, shift3, dot, zero2, shift2, image, same2}
use Rattle.integers.proofs.Vectors.{dot_shift, dot_sub, dot_neg}
use Rattle.integers.specs.Vectors.{same3, cross, sub_add}
use Rattle.integers.proofs.Vectors.{cross_left, cross_right, dot_scale, image_shift}
use Rattle.lattice.proofs.Shortening.{shortens}
use Rattle.lattice.specs.Lattice.{Null, Shortest, Independent, shortest, shortest_neg, no_shorter, NoLonger}
use Rattle.integers.specs.declared.V3.{V3}
use Rattle.integers.specs.declared.V2.{V2}
use Rattle.integers.specs.declared.Matrix.{Matrix}
use Rattle.meaning.specs.declared.Nest.{Nest}
use Rattle.meaning.specs.Loops.{step_of, turn, unshortened, short_of, line_of}
use Rattle.meaning.specs.Points.{IsLine as Line}
use Rattle.geometry.specs.Numbers.{not_zero, positive_not, zero_on, on_reflects, on_one, shift_still, shift_one}

-- ---- document 01's line is the line

shortest_turn : (p q s u : V3) → Shortest p q u → Shortest p q (turn s u)
shortest_turn p q s u h = go (lt_z (dot s u) (pos 0))
  where
    go : (b : Bool) → Shortest p q (cond b (neg3 u) u)
    go true = shortest_neg p q u h
    go false = h

pub turn_ahead : (s u : V3) → pos 0 ≤ℤ dot s (turn s u)
turn_ahead s u = go (lt_z (dot s u) (pos 0)) (λ t. record { lt = t }) (λ t. lt_z_no t)
  where
    flip : (a b : ℤ) → a ≡ neg_ℤ b → b <ℤ pos 0 → pos 0 ≤ℤ a
    flip = linear 0 2 _ λ p m. simp gaps (omega arith)

    go : (b : Bool) → (T b → dot s u <ℤ pos 0) → (T (not b) → pos 0 ≤ℤ dot s u) → pos 0 ≤ℤ dot s (cond b (neg3 u) u)
    go true f g = flip _ (dot s u) (dot_neg s u) (f tt)
    go false f g = g tt

-- where the rows are independent it is the shortest, and so the line if its step is not 0
pub line_short : (n : Nest) (m : Matrix) → Independent m.top m.low → Shortest m.top m.low (line_of n m)
unfolding line_of
line_short n m h =
    shortest_turn m.top m.low n.step (short_of m).vector (shortest m.top m.low (shortens (unshortened m)) h)

pub line_is : (n : Nest) (m : Matrix) → Independent m.top m.low → (step_of n (line_of n m) ≡ pos 0 → ⊥) → Line n m (line_of n m)
unfolding line_of
line_is n m h k =
    record { short = line_short n m h; ahead = not_zero (step_of n (line_of n m)) (turn_ahead n.step (short_of m).vector) k }

-- and it is not zero
pub line_some : (n : Nest) (m : Matrix) → Independent m.top m.low → line_of n m ≡ zero3 → ⊥
line_some n m h e =
    let r = (line_short n m h).all (cross m.top m.low)
    (record { top = cross_left m.top m.low; low = cross_right m.top m.low }) in
    h (r.eq ∙ ap (scale3 r.by) e ∙ times_zero r.by)
  where
    times_zero : (t : ℤ) → scale3 t zero3 ≡ zero3
    times_zero t = same3 (at t) (at t) (at t)
      where
        at : (t : ℤ) → t *ℤ pos 0 ≡ pos 0
        at = linear 0 1 _ λ p m. simp gaps (omega arith)

-- if there is a line, that step is not 0
pub line_steps : (n : Nest) (m : Matrix) (u : V3) → Independent m.top m.low → Line n m u → step_of n (line_of n m) ≡ pos 0 → ⊥
line_steps n m u h line e =
    let r = (line_short n m h).all u line.short.null in
    positive_not line.ahead
    (ap (step_of n) r.eq ∙ dot_scale n.step (line_of n m) r.by ∙ ap (λ (w : ℤ). r.by *ℤ w) e ∙ times_zero r.by)
  where
    times_zero : (t : ℤ) → t *ℤ pos 0 ≡ pos 0
    times_zero = linear 0 1 _ λ p m. simp gaps (omega arith)

-- ---- along a line

-- x is f and a whole number of times u
pub record Off (u f x : V3) : Type 0 where
  pub by : ℤ
  pub eq : x ≡ shift3 f by u

-- and that number is not negative
pub record Ahead (u f x : V3) : Type 0 where
  pub at : ℕ
  pub eq : x ≡ shift3 f (pos at) u

null : {m : Matrix} {u : V3} → image m u ≡ zero2 → Null m.top m.low u
null e = record { top = ap (λ (w : V2). w.a) e; low = ap (λ (w : V2). w.b) e }

module _ {n : Nest} {m : Matrix} {u : V3} (line : Line n m u) where
  pub line_null : image m u ≡ zero2
  line_null = same2 line.short.null.top line.short.null.low

  -- it is not zero, and no vector that is sent to zero is shorter
  pub line_not : u ≡ zero3 → ⊥
  line_not e = positive_not line.ahead (ap (step_of n) e ∙ dot_zero n.step)
    where
      dot_zero : (s : V3) → dot s zero3 ≡ pos 0
      dot_zero = ring 1 0 _ λ ρ. simp (quotes, literal ρ) (solve ρ _ _ tt)

  pub line_shortest : (d : V3) → image m d ≡ zero2 → (d ≡ zero3 → ⊥) → NoLonger u d
  line_shortest d e f = no_shorter m.top m.low u line.short d (null e) f

  -- what lies along the line is sent to one point
  pub along : (x : V3) (i : ℤ) → image m (shift3 x i u) ≡ image m x
  along x i = image_shift m x u i ∙ shift_still (image m x) i line_null

  -- and what is sent to one point lies along the line
  pub on_line : (f x : V3) → image m f ≡ image m x → Off u f x
  on_line f x e =
      let r = line.short.all (sub3 x f)
      (record { top = none m.top (ap (λ (w : V2). w.a) e); low = none m.low (ap (λ (w : V2). w.b) e) }) in
      record { by = r.by; eq = sub_add x f (scale3 r.by u) r.eq }
    where
      none : (p : V3) → dot p f ≡ dot p x → dot p (sub3 x f) ≡ pos 0
      none p e = dot_sub p x f ∙ ap (λ (t : ℤ). dot p x -ℤ t) e ∙ nothing (dot p x)
        where
          nothing : (a : ℤ) → a -ℤ a ≡ pos 0
          nothing = linear 0 1 _ λ p m. simp gaps (omega arith)

  -- ahead, if its step is no smaller
  pub ahead_of : (f x : V3) → image m f ≡ image m x → step_of n f ≤ℤ step_of n x → Ahead u f x
  ahead_of f x e h =
      let r = on_line f x e in
      go r.by r.eq
      (on_reflects (pos 0) r.by (step_of n u) (step_of n f) line.ahead
      (subst₂ ◌≤ℤ◌ (sym (zero_on (step_of n f) (step_of n u))) (ap (step_of n) r.eq ∙ dot_shift n.step f u r.by) h))
    where
      go : (t : ℤ) → x ≡ shift3 f t u → pos 0 ≤ℤ t → Ahead u f x
      go (pos t) e h = record { at = t; eq = e }
      go (negsuc t) e h = absurd (omega (arith, le_out h))

  -- what is no later than another on the line is no further ahead
  pub ahead_le : (f : V3) {x x' : V3} (r : Ahead u f x) (r' : Ahead u f x') → step_of n x ≤ℤ step_of n x' → r.at ≤ r'.at
  ahead_le f r r' h =
      natural (on_reflects (pos r.at) (pos r'.at) (step_of n u) (step_of n f) line.ahead
      (subst₂ ◌≤ℤ◌ (step r) (step r') h))
    where
      natural : {i j : ℕ} → pos i ≤ℤ pos j → i ≤ j
      natural h = omega (arith, le_out h)

      step : {x : V3} (r : Ahead u f x) → step_of n x ≡ step_of n f +ℤ pos r.at *ℤ step_of n u
      step r = ap (step_of n) r.eq ∙ dot_shift n.step f u (pos r.at)

  -- how far along is determined
  pub one_along : (f : V3) (i j : ℤ) → shift3 f i u ≡ shift3 f j u → i ≡ j
  one_along f i j e =
      on_one i j (step_of n u) (step_of n f) (positive_not line.ahead)
      (sym (dot_shift n.step f u i) ∙ ap (step_of n) e ∙ dot_shift n.step f u j)

-- ---- two matrices

-- a = t b, a > 0, b > 0: t > 0
factor : (a b t : ℤ) → pos 0 <ℤ a → pos 0 <ℤ b → a ≡ t *ℤ b → pos 0 <ℤ t
factor a b t h k e =
    not_zero t (mul_reflects b (pos 0) t k (not_less a b t h e)) (λ z. positive_not h (e ∙ ap (λ (t : ℤ). t *ℤ b) z ∙ zero_times b))
  where
    not_less : (a b t : ℤ) → pos 0 <ℤ a → a ≡ t *ℤ b → (b *ℤ pos 0) ≤ℤ (b *ℤ t)
    not_less = linear 0 3 _ λ p m. simp gaps (omega arith)

    zero_times : (b : ℤ) → pos 0 *ℤ b ≡ pos 0
    zero_times = linear 0 1 _ λ p m. simp gaps (omega arith)

-- a = t b and b = s a, both positive: t = 1
unit : (a b t s : ℤ) → pos 0 <ℤ a → pos 0 <ℤ b → a ≡ t *ℤ b → b ≡ s *ℤ a → t ≡ pos 1
unit a b t s h k e f = one t s (factor a b t h k e) (cancel a (t *ℤ s) (pos 1) (positive_not h) (round a b t s e f))
  where
    round : (a b t s : ℤ) → a ≡ t *ℤ b → b ≡ s *ℤ a → a *ℤ (t *ℤ s) ≡ a *ℤ pos 1
    round = ring 0 4 _ λ ρ. simp (quotes, literal ρ) (λ e f. solve_by _ _ (given (minus (plain 1)) e also given (minus (var 2)) f) tt)

    one : (t s : ℤ) → pos 0 <ℤ t → t *ℤ s ≡ pos 1 → t ≡ pos 1
    one (pos zero) s h e = absurd (omega (arith, lt_out h))
    one (pos (suc t)) (pos zero) h e = absurd (omega (arith, eq_out e))
    one (pos (suc t)) (pos (suc s)) h e = ap pos (omega (arith, eq_out e))
    one (pos (suc t)) (negsuc s) h e = absurd (low e)
      where
        low : pos (suc t) *ℤ negsuc s ≡ pos 1 → ⊥
        low = simp gaps (omega arith)
    one (negsuc t) s h e = absurd (omega (arith, lt_out h))

module _ {n : Nest} {m m' : Matrix} {u u' : V3} (line : Line n m u) (line' : Line n m' u') where
  -- L4: the second does not send the first's line to zero, if the first does not send the second's there
  pub not_sent : (image m u' ≡ zero2 → ⊥) → image m' u ≡ zero2 → ⊥
  not_sent f e = go (line'.short.all u (null e)).by (line'.short.all u (null e)).eq
    where
      go : (t : ℤ) → u ≡ scale3 t u' → ⊥
      go t e =
          let z : pos 0 <ℤ t = factor (step_of n u) (step_of n u') t line.ahead line'.ahead
          (ap (step_of n) e ∙ dot_scale n.step u' t) in
          f (same2 (row z m.top line.short.null.top) (row z m.low line.short.null.low))
        where
          row : pos 0 <ℤ t → (p : V3) → dot p u ≡ pos 0 → dot p u' ≡ pos 0
          row z p k = cancel_zero t (dot p u') (positive_not z) (sym (dot_scale p u' t) ∙ ap (dot p) (sym e) ∙ k)

  -- L5: two lines, each sent to zero by the other's matrix, are one
  pub one_line : image m u' ≡ zero2 → image m' u ≡ zero2 → u ≡ u'
  one_line e e' =
      let r = line.short.all u' (null e) in
      let r' = line'.short.all u (null e') in
      let t = unit (step_of n u') (step_of n u) r.by r'.by line'.ahead line.ahead
      (ap (step_of n) r.eq ∙ dot_scale n.step u r.by) (ap (step_of n) r'.eq ∙ dot_scale n.step u' r'.by) in
      sym (r.eq ∙ ap (λ (t : ℤ). scale3 t u) t ∙ one u)
    where
      one : (u : V3) → scale3 (pos 1) u ≡ u
      one = ring 1 0 _ λ ρ. simp (quotes, literal ρ) (solve3 (solve ρ _ _ tt) (solve ρ _ _ tt) (solve ρ _ _ tt))

  -- G3: what m sends k times m u' on from m x is x + k u' + j u, with m' it goes j times m' u on from m' x, and k and j are determined
  pub coordinates : (x x' : V3) (k : ℤ) → image m x' ≡ shift2 (image m x) k (image m u') → Off u (shift3 x k u') x'
  coordinates x x' k e = on_line line (shift3 x k u') x' (image_shift m x u' k ∙ sym e)

  pub image_other : (x : V3) (k j : ℤ) → image m' (shift3 (shift3 x k u') j u) ≡ shift2 (image m' x) j (image m' u)
  image_other x k j = image_shift m' (shift3 x k u') u j ∙ ap (λ (w : V2). shift2 w j (image m' u)) (along line' x k)

  pub image_this : (x : V3) (k j : ℤ) → image m (shift3 (shift3 x k u') j u) ≡ shift2 (image m x) k (image m u')
  image_this x k j = along line (shift3 x k u') j ∙ image_shift m x u' k

  pub determined : (image m u' ≡ zero2 → ⊥) → (x : V3) (k k' j j' : ℤ)
      → shift3 (shift3 x k u') j u ≡ shift3 (shift3 x k' u') j' u → (k ≡ k') × (j ≡ j')
  determined f x k k' j j' e = (
    shift_one (image m x) (image m u') k k' f (sym (image_this x k j) ∙ ap (image m) e ∙ image_this x k' j'),
    shift_one (image m' x) (image m' u) j j' (not_sent f) (sym (image_other x k j) ∙ ap (image m') e ∙ image_other x k' j'),
  )

-- a matrix has one line
pub line_unique : {n : Nest} {m : Matrix} {u u' : V3} → Line n m u → Line n m u' → u ≡ u'
line_unique h h' = one_line h h' (line_null h') (line_null h)
