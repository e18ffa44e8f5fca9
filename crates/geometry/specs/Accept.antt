-- What the tests of Accept leave is what the geometry asks for. Assumes directions of 1 or −1, which refusal 4 leaves.
use Rattle.std.specs.Prelude.{◌≡◌, Bool, true, false, not, cond, map, ◌≤◌, T, length, ℤ, pos, ◌*ℤ◌, ◌<ℤ◌}
use Rattle.std.proofs.Common.{sym, ◌∙◌, ap, subst, arith, T_not}
use mathlib.Core.List.Memᴰ
use mathlib.Core.List.Memᴰ.{map as in_map}
use Rattle.std.proofs.lemmas.List.{length-map}
use Rattle.std.specs.Int.Signed.{lt_z, lt_z_no}
use Rattle.integers.specs.Differences.{gaps, eq_out, lt_out}
use Rattle.integers.specs.Variables.{linear}
use Rattle.integers.specs.Words.{eq_z}
use Rattle.integers.proofs.Order.{cancel_zero}
use Rattle.integers.specs.Vectors.{zero3, zero2, image, same3}
use Rattle.integers.specs.declared.V3.{V3}
use Rattle.integers.specs.declared.V2.{V2}
use Rattle.integers.specs.declared.Matrix.{Matrix}
use Rattle.meaning.specs.declared.Nest.{Nest}
use Rattle.meaning.specs.declared.Stream.{Stream}
use Rattle.meaning.specs.Loops.{instances, step_of, place_of, line_of}
use Rattle.meaning.specs.Space.{eq2, box_of}
use Rattle.meaning.specs.Streams.{line, stationary, elements, touches, touched}
use Rattle.meaning.specs.Accept.{is_zero3, low_rank, refused7, refused8, refused11, refused12, against, refused16, refused17}
use Rattle.meaning.specs.Points.{IsLine as Line, Direction, Direction.onward, Direction.back, Directed, Earlier, Earlier.by_outer}
use Rattle.meaning.specs.Points.{Earlier.by_middle, Earlier.by_inner, Inside}
use Rattle.meaning.specs.Conditions.{Onward, Onward.by_first, Onward.by_second, Onward.by_third}
use Rattle.lists.specs.Members.{any_yes, yes_any}
use Rattle.geometry.specs.Numbers.{eq_z_eq, eq_eq_z, eq2_eq, eq_eq2, not_zero, positive_not}
use Rattle.geometry.specs.Lines.{line_is, line_not}
use Rattle.geometry.specs.Sorting.{fewer}
use Rattle.geometry.specs.Instances.{within_in, in_within}
use Rattle.geometry.specs.Boxes.{row_distinct, points_inside, inside_points, points_sorted}
use Rattle.geometry.specs.Processes.{Layout}
use Rattle.geometry.specs.Pipes.{Touched, Accepted}

-- refusals 7, 8, 11, 12: a matrix of full rank whose line has a step has a line
pub line_of_lem : (n : Nest) (m : Matrix) → T (not (low_rank m)) → T (not (eq_z (step_of n (line_of n m)) (pos 0))) → Line n m (line_of n m)
line_of_lem n m r t =
    line_is n m (λ e. T_not (low_rank m) r (subst (λ (w : V3). T (is_zero3 w)) (sym e) tt))
    (λ e. T_not (eq_z (step_of n (line_of n m)) (pos 0)) t (eq_eq_z (step_of n (line_of n m)) (pos 0) e))

pub layout_of : {n : Nest} → Directed n → T (not (refused7 n)) → T (not (refused8 n)) → Layout n
layout_of {n} d r7 r8 = record { dirs = d; inc = line_of_lem n n.place r7 r8 }

-- 17: every element of the box is touched
pub touch : {n : Nest} (s : Stream) → Directed n → T (not (refused17 n s)) → (e : V2) → Inside (box_of n s.map) e → Touched n s e
touch {n} s d full e k =
    let t : T (touched n s e) = go (touched n s e) (λ u. u) in
    let r = any_yes (λ x. touches s x e) (instances n) t in
    record { by = r.it; at = record { within = in_within d r.mem; to = eq2_eq (image s.map r.it) e r.ok } }
  where
    go : (b : Bool) → (T (not b) → T (not (touched n s e))) → T b
    go true f = tt
    go false f = T_not (refused17 n s) full (yes_any (λ w. not (touched n s w)) (inside_points (box_of n s.map) e k) (f tt))

-- so there are no more than instances
pub touched_few : {n : Nest} (s : Stream) → Directed n → ((e : V2) → Inside (box_of n s.map) e → Touched n s e)
    → length (elements n s) ≤ length (instances n)
touched_few {n} s d full =
    omega (
      arith,
      length-map (instances n) (image s.map),
      fewer {m = map (image s.map) (instances n)}
          (row_distinct (points_sorted (box_of n s.map))) λ p k.
          let t = (full p (points_inside (box_of n s.map) p k)).at in
          Memᴰ.cast (sym t.to) (in_map (image s.map) (within_in d t.within)),
    )

-- a stream that is not refused, whatever the limits and refusals 13 and 14 say
pub accepted : {n : Nest} {s : Stream} → Layout n → T (not (refused11 s)) → T (not (refused12 n s)) → T (not (refused16 n s))
    → T (not (refused17 n s))
    → Accepted n s
accepted {n} {s} l r11 r12 r16 r17 =
    record {
      layout = l;
      lin = line_of_lem n s.map r11 r12;
      goes = go (stationary n s) (eq_eq2 (place_of n (line n s)) zero2) r16;
      full = touch s l.dirs r17;
    }
  where
    go : (b : Bool) → (place_of n (line n s) ≡ zero2 → T b) → T (not (cond b (eq2 s.loading zero2) (not (eq2 s.loading zero2))))
        → cond b s.loading (place_of n (line n s)) ≡ zero2 → ⊥
    go true f t e = T_not (eq2 s.loading zero2) t (eq_eq2 s.loading zero2 e)
    go false f t e = absurd (f e)

-- 15: the line of a written stream leads on in the written order, exactly if the test says so
pub line_onward : {n : Nest} {m : Matrix} {u : V3} → Directed n → Line n m u → T (not (against n.direction u)) → Onward n.direction u
line_onward {n} {u} d line t =
    outer (eq_z u.x (pos 0)) (eq_z_eq u.x (pos 0)) (eq_eq_z u.x (pos 0)) t
  where
    one : {c : ℤ} → Direction c → c ≡ pos 0 → ⊥
    one onward e = omega (arith, eq_out e)
    one back e = omega (arith, eq_out e)

    component : {c : ℤ} → Direction c → (w : ℤ) → (w ≡ pos 0 → ⊥) → T (not (lt_z (c *ℤ w) (pos 0))) → pos 0 <ℤ (c *ℤ w)
    component {c} d w f t = not_zero (c *ℤ w) (lt_z_no t) (λ e. f (cancel_zero c w (one d) e))

    not_all : u.x ≡ pos 0 → u.y ≡ pos 0 → u.z ≡ pos 0 → ⊥
    not_all e f g = line_not line (same3 {u = u} {w = zero3} e f g)

    middle : u.x ≡ pos 0 → (b : Bool) → (T b → u.y ≡ pos 0) → (u.y ≡ pos 0 → T b)
        → T (not (cond b (lt_z (n.direction.z *ℤ u.z) (pos 0)) (lt_z (n.direction.y *ℤ u.y) (pos 0)))) → Onward n.direction u
    middle e true f g w = by_third e (f tt) (component d.inner u.z (not_all e (f tt)) w)
    middle e false f g w = by_second e (component d.middle u.y g w)

    outer : (b : Bool) → (T b → u.x ≡ pos 0) → (u.x ≡ pos 0 → T b)
        → T (not (cond b (cond (eq_z u.y (pos 0)) (lt_z (n.direction.z *ℤ u.z) (pos 0)) (lt_z (n.direction.y *ℤ u.y) (pos 0)))
        (lt_z (n.direction.x *ℤ u.x) (pos 0)))) → Onward n.direction u
    outer true f g w = middle (f tt) (eq_z u.y (pos 0)) (eq_z_eq u.y (pos 0)) (eq_eq_z u.y (pos 0)) w
    outer false f g w = by_first (component d.outer u.x g w)

pub onward_not : (d u : V3) → Onward d u → T (against d u) → ⊥
onward_not d u h t =
    go h (eq_z u.x (pos 0)) (eq_z_eq u.x (pos 0)) (eq_eq_z u.x (pos 0)) (eq_z u.y (pos 0)) (eq_z_eq u.y (pos 0))
    (eq_eq_z u.y (pos 0)) t
  where
    times_zero : (c : ℤ) → c *ℤ pos 0 ≡ pos 0
    times_zero = linear 0 1 _ λ p m. simp gaps (omega arith)

    some : (c w : ℤ) → pos 0 <ℤ (c *ℤ w) → w ≡ pos 0 → ⊥
    some c w h e = positive_not h (ap (λ (w : ℤ). c *ℤ w) e ∙ times_zero c)

    not_less : {a : ℤ} → pos 0 <ℤ a → T (lt_z a (pos 0)) → ⊥
    not_less {a} h t = let k : a <ℤ pos 0 = record { lt = t } in omega (arith, lt_out h, lt_out k)

    go : Onward d u → (a : Bool) → (T a → u.x ≡ pos 0) → (u.x ≡ pos 0 → T a) → (b : Bool) → (T b → u.y ≡ pos 0) → (u.y ≡ pos 0 → T b)
        → T (cond a (cond b (lt_z (d.z *ℤ u.z) (pos 0)) (lt_z (d.y *ℤ u.y) (pos 0))) (lt_z (d.x *ℤ u.x) (pos 0))) → ⊥
    go (by_first h) true e e' b f f' t = some d.x u.x h (e tt)
    go (by_first h) false e e' b f f' t = not_less h t
    go (by_second x h) true e e' true f f' t = some d.y u.y h (f tt)
    go (by_second x h) true e e' false f f' t = not_less h t
    go (by_second x h) false e e' b f f' t = e' x
    go (by_third x y h) true e e' true f f' t = not_less h t
    go (by_third x y h) true e e' false f f' t = f' y
    go (by_third x y h) false e e' b f f' t = e' x

pub line_leads : {n : Nest} {m : Matrix} {u : V3} → Directed n → Line n m u → T (not (against n.direction u))
    → Earlier n.direction zero3 u
line_leads {n} {u} d line t = go (line_onward d line t)
  where
    from : (c w : ℤ) → pos 0 <ℤ (c *ℤ w) → (c *ℤ pos 0) <ℤ (c *ℤ w)
    from = linear 0 2 _ λ p m. simp gaps (omega arith)

    go : Onward n.direction u → Earlier n.direction zero3 u
    go (by_first h) = by_outer (from n.direction.x u.x h)
    go (by_second x h) = by_middle (sym x) (from n.direction.y u.y h)
    go (by_third x y h) = by_inner (sym x) (sym y) (from n.direction.z u.z h)

-- and a vector that the test finds against the directions leads back
pub against_back : (d u : V3) → T (against d u) → Earlier d u zero3
against_back d u t = outer (eq_z u.x (pos 0)) (eq_z_eq u.x (pos 0)) t
  where
    from : (c w : ℤ) → (c *ℤ w) <ℤ pos 0 → (c *ℤ w) <ℤ (c *ℤ pos 0)
    from = linear 0 2 _ λ p m. simp gaps (omega arith)

    middle : u.x ≡ pos 0 → (b : Bool) → (T b → u.y ≡ pos 0)
        → T (cond b (lt_z (d.z *ℤ u.z) (pos 0)) (lt_z (d.y *ℤ u.y) (pos 0))) → Earlier d u zero3
    middle e true f t = by_inner e (f tt) (from d.z u.z (record { lt = t }))
    middle e false f t = by_middle e (from d.y u.y (record { lt = t }))

    outer : (b : Bool) → (T b → u.x ≡ pos 0)
        → T (cond b (cond (eq_z u.y (pos 0)) (lt_z (d.z *ℤ u.z) (pos 0)) (lt_z (d.y *ℤ u.y) (pos 0))) (lt_z (d.x *ℤ u.x) (pos 0)))
        → Earlier d u zero3
    outer true f t = middle (f tt) (eq_z u.y (pos 0)) (eq_z_eq u.y (pos 0)) t
    outer false f t = by_outer (from d.x u.x (record { lt = t }))
