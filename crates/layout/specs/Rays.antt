-- How often one can go on in a box: the least that either coordinate allows. Assumes nothing.
use Rattle.std.specs.Prelude.{◌≡◌, refl, true, false, ℕ, zero, suc, min, ◌*◌, ◌/◌, ◌≤◌, ◌<◌, ℤ, pos, negsuc, nat_abs, ◌-ℤ◌, ◌*ℤ◌, ◌≤ℤ◌}
use Rattle.std.specs.Prelude.{◌+ℤ◌, ◌<ℤ◌}
use Rattle.std.proofs.Common.{sym, ◌∙◌, ap, true≢false, le-div_iff_mul-le, div-le_self, arith, to_z, of_z}
use Rattle.std.proofs.Math.IntN.{ℤ_discrete}
use Rattle.std.specs.Int.{w32}
use Rattle.integers.specs.Differences.{Abs, gaps, parts, up, le_out, lt_out}
use Rattle.integers.specs.Variables.{linear}
use Rattle.integers.specs.Words.{at, eq_z, eq_z→eq}
use Rattle.integers.specs.Vectors.{zero2, shift2, same2}
use Rattle.integers.specs.declared.V2.{V2}
use Rattle.meaning.specs.Space.{Box}
use Rattle.meaning.specs.Pipes.{reach}
use Rattle.meaning.specs.Points.{Between, Inside}
use Rattle.geometry.specs.Reach.{reach_in, reach_le}
use Rattle.vectors.specs.Within.{Within2}
use Rattle.numbering.specs.Ranges.{Apart, between_apart}
use Rattle.numbering.specs.Extents.{Spanning}
use Rattle.layout.specs.declared.Ray.{Ray}

-- ---- one coordinate

-- how often it allows to go on
abbrev room : ℤ → ℤ → ℤ → ℤ → ℕ
room lo hi at (pos zero) = 4096
room lo hi at (pos (suc c)) = up (hi -ℤ at) / suc c
room lo hi at (negsuc c) = up (at -ℤ lo) / suc c

abbrev pub room_of : Ray → ℕ
room_of r = room r.lo r.hi r.at r.by

-- by the tests of the code
pub room_free : (r : Ray) → eq_z r.by (pos 0) ≡ true → 4096 ≡ room_of r
room_free r e = sym (ap (room r.lo r.hi r.at) (eq_z→eq r.by (pos 0) e))

pub room_down : (r : Ray) → r.by <ℤ pos 0 → up (r.at -ℤ r.lo) / nat_abs r.by ≡ room_of r
room_down r h = go r.by h
  where
    go : (b : ℤ) → b <ℤ pos 0 → up (r.at -ℤ r.lo) / nat_abs b ≡ room r.lo r.hi r.at b
    go (pos c) h = absurd (omega (arith, lt_out h))
    go (negsuc c) h = refl

pub room_up : (r : Ray) → eq_z r.by (pos 0) ≡ false → pos 0 ≤ℤ r.by → up (r.hi -ℤ r.at) / nat_abs r.by ≡ room_of r
room_up r e h = go r.by e h
  where
    go : (b : ℤ) → eq_z b (pos 0) ≡ false → pos 0 ≤ℤ b → up (r.hi -ℤ r.at) / nat_abs b ≡ room r.lo r.hi r.at b
    go (pos zero) e h = absurd (true≢false e)
    go (pos (suc c)) e h = refl
    go (negsuc c) e h = absurd (omega (arith, le_out h))

-- the step as the code holds it: its magnitude
pub step_size : {b : ℤ} {m : ℕ} → Abs b 4800 → m ≡ nat_abs (to_z w32 (of_z w32 b)) → m ≡ nat_abs b
step_size h e = e ∙ ap nat_abs (at tt h).eq

-- a step that is not zero
pub some_step : (b : ℤ) → eq_z b (pos 0) ≡ false → 0 < nat_abs b
some_step (pos zero) e = absurd (true≢false e)
some_step (pos (suc c)) e = omega arith
some_step (negsuc c) e = omega arith

-- small words, and the point is in the box
pub record Along (r : Ray) : Type 0 where
  pub low : Apart r.lo r.at
  pub high : Apart r.at r.hi
  pub by : Abs r.by 4800

-- they are read back from their words unchanged
same_ray : {lo hi at by l h a b : ℤ} → lo ≡ l → hi ≡ h → at ≡ a → by ≡ b
    → ◌≡◌ {A = Ray} (record { lo = lo; hi = hi; at = at; by = by }) (record { lo = l; hi = h; at = a; by = b })
same_ray e f g h = cc

abbrev word : ℤ → ℤ
word z = to_z w32 (of_z w32 z)

pub along_words : {r : Ray} → Along r → ◌≡◌ {A = Ray} (record { lo = word r.lo; hi = word r.hi; at = word r.at; by = word r.by }) r
along_words h = same_ray (at tt h.low.low).eq (at tt h.high.high).eq (at tt h.low.high).eq (at tt h.by).eq

on_up : (i c : ℕ) (l r a : ℤ) → l ≤ℤ a → a ≤ℤ r → i * suc c ≤ up (r -ℤ a)
    → (l ≤ℤ (a +ℤ pos i *ℤ pos (suc c))) × ((a +ℤ pos i *ℤ pos (suc c)) ≤ℤ r)
on_up i c = linear 0 3 _ λ p m. simp (gaps, parts) (λ h k e. (omega arith, omega arith))

on_down : (i c : ℕ) (l r a : ℤ) → l ≤ℤ a → a ≤ℤ r → i * suc c ≤ up (a -ℤ l)
    → (l ≤ℤ (a +ℤ pos i *ℤ negsuc c)) × ((a +ℤ pos i *ℤ negsuc c) ≤ℤ r)
on_down i c = linear 0 3 _ λ p m. simp (gaps, parts) (λ h k e. (omega arith, omega arith))

up_on : (i c : ℕ) (l r a : ℤ) → a ≤ℤ r → (a +ℤ pos i *ℤ pos (suc c)) ≤ℤ r → i * suc c ≤ up (r -ℤ a)
up_on i c = linear 0 3 _ λ p m. simp (gaps, parts) (omega arith)

down_on : (i c : ℕ) (l r a : ℤ) → l ≤ℤ a → l ≤ℤ (a +ℤ pos i *ℤ negsuc c) → i * suc c ≤ up (a -ℤ l)
down_on i c = linear 0 3 _ λ p m. simp (gaps, parts) (omega arith)

still : (i : ℕ) (a : ℤ) → a +ℤ pos i *ℤ pos 0 ≡ a
still i = linear 0 1 _ λ p m. simp gaps (omega arith)

positive : (c : ℕ) → 0 < suc c
positive c = omega arith

-- so often one stays in it
room_in : (lo hi at by : ℤ) (i : ℕ) → lo ≤ℤ at → at ≤ℤ hi → i ≤ room lo hi at by
    → Between lo hi (at +ℤ pos i *ℤ by)
room_in lo hi at (pos zero) i h k r = record { lo = rw (still i at) h; hi = rw (still i at) k }
room_in lo hi at (pos (suc c)) i h k r =
    let b = on_up i c lo hi at h k ((le-div_iff_mul-le (positive c)).0 r) in record { lo = b.0; hi = b.1 }
room_in lo hi at (negsuc c) i h k r =
    let b = on_down i c lo hi at h k ((le-div_iff_mul-le (positive c)).0 r) in record { lo = b.0; hi = b.1 }

-- and no oftener, if it changes
room_most : (lo hi at by : ℤ) (i : ℕ) → (by ≡ pos 0 → ⊥) → lo ≤ℤ at → at ≤ℤ hi → Between lo hi (at +ℤ pos i *ℤ by)
    → i ≤ room lo hi at by
room_most lo hi at (pos zero) i f h k b = absurd (f refl)
room_most lo hi at (pos (suc c)) i f h k b = (le-div_iff_mul-le (positive c)).1 (up_on i c lo hi at k b.hi)
room_most lo hi at (negsuc c) i f h k b = (le-div_iff_mul-le (positive c)).1 (down_on i c lo hi at h b.lo)

apart_most : {a b : ℤ} → Apart a b → up (b -ℤ a) ≤ 1536
apart_most {a} {b} h = go a b h.low h.high h.ordered
  where
    go : (a b : ℤ) → Abs a 768 → Abs b 768 → a ≤ℤ b → up (b -ℤ a) ≤ 1536
    go = linear 0 2 _ λ p m. simp (gaps, parts) (omega arith)

room_small : {lo hi at by : ℤ} → (by ≡ pos 0 → ⊥) → Apart lo at → Apart at hi → room lo hi at by ≤ 1536
room_small {by = pos zero} f h k = absurd (f refl)
room_small {lo} {hi} {at} {by = pos (suc c)} f h k = omega (arith, apart_most k, div-le_self (up (hi -ℤ at)) (suc c))
room_small {lo} {hi} {at} {by = negsuc c} f h k = omega (arith, apart_most h, div-le_self (up (at -ℤ lo)) (suc c))

-- ---- both

-- a way that leads on from a point of a box
pub record Going (k : Box) (d p : V2) : Type 0 where
  pub box : Spanning k
  pub inside : Inside k p
  pub by : Within2 4800 d
  pub on : d ≡ zero2 → ⊥

abbrev pub first_ray : Box → V2 → V2 → Ray
first_ray k d p = record { lo = k.lo.a; hi = k.hi.a; at = p.a; by = d.a }

abbrev pub second_ray : Box → V2 → V2 → Ray
second_ray k d p = record { lo = k.lo.b; hi = k.hi.b; at = p.b; by = d.b }

module _ {k : Box} {d p : V2} (g : Going k d p) where
  low_a : Apart k.lo.a p.a
  low_a = between_apart g.box.first g.inside.ina

  low_b : Apart k.lo.b p.b
  low_b = between_apart g.box.second g.inside.inb

  high_a : Apart p.a k.hi.a
  high_a = record { low = low_a.high; high = g.box.first.high; ordered = g.inside.ina.hi }

  high_b : Apart p.b k.hi.b
  high_b = record { low = low_b.high; high = g.box.second.high; ordered = g.inside.inb.hi }

  pub first_along : Along (first_ray k d p)
  first_along = record { low = low_a; high = high_a; by = g.by.first }

  pub second_along : Along (second_ray k d p)
  second_along = record { low = low_b; high = high_b; by = g.by.second }

  abbrev ra : ℕ
  ra = room_of (first_ray k d p)

  abbrev rb : ℕ
  rb = room_of (second_ray k d p)

  at_least : (i : ℕ) → i ≤ ra → i ≤ rb → i ≤ reach k d p
  at_least i u v =
      reach_le k g.on g.inside i
      (record {
        ina = room_in k.lo.a k.hi.a p.a d.a i low_a.ordered high_a.ordered u;
        inb = room_in k.lo.b k.hi.b p.b d.b i low_b.ordered high_b.ordered v;
      })

  reached : Inside k (shift2 p (pos (reach k d p)) d)
  reached = reach_in k g.on g.inside (reach k d p) (omega arith)

  first_most : (d.a ≡ pos 0 → ⊥) → reach k d p ≤ ra
  first_most f = room_most k.lo.a k.hi.a p.a d.a (reach k d p) f low_a.ordered high_a.ordered reached.ina

  second_most : (d.b ≡ pos 0 → ⊥) → reach k d p ≤ rb
  second_most f = room_most k.lo.b k.hi.b p.b d.b (reach k d p) f low_b.ordered high_b.ordered reached.inb

  -- where a coordinate does not change, the other decides
  free : (lo hi at : ℤ) {by : ℤ} → by ≡ pos 0 → room lo hi at by ≡ 4096
  free lo hi at e = ap (room lo hi at) e

  both : Dec (d.a ≡ pos 0) → Dec (d.b ≡ pos 0) → (reach k d p ≤ ra) × (reach k d p ≤ rb) × (reach k d p ≤ 1536)
  both (yes e) (yes f) = absurd (g.on (same2 e f))
  both (no e) (no f) = (first_most e, second_most f, omega (arith, first_most e, room_small e low_a high_a))
  both (yes e) (no f) =
      let s = second_most f in
      let t = room_small f low_b high_b in
      (omega (arith, free k.lo.a k.hi.a p.a e), s, omega arith)
  both (no e) (yes f) =
      let s = first_most e in
      let t = room_small e low_a high_a in
      (s, omega (arith, free k.lo.b k.hi.b p.b f), omega arith)

  abbrev bounds : (reach k d p ≤ ra) × (reach k d p ≤ rb) × (reach k d p ≤ 1536)
  bounds = both (ℤ_discrete d.a (pos 0)) (ℤ_discrete d.b (pos 0))

  pub reach_small : reach k d p ≤ 1536
  reach_small = bounds.2

  -- how often one can go on is the least that either coordinate allows
  pub reach_least : {a b : ℕ} → a ≡ room_of (first_ray k d p) → b ≡ room_of (second_ray k d p)
      → (min a b ≡ reach k d p) × (min a b ≤ 1536)
  reach_least {a} {b} e f =
      let l = at_least (min a b) (omega arith) (omega arith) in
      (omega (arith, l, bounds.0, bounds.1), omega (arith, l, reach_small))
