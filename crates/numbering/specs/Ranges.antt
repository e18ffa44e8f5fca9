-- What the range tests of a description leave: a nest in range, one loop of it, small numbers and the words that hold them.
-- Assumes nothing.
use Rattle.std.specs.Prelude.{◌≡◌, Bool, List, ℕ, ◌+◌, ◌≤◌, ◌<◌, length, get_or, ℤ, pos, ◌-ℤ◌, ◌≤ℤ◌}
use Rattle.std.proofs.Common.{sym, ◌∙◌, ap, ap₂, subst, subst₂, arith, SFits, to_z, of_z, to_z-of_z}
use Rattle.std.specs.Int.Signed.{lt_z}
use Rattle.std.specs.Int.{w32}
use Rattle.integers.specs.Differences.{Abs, gaps, parts, up}
use Rattle.integers.specs.Variables.{linear}
use Rattle.integers.specs.Bounds.{Abs-wider}
use Rattle.integers.specs.Words.{at, bounded}
use Rattle.integers.specs.Vectors.{zero3}
use Rattle.integers.specs.declared.V3.{V3}
use Rattle.meaning.specs.declared.Nest.{Nest}
use Rattle.meaning.specs.Loops.{size, loop, instances}
use Rattle.meaning.specs.Points.{Direction, Directed, Between, Within as InBounds}
use Rattle.geometry.specs.Places.{get_d_in}
use Rattle.geometry.specs.Instances.{in_within}
use Rattle.vectors.specs.Within.{Within, Rows}
use Rattle.numbering.specs.declared.Loop.{Loop}

-- a nest whose words are in range and whose left bounds are not above the right ones
pub record Bounded (n : Nest) : Type 0 where
  pub left : Within 64 n.left
  pub right : Within 64 n.right
  pub outer : n.left.x ≤ℤ n.right.x
  pub middle : n.left.y ≤ℤ n.right.y
  pub inner : n.left.z ≤ℤ n.right.z
  pub directed : Directed n
  pub step : Within 8 n.step
  pub place : Rows 4 n.place

-- one loop: how often it turns, and its values
abbrev pub turns : Loop → ℕ
turns l = size l.left l.right

abbrev pub values : Loop → List ℤ
values l = loop l.left l.right l.direction

pub record Ranged (l : Loop) : Type 0 where
  pub left : Abs l.left 64
  pub right : Abs l.right 64
  pub ordered : l.left ≤ℤ l.right
  pub direction : Direction l.direction

-- the three of a nest
abbrev pub outer_of : Nest → Loop
outer_of n = record { left = n.left.x; right = n.right.x; direction = n.direction.x }

abbrev pub middle_of : Nest → Loop
middle_of n = record { left = n.left.y; right = n.right.y; direction = n.direction.y }

abbrev pub inner_of : Nest → Loop
inner_of n = record { left = n.left.z; right = n.right.z; direction = n.direction.z }

pub outer_ranged : {n : Nest} → Bounded n → Ranged (outer_of n)
outer_ranged h = record { left = h.left.xs; right = h.right.xs; ordered = h.outer; direction = h.directed.outer }

pub middle_ranged : {n : Nest} → Bounded n → Ranged (middle_of n)
middle_ranged h = record { left = h.left.ys; right = h.right.ys; ordered = h.middle; direction = h.directed.middle }

pub inner_ranged : {n : Nest} → Bounded n → Ranged (inner_of n)
inner_ranged h = record { left = h.left.zs; right = h.right.zs; ordered = h.inner; direction = h.directed.inner }

-- ---- words that hold numbers

abbrev word : ℤ → ℤ
word z = to_z w32 (of_z w32 z)

-- a loop in range, of the words that hold its bounds and its direction
direction_small : {d : ℤ} → Direction d → Abs d 1
direction_small Direction.onward = record { abs = omega arith }
direction_small Direction.back = record { abs = omega arith }

same_loop : {l r d a b c : ℤ} → l ≡ a → r ≡ b → d ≡ c
    → ◌≡◌ {A = Loop} (record { left = l; right = r; direction = d }) (record { left = a; right = b; direction = c })
same_loop e f g = cc

pub loop_words : {k l : Loop} → Ranged l → k ≡ record { left = word l.left; right = word l.right; direction = word l.direction }
    → (k ≡ l) × Ranged k
loop_words {k} {l} h e =
    let i : k ≡ l = e ∙ same_loop (at tt h.left).eq (at tt h.right).eq (at tt (direction_small h.direction)).eq in
    (i, subst Ranged (sym i) h)

-- the test that two words are in order is that of the numbers
pub less_words : {a b : ℤ} {t : Bool} → SFits w32 a → SFits w32 b → lt_z (to_z w32 (of_z w32 a)) (to_z w32 (of_z w32 b)) ≡ t → t ≡ lt_z a b
less_words {a} {b} h k e = sym e ∙ ap₂ lt_z (to_z-of_z h) (to_z-of_z k)

-- b is not below a, and both are small
pub record Apart (a b : ℤ) : Type 0 where
  pub low : Abs a 768
  pub high : Abs b 768
  pub ordered : a ≤ℤ b

-- the same of the words that hold them, and their difference
pub apart_words : {a b : ℤ} → Apart a b → Apart (to_z w32 (of_z w32 a)) (to_z w32 (of_z w32 b))
apart_words h =
    let a = at tt h.low in
    let b = at tt h.high in
    record { low = bounded a; high = bounded b; ordered = subst₂ ◌≤ℤ◌ (sym a.eq) (sym b.eq) h.ordered }

pub words_up : {a b : ℤ} {r : ℕ} → Apart a b → r ≡ up (to_z w32 (of_z w32 b) -ℤ to_z w32 (of_z w32 a)) → r ≡ up (b -ℤ a)
words_up h e = e ∙ ap₂ (λ (b a : ℤ). up (b -ℤ a)) (at tt h.high).eq (at tt h.low).eq

-- a difference that is not negative
pub not_below : (a b : ℤ) → a ≤ℤ b → pos 0 ≤ℤ (b -ℤ a)
not_below = linear 0 2 _ λ p m. simp gaps (omega arith)

-- how many numbers there are from a to b
pub size_words : {a b : ℤ} {r : ℕ} → Apart a b → r ≡ up (to_z w32 (of_z w32 b) -ℤ to_z w32 (of_z w32 a)) → r + 1 ≡ size a b
size_words {a} {b} h e = ap (λ (r : ℕ). r + 1) (words_up h e) ∙ go a b h.ordered
  where
    go : (a b : ℤ) → a ≤ℤ b → up (b -ℤ a) + 1 ≡ size a b
    go = linear 0 2 _ λ p m. simp (gaps, parts) (omega arith)

pub size_some : (a b : ℤ) → a ≤ℤ b → 0 < size a b
size_some = linear 0 2 _ λ p m. simp (gaps, parts) (omega arith)

pub size_most : (a b : ℤ) → Abs a 64 → Abs b 64 → size a b ≤ 129
size_most = linear 0 2 _ λ p m. simp (gaps, parts) (omega arith)

-- a number between small ones
between_abs : (n : ℕ) {l r x : ℤ} → Abs l n → Abs r n → Between l r x → Abs x n
between_abs n {l} {r} {x} h k b = go n l r x h k b.lo b.hi
  where
    go : (n : ℕ) (l r x : ℤ) → Abs l n → Abs r n → l ≤ℤ x → x ≤ℤ r → Abs x n
    go n = linear 0 3 _ λ p m. simp (gaps, parts) (omega arith)

pub between_apart : {l r x : ℤ} → Apart l r → Between l r x → Apart l x
between_apart h b = record { low = h.low; high = between_abs 768 h.low h.high b; ordered = b.lo }

pub ranged_apart : {l : Loop} → Ranged l → Apart l.left l.right
ranged_apart h = record { low = Abs-wider tt h.left; high = Abs-wider tt h.right; ordered = h.ordered }

-- ---- the instances of a nest in range are small

pub point_small : {n : Nest} {x : V3} → Bounded n → InBounds n x → Within 64 x
point_small h w =
    record {
      xs = between_abs 64 h.left.xs h.right.xs w.inx;
      ys = between_abs 64 h.left.ys h.right.ys w.iny;
      zs = between_abs 64 h.left.zs h.right.zs w.inz;
    }

pub instance_small : {n : Nest} (k : ℕ) → Bounded n → k < length (instances n) → Within 64 (get_or (instances n) k zero3)
instance_small {n} k h l = point_small h (in_within h.directed (get_d_in (instances n) k zero3 l))
