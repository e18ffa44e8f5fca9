-- The instance of a number, by how often each loop has turned before it. Assumes nothing.
use Rattle.std.specs.Prelude.{◌≡◌, refl, List, map, ℕ, ◌+◌, ◌*◌, ◌/◌, ◌%◌, ◌≤◌, ◌<◌, get_or, ℤ, pos, negsuc, ◌+ℤ◌, ◌-ℤ◌, ◌*ℤ◌, ◌≤ℤ◌, ◌<ℤ◌}
use Rattle.std.proofs.Common.{sym, ◌∙◌, subst, div-add-mod', mod-lt, div-lt_iff_lt-mul, mul-le-mul, mul-le-mul_right, arith}
use Rattle.std.proofs.Math.Path.{ap}
use Rattle.std.proofs.Math.ListN.{length}
use Rattle.std.proofs.lemmas.List.{length-map}
use Rattle.integers.specs.Differences.{gaps}
use Rattle.integers.specs.Variables.{linear}
use Rattle.integers.specs.Vectors.{zero3}
use Rattle.integers.specs.declared.V3.{V3}
use Rattle.meaning.specs.declared.Nest.{Nest}
use Rattle.meaning.specs.Lists.{each}
use Rattle.meaning.specs.Loops.{size, loop, instances}
use Rattle.meaning.specs.Points.{Direction, Direction.onward, Direction.back}
use Rattle.lists.specs.Members.{map_at, each_length, each_at}
use Rattle.lists.specs.Sums.{total_same}
use Rattle.geometry.specs.Instances.{progression_length, progression_at}
use Rattle.numbering.specs.declared.Loop.{Loop}
use Rattle.numbering.specs.declared.Turns.{Turns}
use Rattle.numbering.specs.Ranges.{Bounded, turns, values, outer_of, middle_of, inner_of, size_some, size_most}

-- ---- one loop

values_length : (l : Loop) → length (values l) ≡ turns l
values_length l = progression_length _ _ (turns l)

in_values : (l : Loop) {i : ℕ} → i < turns l → i < length (values l)
in_values l h = omega (arith, values_length l)

-- its value after i turns, by its direction
pub value_back : {d : ℤ} → Direction d → d <ℤ pos 0 → (l r : ℤ) (i : ℕ) → i < size l r → r -ℤ pos i ≡ get_or (loop l r d) i (pos 0)
value_back onward t l r i h = absurd t.lt
value_back back t l r i h = sym (progression_at r (negsuc 0) (size l r) i (pos 0) h ∙ go r (pos i))
  where
    go : (r t : ℤ) → r +ℤ t *ℤ negsuc 0 ≡ r -ℤ t
    go = linear 0 2 _ λ p m. simp gaps (omega arith)

pub value_onward : {d : ℤ} → Direction d → pos 0 ≤ℤ d → (l r : ℤ) (i : ℕ) → i < size l r → l +ℤ pos i ≡ get_or (loop l r d) i (pos 0)
value_onward onward t l r i h = sym (progression_at l (pos 1) (size l r) i (pos 0) h ∙ go l (pos i))
  where
    go : (l t : ℤ) → l +ℤ t *ℤ pos 1 ≡ l +ℤ t
    go = linear 0 2 _ λ p m. simp gaps (omega arith)
value_onward back t l r i h = absurd t.le

-- ---- the nest

abbrev pub turns_of : Nest → Turns
turns_of n = record { outer = turns (outer_of n); middle = turns (middle_of n); inner = turns (inner_of n) }

pub same_turns : {t u : Turns} → t.outer ≡ u.outer → t.middle ≡ u.middle → t.inner ≡ u.inner → t ≡ u
same_turns e f g = λ i. record { outer = e i; middle = f i; inner = g i }

-- the point at which the loops have turned so often
abbrev pub point_after : Nest → Turns → V3
point_after n t =
    record {
      x = get_or (values (outer_of n)) t.outer (pos 0);
      y = get_or (values (middle_of n)) t.middle (pos 0);
      z = get_or (values (inner_of n)) t.inner (pos 0);
    }

module _ (n : Nest) where
  abbrev row : ℤ → ℤ → List V3
  row i j = map (λ k. record { x = i; y = j; z = k }) (values (inner_of n))

  abbrev plane : ℤ → List V3
  plane i = each (row i) (values (middle_of n))

  row_length : (i j : ℤ) → length (row i j) ≡ (turns_of n).inner
  row_length i j = length-map (values (inner_of n)) (λ k. record { x = i; y = j; z = k }) ∙ values_length (inner_of n)

  plane_length : (i : ℤ) → length (plane i) ≡ (turns_of n).middle * (turns_of n).inner
  plane_length i =
      each_length (row i) (values (middle_of n))
      ∙ total_same (λ j. length (row i j)) (turns_of n).inner (row_length i) (values (middle_of n))
      ∙ ap (λ (c : ℕ). c * (turns_of n).inner) (values_length (middle_of n))

  -- the number of instances
  pub instances_length : length (instances n) ≡ (turns_of n).outer * ((turns_of n).middle * (turns_of n).inner)
  unfolding instances
  instances_length =
      each_length plane (values (outer_of n))
      ∙ total_same (λ i. length (plane i)) ((turns_of n).middle * (turns_of n).inner) plane_length (values (outer_of n))
      ∙ ap (λ (c : ℕ). c * ((turns_of n).middle * (turns_of n).inner)) (values_length (outer_of n))

-- no loop is empty, and none turns more often than bounds of 64 allow
pub record Turning (t : Turns) : Type 0 where
  pub some_outer : 0 < t.outer
  pub some_middle : 0 < t.middle
  pub some_inner : 0 < t.inner
  pub most_outer : t.outer ≤ 129
  pub most_middle : t.middle ≤ 129
  pub most_inner : t.inner ≤ 129

pub turning : (n : Nest) {t : Turns} → t ≡ turns_of n → Bounded n → Turning t
turning n e h =
    subst Turning (sym e)
    (record {
      some_outer = size_some _ _ h.outer;
      some_middle = size_some _ _ h.middle;
      some_inner = size_some _ _ h.inner;
      most_outer = size_most _ _ h.left.xs h.right.xs;
      most_middle = size_most _ _ h.left.ys h.right.ys;
      most_inner = size_most _ _ h.left.zs h.right.zs;
    })

module _ {t : Turns} (h : Turning t) where
  pub plane_some : 0 < t.middle * t.inner
  plane_some = mul-le-mul {n₁ = 1} {m₁ = 1} h.some_middle h.some_inner

  pub plane_most : t.middle * t.inner ≤ 16641
  plane_most = mul-le-mul {n₂ = 129} {m₂ = 129} h.most_middle h.most_inner

  pub all_some : 0 < t.outer * (t.middle * t.inner)
  all_some = mul-le-mul {n₁ = 1} {m₁ = 1} h.some_outer plane_some

  pub all_most : t.outer * (t.middle * t.inner) ≤ 2146689
  all_most = mul-le-mul {n₂ = 129} {m₂ = 16641} h.most_outer plane_most

-- before instance k the loops have turned u times
pub record Turned (n : Nest) (k : ℕ) (u : Turns) : Type 0 where
  pub is : u.outer * ((turns_of n).middle * (turns_of n).inner) + (u.middle * (turns_of n).inner + u.inner) ≡ k
  pub outer : u.outer < (turns_of n).outer
  pub middle : u.middle < (turns_of n).middle
  pub inner : u.inner < (turns_of n).inner

-- as division finds them, of loops that turn t times
abbrev divided : Turns → ℕ → Turns
divided t k =
    record {
      outer = k / (t.middle * t.inner);
      middle = k % (t.middle * t.inner) / t.inner;
      inner = k % (t.middle * t.inner) % t.inner;
    }

pub turned : (n : Nest) (k : ℕ) {t : Turns} → t ≡ turns_of n → Bounded n → k < length (instances n) → Turned n k (divided t k)
turned n k e h l =
    let w = (turns_of n).middle * (turns_of n).inner in
    let z = (turns_of n).inner in
    let t = turning n refl h in
    let p : 0 < w = plane_some t in
    let i : 0 < z = t.some_inner in
    subst (λ (t : Turns). Turned n k (divided t k)) (sym e)
    (record {
      is = ap (λ (x : ℕ). k / w * w + x) (div-add-mod' (k % w) z) ∙ div-add-mod' k w;
      outer = (div-lt_iff_lt-mul p).1 (subst (λ (c : ℕ). k < c) (instances_length n) l);
      middle = (div-lt_iff_lt-mul i).1 (mod-lt k p);
      inner = mod-lt (k % w) i;
    })

-- that instance is the point there
pub instance_is : (n : Nest) (k : ℕ) (u : Turns) → Turned n k u → point_after n u ≡ get_or (instances n) k zero3
unfolding instances
instance_is n k u s =
    let t = turns_of n in
    let x = get_or (values (outer_of n)) u.outer (pos 0) in
    let y = get_or (values (middle_of n)) u.middle (pos 0) in
    sym (each_at (plane n) (t.middle * t.inner) (plane_length n) (values (outer_of n)) u.outer
    (u.middle * t.inner + u.inner) (pos 0) zero3
    (in_values (outer_of n) s.outer) (in_plane u.middle u.inner t.middle t.inner s.middle s.inner)
    ∙ each_at (row n x) t.inner (row_length n x) (values (middle_of n)) u.middle u.inner (pos 0) zero3
    (in_values (middle_of n) s.middle) s.inner
    ∙ map_at (λ z. record { x = x; y = y; z = z }) (values (inner_of n)) u.inner (pos 0) zero3 (in_values (inner_of n) s.inner))
    ∙ ap (λ (i : ℕ). get_or (instances n) i zero3) s.is
  where
    in_plane : (i j a b : ℕ) → i < a → j < b → i * b + j < a * b
    in_plane i j a b h k = omega (arith, mul-le-mul_right b h)
