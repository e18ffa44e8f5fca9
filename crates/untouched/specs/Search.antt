-- Refusal 17 by the search along the walk. Assumes nothing.
use Rattle.std.specs.Prelude.{◌≡◌, refl, Bool, true, false, not, List, ℕ, ◌+◌, ◌*◌, ◌≤◌, ◌<◌, T, length, get_or, ℤ}
use Rattle.std.proofs.Common.{sym, ◌∙◌, ap, subst, subst₂, arith, T_not}
use Rattle.std.proofs.Math.Dec.{not_T}
use Rattle.integers.specs.Differences.{up}
use Rattle.integers.specs.Vectors.{zero2, zero3, image}
use Rattle.integers.specs.declared.V3.{V3}
use Rattle.integers.specs.declared.V2.{V2}
use Rattle.meaning.specs.declared.Nest.{Nest}
use Rattle.meaning.specs.declared.Stream.{Stream}
use Rattle.meaning.specs.Loops.{instances}
use Rattle.meaning.specs.Space.{Box, points, row_index, box_of}
use Rattle.meaning.specs.Points.{Directed, Inside}
use Rattle.meaning.specs.Streams.{elements, touches, touched}
use Rattle.meaning.specs.Accept.{refused17}
use Rattle.meaning.specs.Walk.{walk}
use Rattle.lists.specs.Members.{any_yes, yes_any}
use Rattle.geometry.specs.Numbers.{eq2_eq, eq_eq2}
use Rattle.geometry.specs.Places.{get_d_in, found}
use Rattle.geometry.specs.Instances.{within_in}
use Rattle.geometry.specs.Boxes.{box_has, points_inside}
use Rattle.geometry.specs.RowOrder.{row_at_lem, row_lt, row_number}
use Rattle.geometry.specs.Processes.{Layout}
use Rattle.geometry.specs.Accept.{touch, touched_few}
use Rattle.geometry.proofs.Walk.{walk_length, any_on_walk}
use Rattle.vectors.specs.Within.{Rows}
use Rattle.numbering.specs.Ranges.{Bounded, point_small}
use Rattle.counting.specs.declared.Form.{Form}
use Rattle.numbering.specs.Extents.{box_spanning}
use Rattle.counting.specs.Forms.{Numbers, form_of, form_at, form_number, form_small}
use Rattle.walk.specs.Words.{vector_at}
use Rattle.walk.specs.Walked.{Walked, Along, is_instance}
use Rattle.untouched.specs.Touched.{Touch, Misses, Misses.untouched, Misses.all_touched}

-- the number that a form gives instance i of the words
abbrev pub number_on : Form → List ℤ → ℕ → ℕ
number_on f w i = up (form_at f (vector_at w i))

-- what that number is found by
pub record Numberable (f : Form) (w : List ℤ) (i : ℕ) : Type 0 where
  pub words : 3 * i + 2 < length w
  pub numbers : Numbers f (vector_at w i)

-- what the search is lent: the words of a walk, and a mark, not set yet, for each point of the box
pub record Searching (f : Form) (w : List ℤ) (many points : ℕ) (marks : List Bool) : Type 0 where
  pub each : (i : ℕ) → i < many → Numberable f w i
  pub below : (i : ℕ) → i < many → number_on f w i < points
  pub few : points ≤ length marks
  pub clear : (e : ℕ) → e < points → get_or marks e false ≡ false

module _ {n : Nest} (bounded : Bounded n) (layout : Layout n) (s : Stream) {w : List ℤ} (walked : Walked n w) where
  abbrev box : Box
  box = box_of n s.map

  abbrev number : ℕ → ℕ
  number = number_on (form_of s.map box) w

  inside : (i : ℕ) → i < length (instances n) → Inside box (image s.map (vector_at w i))
  inside i h = box_has layout.dirs s.map (is_instance layout walked i h)

  number_is : (i : ℕ) → i < length (instances n) → number i ≡ row_index box (image s.map (vector_at w i))
  number_is i h = sym (form_number s.map box (vector_at w i) (inside i h))

  pub searching : {marks : List Bool} → Rows 4 s.map → 3 * length (instances n) ≤ length w → length (elements n s) ≤ length marks
      → ((e : ℕ) → e < length (elements n s) → get_or marks e false ≡ false)
      → Searching (form_of s.map box) w (length (instances n)) (length (elements n s)) marks
  searching rows words few clear =
      record {
        each = λ i h.
            record {
              words = omega (arith, words);
              numbers =
                  form_small rows (box_spanning bounded rows) (point_small bounded (is_instance layout walked i h)) (inside i h);
            };
        below = λ i h.
            subst (λ (r : ℕ). r < length (elements n s)) (sym (number_is i h)) (row_lt box (image s.map (vector_at w i)) (inside i h));
        few = few;
        clear = clear;
      }

  -- the element of a number
  abbrev element : ℕ → V2
  element e = get_or (elements n s) e zero2

  -- an element that an instance touches is one that the walk comes to
  comes_to : (e : ℕ) → e < length (elements n s) → T (touched n s (element e)) → Touch number (length (instances n)) e
  comes_to e h t =
      let x = any_yes (λ v. touches s v (element e)) (walk n) (subst T (sym (any_on_walk layout (λ v. touches s v (element e)))) t) in
      let p = found zero3 x.mem in
      let l : p.at < length (instances n) = omega (arith, p.lt, walk_length layout) in
      record {
        by = p.at;
        lt = l;
        is =
            number_is p.at l
            ∙ ap (λ (v : V3). row_index box (image s.map v)) (walked.at p.at p.lt ∙ p.is)
            ∙ ap (row_index box) (eq2_eq (image s.map x.it) (element e) x.ok) ∙ row_number box e zero2 h;
      }

  -- and what the walk comes to is touched
  touched_by_lem : (p : V2) → Inside box p → Touch number (length (instances n)) (row_index box p) → T (touched n s p)
  touched_by_lem p h t =
      let x = vector_at w t.by in
      let q : image s.map x ≡ p =
      sym (row_at_lem box (image s.map x) zero2 (inside t.by t.lt))
      ∙ ap (λ (i : ℕ). get_or (points box) i zero2) (sym (number_is t.by t.lt) ∙ t.is)
      ∙ row_at_lem box p zero2 h in
      yes_any (λ v. touches s v p) (within_in layout.dirs (is_instance layout walked t.by t.lt)) (eq_eq2 (image s.map x) p q)

  pub refusal_is : {r : Bool} → Misses number (length (instances n)) (length (elements n s)) r → r ≡ refused17 n s
  refusal_is (untouched e h f) =
      true_is (yes_any (λ p. not (touched n s p)) (get_d_in (elements n s) e zero2 h)
      (not_T (touched n s (element e)) (λ t. let c = comes_to e h t in f c.by c.lt c.is)))
    where
      true_is : {b : Bool} → T b → true ≡ b
      true_is {b = true} t = refl
      true_is {b = false} t = absurd t
  refusal_is (all_touched f) =
      false_is (λ t.
      let p = any_yes (λ p. not (touched n s p)) (elements n s) t in
      let i = points_inside box p.it p.mem in
      T_not (touched n s p.it) p.ok (touched_by_lem p.it i (f (row_index box p.it) (row_lt box p.it i))))
    where
      false_is : {b : Bool} → (T b → ⊥) → false ≡ b
      false_is {b = true} g = absurd (g tt)
      false_is {b = false} g = refl

-- the same by the box and the numbers that code has found
pub record BoxSized (n : Nest) (s : Stream) (k : Box) (many size : ℕ) : Type 0 where
  pub box : k ≡ box_of n s.map
  pub counted : many ≡ length (instances n)
  pub sized : size ≡ length (points k)

pub box_sized : {n : Nest} (s : Stream) {k : Box} {many size : ℕ} → k ≡ box_of n s.map → many ≡ length (instances n)
    → size ≡ length (points k) → BoxSized n s k many size
box_sized s b c z = record { box = b; counted = c; sized = z }

module _ {n : Nest} {s : Stream} {k : Box} {many size : ℕ} (z : BoxSized n s k many size) where
  pub size_is : size ≡ length (elements n s)
  size_is = z.sized ∙ ap (λ (b : Box). length (points b)) z.box

  module _ {f : Form} (form : f ≡ form_of s.map k) (bounded : Bounded n) {w : List ℤ} (along : Along n w) where
    form_is : f ≡ form_of s.map (box_of n s.map)
    form_is = form ∙ ap (form_of s.map) z.box

    pub searching_by : {marks : List Bool} → Rows 4 s.map → size ≤ length marks → ((e : ℕ) → e < size → get_or marks e false ≡ false)
        → Searching f w many size marks
    searching_by {marks} rows few clear =
        subst (λ (f : Form). Searching f w many size marks) (sym form_is)
        (subst₂ (λ (c e : ℕ). Searching (form_of s.map (box_of n s.map)) w c e marks) (sym z.counted) (sym size_is)
        (searching bounded along.layout s along.walked rows (omega (arith, along.few, along.room)) (omega (arith, size_is))
        (λ e h. clear e (omega (arith, size_is)))))

    pub refusal_by : {r : Bool} → Misses (number_on f w) many size r → r ≡ refused17 n s
    refusal_by {r} m =
        refusal_is bounded along.layout s along.walked
        (subst₂ (λ (c e : ℕ). Misses (number_on (form_of s.map (box_of n s.map)) w) c e r) z.counted size_is
        (subst (λ (f : Form). Misses (number_on f w) many size r) form_is m))

-- with more elements than instances some are untouched
pub too_many : {n : Nest} (s : Stream) → Directed n → length (instances n) < length (elements n s) → true ≡ refused17 n s
too_many {n} s dirs h = go (refused17 n s) (λ t. t)
  where
    go : (b : Bool) → (T (not b) → T (not (refused17 n s))) → true ≡ b
    go true f = refl
    go false f = absurd (omega (arith, touched_few s dirs (touch s dirs (f tt))))
