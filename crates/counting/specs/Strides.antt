-- Row numbers counted on: a turn of a loop adds the stride of that loop. Assumes nothing.
use Rattle.std.specs.Prelude.{◌≡◌, refl, ℕ, ◌+◌, ◌*◌, ◌≤◌, ◌<◌, length, get_or, ℤ, pos, ◌+ℤ◌, ◌-ℤ◌, ◌*ℤ◌, ◌≤ℤ◌}
use Rattle.std.proofs.Common.{sym, ◌∙◌, ap, subst, subst₂, mul-le-mul_right, arith, to_z}
use Rattle.std.specs.Int.{w32}
use Rattle.integers.specs.Differences.{Abs, gaps, parts, up}
use Rattle.integers.specs.Variables.{linear}
use Rattle.integers.specs.Ring.{ring, quotes}
use Rattle.integers.proofs.Ring.{solve}
use Rattle.integers.specs.Bounds.{Abs-add, Abs-sub, Abs-mul, Abs-wider}
use Rattle.integers.specs.Words.{bits}
use Rattle.integers.specs.Vectors.{zero3, dot, same3, image}
use Rattle.integers.specs.declared.V3.{V3}
use Rattle.integers.specs.declared.Matrix.{Matrix}
use Rattle.meaning.specs.declared.Nest.{Nest}
use Rattle.meaning.specs.Loops.{instances}
use Rattle.meaning.specs.Space.{row_index, box_of}
use Rattle.vectors.specs.Within.{Within, Rows}
use Rattle.numbering.specs.declared.Extent.{Extent}
use Rattle.counting.specs.declared.Form.{Form}
use Rattle.numbering.specs.declared.Turns.{Turns}
use Rattle.numbering.specs.Ranges.{Bounded, outer_of, middle_of, inner_of}
use Rattle.numbering.specs.Turns.{Turned, Turning, turns_of, turning, point_after, instance_is, instances_length}
use Rattle.counting.specs.Course.{first_point, value_at, course_first}
use Rattle.numbering.specs.Extents.{Spanning, Numbered, boxed, box_spanning}
use Rattle.counting.specs.Forms.{Light, Numbers, form_of, form_at, form_light, form_ready, form_is}

-- a number so many strides on
abbrev pub along : ℤ → ℤ → ℕ → ℤ
along a d k = a +ℤ pos k *ℤ d

pub along_zero : (a d : ℤ) → a ≡ along a d 0
along_zero = linear 0 2 _ λ p m. simp gaps (omega arith)

pub along_next : (k : ℕ) (a d : ℤ) → along a d k +ℤ d ≡ along a d (k + 1)
along_next k = linear 0 2 _ λ p m. simp gaps (omega arith)

-- what a form gains by a turn of each loop
abbrev pub strides : Form → V3 → V3
strides f d = record { x = f.weight.x *ℤ d.x; y = f.weight.y *ℤ d.y; z = f.weight.z *ℤ d.z }

-- ---- rows and planes of numbers

pub record RowFits (count : ℕ) (first stride : ℤ) : Type 0 where
  pub few : count ≤ 129
  pub begins : Abs first 4500000
  pub small : Abs stride 6916
  pub some : (k : ℕ) → k < count → pos 0 ≤ℤ along first stride k

abbrev pub Agrees : (ℕ → ℕ) → ℕ → ℕ → ℤ → ℤ → Type 0
Agrees f from count first stride = (k : ℕ) → k < count → f (from + k) ≡ up (along first stride k)

pub record PlaneFits (rows count : ℕ) (first : ℤ) (s : V3) : Type 0 where
  pub few_rows : rows ≤ 129
  pub few : count ≤ 129
  pub begins : Abs first 3500000
  pub strides : Within 6916 s
  pub some : (j k : ℕ) → j < rows → k < count → pos 0 ≤ℤ along (along first s.y j) s.z k

abbrev pub AgreesAll : (ℕ → ℕ) → ℕ → ℕ → ℕ → ℤ → V3 → Type 0
AgreesAll f from rows count first s =
    (j k : ℕ) → j < rows → k < count → f (from + j * count + k) ≡ up (along (along first s.y j) s.z k)

-- strides are few, so that numbers stay small
along_small : {a d : ℤ} {k m : ℕ} → Abs a m → Abs d 6916 → k ≤ 129 → Abs (along a d k) (m + 129 * 6916)
along_small {k} h l b = Abs-add h (Abs-mul {y = pos k} (record { abs = b }) l)

pub row_small : {count k : ℕ} {first stride : ℤ} → RowFits count first stride → k ≤ count → Abs (along first stride k) 5400000
row_small h l = Abs-wider tt (along_small h.begins h.small (omega (arith, h.few)))

module _ {rows count : ℕ} {first : ℤ} {s : V3} (h : PlaneFits rows count first s) where
  pub plane_small : {j : ℕ} → j ≤ rows → Abs (along first s.y j) 4500000
  plane_small l = Abs-wider tt (along_small h.begins h.strides.ys (omega (arith, h.few_rows)))

  pub plane_row : (j : ℕ) → j < rows → RowFits count (along first s.y j) s.z
  plane_row j l =
      record { few = h.few; begins = plane_small (omega arith); small = h.strides.zs; some = λ k m. h.some j k l m }

-- ---- the numbers of a nest's instances

-- the row number of the image of instance k
abbrev pub number_at : Nest → Matrix → ℕ → ℕ
number_at n m k = row_index (box_of n m) (image m (get_or (instances n) k zero3))

-- what is known of turns, strides and a first number by which the row numbers of all instances are counted on
pub record Counted (n : Nest) (m : Matrix) (T : Turns) (S : V3) (N : ℤ) : Type 0 where
  pub whole : length (instances n) ≡ T.outer * (T.middle * T.inner)
  pub small : (i : ℕ) → i ≤ T.outer → Abs (along N S.x i) 3500000
  pub fits : (i : ℕ) → i < T.outer → PlaneFits T.middle T.inner (along N S.x i) S
  pub agrees : (i : ℕ) → i < T.outer
      → AgreesAll (number_at n m) (i * (T.middle * T.inner)) T.middle T.inner (along N S.x i) S

strides_on : (w a d : V3) (i j k b : ℤ)
    → dot w (record { x = a.x +ℤ i *ℤ d.x; y = a.y +ℤ j *ℤ d.y; z = a.z +ℤ k *ℤ d.z }) -ℤ b
    ≡ ((dot w a -ℤ b) +ℤ i *ℤ (w.x *ℤ d.x) +ℤ j *ℤ (w.y *ℤ d.y)) +ℤ k *ℤ (w.z *ℤ d.z)
strides_on = ring 3 4 _ λ ρ. simp quotes (solve ρ _ _ tt)

module _ {n : Nest} {m : Matrix} {e : Extent} {f : Form} (bounded : Bounded n) (rows : Rows 4 m) (b : boxed e ≡ box_of n m)
    (g : f ≡ form_of m (boxed e)) where
  abbrev t : Turns
  t = turns_of n

  abbrev s : V3
  s = strides f n.direction

  abbrev start : ℤ
  start = form_at f (first_point n)

  module _ (i j k : ℕ) (hi : i < t.outer) (hj : j < t.middle) (hk : k < t.inner) where
    abbrev at : ℕ
    at = i * (t.middle * t.inner) + j * t.inner + k

    abbrev u : Turns
    u = record { outer = i; middle = j; inner = k }

    turned : Turned n at u
    turned = record { is = omega arith; outer = hi; middle = hj; inner = hk }

    below : at < length (instances n)
    below =
        omega (arith, instances_length n, mul-le-mul_right (t.middle * t.inner) hi, mul-le-mul_right t.inner hj)

    numbered : Numbered n m at
    numbered = record { bounded = bounded; rows = rows; lt = below }

    counted : form_at f (point_after n u) ≡ along (along (along start s.x i) s.y j) s.z k
    counted =
        ap (form_at f)
        (same3 (value_at (outer_of n) i hi) (value_at (middle_of n) j hj) (value_at (inner_of n) k hk))
        ∙ strides_on f.weight (first_point n) n.direction (pos i) (pos j) (pos k) f.base

    number_counts : number_at n m at ≡ up (along (along (along start s.x i) s.y j) s.z k)
    number_counts = sym (form_is numbered b g (instance_is n at u turned) refl) ∙ ap up counted

    number_some : pos 0 ≤ℤ along (along (along start s.x i) s.y j) s.z k
    number_some = subst (λ (z : ℤ). pos 0 ≤ℤ z) counted (form_ready numbered b g (instance_is n at u turned)).some

  -- ---- plane by plane

  turns_few : Turning t
  turns_few = turning n refl bounded

  pub form_words : Light f
  form_words =
      subst Light (sym g)
      (form_light rows (subst Spanning (sym b) (box_spanning bounded rows)))

  pub start_ready : Numbers f (first_point n)
  start_ready =
      form_ready (numbered 0 0 0 turns_few.some_outer turns_few.some_middle turns_few.some_inner) b g
      (sym (at_zero ∙ course_first bounded))
    where
      at_zero : get_or (instances n) (0 * (t.middle * t.inner) + 0 * t.inner + 0) zero3 ≡ get_or (instances n) 0 zero3
      at_zero = ap (λ (k : ℕ). get_or (instances n) k zero3) (none (t.middle * t.inner) t.inner)
        where
          none : (a b : ℕ) → 0 * a + 0 * b + 0 ≡ 0
          none a b = omega arith

  start_small : Abs start 2509056
  start_small =
      let w = start_ready.weight in
      let x = start_ready.point in
      Abs-wider tt
      (Abs-sub (Abs-add (Abs-add (Abs-mul w.xs x.xs) (Abs-mul w.ys x.ys)) (Abs-mul w.zs x.zs)) start_ready.base)

  strides_small : Within 6916 s → (i : ℕ) → i ≤ t.outer → Abs (along start s.x i) 3500000
  strides_small w i l = Abs-wider tt (along_small start_small w.xs (omega (arith, turns_few.most_outer)))

  plane_fits : Within 6916 s → (i : ℕ) → i < t.outer → PlaneFits t.middle t.inner (along start s.x i) s
  plane_fits w i l =
      record {
        few_rows = turns_few.most_middle;
        few = turns_few.most_inner;
        begins = strides_small w i (omega arith);
        strides = w;
        some = λ j k m o. number_some i j k l m o;
      }

  plane_agrees : (i : ℕ) → i < t.outer
      → AgreesAll (number_at n m) (i * (t.middle * t.inner)) t.middle t.inner (along start s.x i) s
  plane_agrees i l j k m o = number_counts i j k l m o

  -- the word in which the first number is counted on
  pub start_word : {x : V3} {r : ℕ} → x ≡ first_point n → r ≡ up (form_at f x) → (r ≤ 2509056) × (to_z w32 r ≡ start)
  start_word {x} {r} ex er =
      let e : r ≡ up start = er ∙ ap (λ (x : V3). up (form_at f x)) ex in
      let l : r ≤ 2509056 = omega (arith, e, up_most start start_small) in
      (l, (bits tt l).eq ∙ ap pos e ∙ back start start_ready.some)
    where
      up_most : (z : ℤ) → Abs z 2509056 → up z ≤ 2509056
      up_most = linear 0 1 _ λ p m. simp (gaps, parts) (omega arith)

      back : (z : ℤ) → pos 0 ≤ℤ z → pos (up z) ≡ z
      back = linear 0 1 _ λ p m. simp (gaps, parts) (omega arith)

  -- the turns, strides and first number that code has found
  pub counted_by : {T : Turns} {S : V3} {N : ℤ} → T ≡ t → S ≡ s → N ≡ start → Within 6916 S → Counted n m T S N
  counted_by {T} {S} {N} eT eS eN w =
      subst (λ (T : Turns). Counted n m T S N) (sym eT)
      (subst₂ (λ (S : V3) (N : ℤ). Within 6916 S → Counted n m t S N) (sym eS) (sym eN)
      (λ w. record { whole = instances_length n; small = strides_small w; fits = plane_fits w; agrees = plane_agrees }) w)
