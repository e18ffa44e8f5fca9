-- The row number of an instance's image as a form of the instance: rows times columns and the rest, in one sum. Assumes nothing.
use Rattle.std.specs.Prelude.{◌≡◌, ℕ, ◌+◌, ◌*◌, get_or, ℤ, pos, negsuc, ◌+ℤ◌, ◌-ℤ◌, ◌*ℤ◌, ◌≤ℤ◌}
use Rattle.std.proofs.Common.{sym, ◌∙◌, ap, subst, arith, to_z, of_z}
use Rattle.std.specs.Int.{w32}
use Rattle.integers.specs.Differences.{Abs, gaps, parts, zrules, up}
use Rattle.integers.specs.Variables.{linear}
use Rattle.integers.specs.Ring.{ring, quotes}
use Rattle.integers.proofs.Ring.{solve}
use Rattle.integers.specs.Bounds.{Abs-add, Abs-mul, Abs-wider}
use Rattle.integers.specs.Words.{bits}
use Rattle.integers.specs.Vectors.{zero3, dot, image}
use Rattle.integers.specs.declared.V3.{V3}
use Rattle.integers.specs.declared.V2.{V2}
use Rattle.integers.specs.declared.Matrix.{Matrix}
use Rattle.meaning.specs.declared.Nest.{Nest}
use Rattle.meaning.specs.Loops.{size, instances}
use Rattle.meaning.specs.Space.{Box, row_index, box_of}
use Rattle.meaning.specs.Points.{Inside}
use Rattle.vectors.specs.Within.{Within, Within2, Rows}
use Rattle.numbering.specs.declared.Extent.{Extent}
use Rattle.counting.specs.declared.Form.{Form}
use Rattle.numbering.specs.Ranges.{Apart, not_below, size_words, instance_small}
use Rattle.numbering.specs.Extents.{Spanning, Numbered, boxed, box_spanning, image_inside}

-- columns times the one and the other
abbrev pub weigh : Box → ℤ → ℤ → ℤ
weigh k u v = pos (size k.lo.b k.hi.b) *ℤ u +ℤ v

abbrev pub form_of : Matrix → Box → Form
form_of m k =
    record {
      weight =
          record {
            x = weigh k m.top.x m.low.x;
            y = weigh k m.top.y m.low.y;
            z = weigh k m.top.z m.low.z;
          };
      base = weigh k k.lo.a k.lo.b;
    }

-- the number that a form gives a point
abbrev pub form_at : Form → V3 → ℤ
form_at f x = dot f.weight x -ℤ f.base

-- a form of small words
pub record Light (f : Form) : Type 0 where
  pub weight : Within 6916 f.weight
  pub base : Abs f.base 1181184

-- and a point to which it gives a number
pub record Numbers (f : Form) (x : V3) : Type 0 where
  pub weight : Within 6916 f.weight
  pub base : Abs f.base 1181184
  pub point : Within 64 x
  pub some : pos 0 ≤ℤ form_at f x

-- ---- it is the row number

form_splits : (p q x : V3) (c a b : ℤ)
    → dot (record { x = c *ℤ p.x +ℤ q.x; y = c *ℤ p.y +ℤ q.y; z = c *ℤ p.z +ℤ q.z }) x -ℤ (c *ℤ a +ℤ b)
    ≡ c *ℤ (dot p x -ℤ a) +ℤ (dot q x -ℤ b)
form_splits = ring 3 3 _ λ ρ. simp quotes (solve ρ _ _ tt)

number_of : (c : ℕ) (u v : ℤ) → pos 0 ≤ℤ u → pos 0 ≤ℤ v → (up u * c + up v ≡ up (pos c *ℤ u +ℤ v)) × (pos 0 ≤ℤ (pos c *ℤ u +ℤ v))
number_of c (pos i) (pos j) h k = (omega arith, omega (arith, zrules))
number_of c (negsuc i) v h k = absurd h.le
number_of c (pos i) (negsuc j) h k = absurd k.le

module _ (m : Matrix) (k : Box) (x : V3) (i : Inside k (image m x)) where
  splits : form_at (form_of m k) x ≡ pos (size k.lo.b k.hi.b) *ℤ ((image m x).a -ℤ k.lo.a) +ℤ ((image m x).b -ℤ k.lo.b)
  splits = form_splits m.top m.low x (pos (size k.lo.b k.hi.b)) k.lo.a k.lo.b

  pub form_number : row_index k (image m x) ≡ up (form_at (form_of m k) x)
  form_number =
      (number_of (size k.lo.b k.hi.b) ((image m x).a -ℤ k.lo.a) ((image m x).b -ℤ k.lo.b) (not_below _ _ i.ina.lo)
      (not_below _ _ i.inb.lo)).0
      ∙ ap up (sym splits)

  form_some : pos 0 ≤ℤ form_at (form_of m k) x
  form_some =
      subst (λ (z : ℤ). pos 0 ≤ℤ z) (sym splits)
      (number_of (size k.lo.b k.hi.b) ((image m x).a -ℤ k.lo.a) ((image m x).b -ℤ k.lo.b) (not_below _ _ i.ina.lo)
      (not_below _ _ i.inb.lo)).1

-- ---- its words are small

columns_most : {a b : ℤ} → Apart a b → Abs (pos (size a b)) 1537
columns_most {a} {b} h = go a b h.low h.high h.ordered
  where
    go : (a b : ℤ) → Abs a 768 → Abs b 768 → a ≤ℤ b → Abs (pos (size a b)) 1537
    go = linear 0 2 _ λ p m. simp (gaps, parts) (omega arith)

-- columns as the code counts them
pub columns_are : {a b : ℤ} {r : ℕ} → Apart a b → r ≡ up (to_z w32 (of_z w32 b) -ℤ to_z w32 (of_z w32 a))
    → to_z w32 (r + 1) ≡ pos (size a b)
columns_are {a} {b} h e =
    ap (to_z w32) (size_words h e) ∙ (bits tt (columns_most h).abs).eq

pub columns_held : {a b : ℤ} {r : ℕ} → Apart a b → r ≡ up (to_z w32 (of_z w32 b) -ℤ to_z w32 (of_z w32 a)) → Abs (to_z w32 (r + 1)) 1537
columns_held h e = subst (λ (z : ℤ). Abs z 1537) (sym (columns_are h e)) (columns_most h)

-- a vector of small components changes row numbers by little
pub stride_small : {k : Box} {v : V2} → Spanning k → Within2 1 v → Abs (weigh k v.a v.b) 1538
stride_small s h = Abs-add (Abs-mul (columns_most s.second) h.first) h.second

pub same_form : {f g : Form} → f.weight ≡ g.weight → f.base ≡ g.base → f ≡ g
same_form e h = λ i. record { weight = e i; base = h i }

pub form_light : {m : Matrix} {k : Box} → Rows 4 m → Spanning k → Light (form_of m k)
form_light r s =
    let c = columns_most s.second in
    record {
      weight =
          record {
            xs = Abs-wider tt (Abs-add (Abs-mul c r.top.xs) r.low.xs);
            ys = Abs-wider tt (Abs-add (Abs-mul c r.top.ys) r.low.ys);
            zs = Abs-wider tt (Abs-add (Abs-mul c r.top.zs) r.low.zs);
          };
      base = Abs-wider tt (Abs-add (Abs-mul c s.first.low) s.second.low);
    }

pub form_small : {m : Matrix} {k : Box} {x : V3} → Rows 4 m → Spanning k → Within 64 x → Inside k (image m x) → Numbers (form_of m k) x
form_small {m} {k} {x} r s w i =
    let l = form_light r s in record { weight = l.weight; base = l.base; point = w; some = form_some m k x i }

-- of instance k, by the box around the images
module _ {n : Nest} {m : Matrix} {e : Extent} {k : ℕ} {f : Form} {x : V3} (h : Numbered n m k) (b : boxed e ≡ box_of n m) (g : f ≡ form_of m
    (boxed e))
    (p : x ≡ get_or (instances n) k zero3) where
  pub form_ready : Numbers f x
  form_ready =
      subst (λ f. Numbers f x) (sym (g ∙ ap (form_of m) b))
      (subst (Numbers (form_of m (box_of n m))) (sym p)
      (form_small h.rows (box_spanning h.bounded h.rows) (instance_small k h.bounded h.lt) (image_inside h)))

  pub form_is : {r : ℕ} → r ≡ up (form_at f x) → r ≡ row_index (box_of n m) (image m (get_or (instances n) k zero3))
  form_is q = q ∙ (λ i. up (form_at ((g ∙ ap (form_of m) b) i) (p i))) ∙ sym (form_number m (box_of n m) (get_or (instances n) k zero3)
      (image_inside h))
