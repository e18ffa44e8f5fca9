-- The bounds of the box around the images of all instances. Assumes nothing.
use Rattle.std.specs.Prelude.{◌≡◌, ℕ, ◌<◌, length, get_or, ℤ, pos, negsuc, ◌≤ℤ◌}
use Rattle.std.proofs.Common.{arith}
use Rattle.std.specs.Int.Signed.{≤ℤ_refl}
use Rattle.integers.specs.Differences.{Abs, gaps, parts}
use Rattle.integers.specs.Variables.{linear}
use Rattle.integers.specs.Bounds.{Abs-add, Abs-mul, Abs-range}
use Rattle.integers.specs.Vectors.{zero3, image}
use Rattle.integers.specs.declared.V3.{V3}
use Rattle.integers.specs.declared.Matrix.{Matrix}
use Rattle.meaning.specs.declared.Nest.{Nest}
use Rattle.meaning.specs.Loops.{instances}
use Rattle.meaning.specs.Space.{Box, box_of}
use Rattle.meaning.specs.Points.{Between, Within as InBounds, Inside}
use Rattle.geometry.specs.Places.{get_d_in}
use Rattle.geometry.specs.Instances.{in_within}
use Rattle.geometry.specs.Boxes.{box_has, box_least, le_trans}
use Rattle.vectors.specs.Within.{Within, Within2, Rows}
use Rattle.numbering.specs.declared.Extent.{Extent}
use Rattle.numbering.specs.Ranges.{Bounded, Apart, point_small}

-- the box of an extent
abbrev pub boxed : Extent → Box
boxed e = record { lo = e.lo; hi = e.hi }

pub same_box : {k j : Box} → k.lo.a ≡ j.lo.a → k.lo.b ≡ j.lo.b → k.hi.a ≡ j.hi.a → k.hi.b ≡ j.hi.b → k ≡ j
same_box e f g h = λ i. record { lo = record { a = e i; b = f i }; hi = record { a = g i; b = h i } }

-- a nest and a matrix in range, and the number of an instance
pub record Numbered (n : Nest) (m : Matrix) (k : ℕ) : Type 0 where
  pub bounded : Bounded n
  pub rows : Rows 4 m
  pub lt : k < length (instances n)

-- ---- its bounds

-- corners of small words, in both coordinates the greatest not below the least
pub record Spanning (k : Box) : Type 0 where
  pub first : Apart k.lo.a k.hi.a
  pub second : Apart k.lo.b k.hi.b

-- images of small points are small
image_small : {m : Matrix} {x : V3} → Rows 4 m → Within 64 x → Within2 768 (image m x)
image_small h w =
    record {
      first = Abs-add (Abs-add (Abs-mul h.top.xs w.xs) (Abs-mul h.top.ys w.ys)) (Abs-mul h.top.zs w.zs);
      second = Abs-add (Abs-add (Abs-mul h.low.xs w.xs) (Abs-mul h.low.ys w.ys)) (Abs-mul h.low.zs w.zs);
    }

abs_between : (z : ℤ) → Abs z 768 → Between (negsuc 767) (pos 768) z
abs_between z h = let b = go z h in record { lo = b.0; hi = b.1 }
  where
    go : (z : ℤ) → Abs z 768 → (negsuc 767 ≤ℤ z) × (z ≤ℤ pos 768)
    go = linear 0 1 _ λ p m. simp (gaps, parts) (λ h. (omega arith, omega arith))

pub box_spanning : {n : Nest} {m : Matrix} → Bounded n → Rows 4 m → Spanning (box_of n m)
box_spanning {n} {m} h r =
    record {
      first = record { low = at c.0.ina; high = at c.1.ina; ordered = le_trans i.ina.lo i.ina.hi };
      second = record { low = at c.0.inb; high = at c.1.inb; ordered = le_trans i.inb.lo i.inb.hi };
    }
  where
    corner : InBounds n n.left
    corner =
        record {
          inx = record { lo = ≤ℤ_refl n.left.x; hi = h.outer };
          iny = record { lo = ≤ℤ_refl n.left.y; hi = h.middle };
          inz = record { lo = ≤ℤ_refl n.left.z; hi = h.inner };
        }

    wide : Box
    wide = record { lo = record { a = negsuc 767; b = negsuc 767 }; hi = record { a = pos 768; b = pos 768 } }

    i : Inside (box_of n m) (image m n.left)
    i = box_has h.directed m corner

    c : Inside wide (box_of n m).lo × Inside wide (box_of n m).hi
    c =
        box_least h.directed m wide corner λ x w.
        let s = image_small r (point_small h w) in
        record { ina = abs_between (image m x).a s.first; inb = abs_between (image m x).b s.second }

    at : {z : ℤ} → Between (negsuc 767) (pos 768) z → Abs z 768
    at {z} b = Abs-range z 768 b.lo b.hi

-- the image of an instance is in it
pub image_inside : {n : Nest} {m : Matrix} {k : ℕ} → Numbered n m k → Inside (box_of n m) (image m (get_or (instances n) k zero3))
image_inside {n} {m} {k} h = box_has h.bounded.directed m (in_within h.bounded.directed (get_d_in (instances n) k zero3 h.lt))
