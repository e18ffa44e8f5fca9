-- Document 01's words for points as propositions, as the demands speak of them: points in the bounds, the written order, points of a box,
-- instances at a place, the line of a matrix. What the calls compute stands in Loops and Space; that both say the same is proved in
-- geometry.
use Rattle.std.specs.Prelude.{◌≡◌, ℤ, pos, negsuc, ◌*ℤ◌, ◌≤ℤ◌, ◌<ℤ◌}
use Rattle.integers.specs.Vectors.{image}
use Rattle.integers.specs.declared.V3.{V3}
use Rattle.integers.specs.declared.V2.{V2}
use Rattle.integers.specs.declared.Matrix.{Matrix}
use Rattle.lattice.specs.Lattice.{Shortest}
use Rattle.meaning.specs.declared.Nest.{Nest}
use Rattle.meaning.specs.Loops.{step_of}
use Rattle.meaning.specs.Space.{Box}

-- ---- loops

-- a loop runs from left to right or from right to left
pub data Direction : ℤ → Type 0 where
  onward : Direction (pos 1)
  back : Direction (negsuc 0)

-- x is in the bounds
pub record Between (l r x : ℤ) : Type 0 where
  pub lo : l ≤ℤ x
  pub hi : x ≤ℤ r

-- u comes before w in a loop of direction d
abbrev pub Precedes : ℤ → ℤ → ℤ → Type 0
Precedes d u w = (d *ℤ u) <ℤ (d *ℤ w)

-- ---- the nest

-- all loops run one way or the other
pub record Directed (n : Nest) : Type 0 where
  pub outer : Direction n.direction.x
  pub middle : Direction n.direction.y
  pub inner : Direction n.direction.z

-- an instance: "a whole point in the bounds"
pub record Within (n : Nest) (p : V3) : Type 0 where
  pub inx : Between n.left.x n.right.x p.x
  pub iny : Between n.left.y n.right.y p.y
  pub inz : Between n.left.z n.right.z p.z

-- p is earlier than q in the written order, "loop 0 outermost"
pub data Earlier (d p q : V3) : Type 0 where
  by_outer : Precedes d.x p.x q.x → Earlier d p q
  by_middle : p.x ≡ q.x → Precedes d.y p.y q.y → Earlier d p q
  by_inner : p.x ≡ q.x → p.y ≡ q.y → Precedes d.z p.z q.z → Earlier d p q

-- x is an instance that m sends to y: with place, an instance of process y; with an index map, one that touches element y
pub record At (n : Nest) (m : Matrix) (y : V2) (x : V3) : Type 0 where
  pub within : Within n x
  pub to : image m x ≡ y

-- u is the line of m: "the shortest non-zero whole vector that" m "sends to zero, turned so that its step is positive"
pub record IsLine (n : Nest) (m : Matrix) (u : V3) : Type 0 where
  pub short : Shortest m.top m.low u
  pub ahead : pos 0 <ℤ step_of n u

-- ---- boxes

-- p is before q in row order, "last coordinate fastest"
pub data RowOrder (p q : V2) : Type 0 where
  by_a : p.a <ℤ q.a → RowOrder p q
  by_b : p.a ≡ q.a → p.b <ℤ q.b → RowOrder p q

-- p is in the box
pub record Inside (k : Box) (p : V2) : Type 0 where
  pub ina : Between k.lo.a k.hi.a p.a
  pub inb : Between k.lo.b k.hi.b p.b
