-- The table of the row numbers of the instances' images. Assumes nothing.
use Rattle.std.specs.Prelude.{◌≡◌, List, map, ℕ, ◌≤◌, length}
use Rattle.integers.specs.Vectors.{image}
use Rattle.integers.specs.declared.Matrix.{Matrix}
use Rattle.meaning.specs.declared.Nest.{Nest}
use Rattle.meaning.specs.Loops.{instances}
use Rattle.meaning.specs.Space.{row_index, box_of}
use Rattle.vectors.specs.Within.{Rows}
use Rattle.numbering.specs.declared.Extent.{Extent}
use Rattle.numbering.specs.Ranges.{Bounded}
use Rattle.numbering.specs.Extents.{boxed}

-- for each instance in the written order, the number of its image in the box around all images
abbrev pub numbers_of : Nest → Matrix → List ℕ
numbers_of n m = map (λ x. row_index (box_of n m) (image m x)) (instances n)

-- what the table's filling is lent: the box around the images, and a place for each instance
pub record Fillable (n : Nest) (m : Matrix) (e : Extent) (out : List ℕ) : Type 0 where
  pub bounded : Bounded n
  pub rows : Rows 4 m
  pub box : boxed e ≡ box_of n m
  pub room : length (instances n) ≤ length out
