-- `layout::point_at` meets its contract: row and column are quotient and remainder by the width of the box, and both are at most 1,536.
-- Assumes nothing.
use mathlib.Core.Path.{◌∙◌}
use native.Mathlib.Omega.{arith}
use Rattle.integers.specs.Words.{at, bits, box, add, fits}
use Rattle.integers.specs.Vectors.{same2}
use Rattle.numbering.specs.Ranges.{apart_words, size_words}
use Rattle.layout.specs.Points.{row_small, column_small, point_is}
use Rattle.layout.proofs.point_at.Goals as goal

pub distance-columns-requires : goal.distance-columns-requires
distance-columns-requires c = apart_words c.requires.0.second

pub overflow_cast-result : goal.overflow_cast-result
overflow_cast-result c =
    record {
      sfits = omega (arith, row_small c.requires.0 c.args.p (size_words c.requires.0.second c.distance-columns.ensures.0) c.requires.1);
    }

pub overflow_add-result : goal.overflow_add-result
overflow_add-result c =
    fits tt (add (at tt c.requires.0.first.low)
    (bits tt (row_small c.requires.0 c.args.p (size_words c.requires.0.second c.distance-columns.ensures.0) c.requires.1)))

pub overflow_cast-result-2 : goal.overflow_cast-result-2
overflow_cast-result-2 c =
    record { sfits = omega (arith, column_small c.requires.0 c.args.p (size_words c.requires.0.second c.distance-columns.ensures.0)) }

pub overflow_add-result-2 : goal.overflow_add-result-2
overflow_add-result-2 c =
    fits tt (add (at tt c.requires.0.second.low)
    (bits tt (column_small c.requires.0 c.args.p (size_words c.requires.0.second c.distance-columns.ensures.0))))

pub returns : goal.returns
returns c =
    let e = size_words c.requires.0.second c.distance-columns.ensures.0 in
    same2 (box tt (add (at tt c.requires.0.first.low) (bits tt (row_small c.requires.0 c.args.p e c.requires.1)))).eq
    (box tt (add (at tt c.requires.0.second.low) (bits tt (column_small c.requires.0 c.args.p e)))).eq
    ∙ point_is c.requires.0 c.args.p e c.requires.1
