-- What the refusals 1 to 5 leave of a nest and of a stream, in the words of the crates that compute with them. Assumes nothing.
use Rattle.std.proofs.Common.{sym, subst, inl, inr}
use Rattle.std.specs.Prelude.{ℕ, ℤ}
use Rattle.integers.specs.declared.V3.{V3}
use Rattle.integers.specs.declared.Matrix.{Matrix}
use Rattle.meaning.specs.declared.Nest.{Nest}
use Rattle.meaning.specs.declared.Stream.{Stream}
use Rattle.meaning.specs.Points.{Direction.onward, Direction.back, Direction as Way}
use Rattle.vectors.specs.Within.{Within, Within2, Rows}
use Rattle.decode.specs.Ranged.{Abs3, AbsMatrix, Direction, RangedNest, RangedStream}
use Rattle.numbering.specs.Ranges.{Bounded}

-- a nest and a stream whose words are in range
pub record InRange (n : Nest) (s : Stream) : Type 0 where
  pub nest : Bounded n
  pub map : Rows 4 s.map
  pub loading : Within2 1 s.loading

-- ---- from decoding

within : {n : ℕ} {v : V3} → Abs3 v n → Within n v
within h = record { xs = h.x; ys = h.y; zs = h.z }

rows : {n : ℕ} {m : Matrix} → AbsMatrix m n → Rows n m
rows h = record { top = within h.top; low = within h.low }

way : {d : ℤ} → Direction d → Way d
way (inl e) = subst Way (sym e) onward
way (inr e) = subst Way (sym e) back

pub nest_bounded : {n : Nest} → RangedNest n → Bounded n
nest_bounded h =
    record {
      left = within h.left;
      right = within h.right;
      outer = h.ordered.x;
      middle = h.ordered.y;
      inner = h.ordered.z;
      directed = record { outer = way h.direction.x; middle = way h.direction.y; inner = way h.direction.z };
      step = within h.step;
      place = rows h.place;
    }

pub in_range_lem : {n : Nest} {s : Stream} → RangedNest n → RangedStream s → InRange n s
in_range_lem h k =
    record { nest = nest_bounded h; map = rows k.map; loading = record { first = k.loading.a; second = k.loading.b } }
