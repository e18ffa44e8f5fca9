-- `table::copy_spans` meets its contract. Assumes nothing.
use mathlib.Core.Path.{sym, ◌∙◌, ap}
use mathlib.Core.List.{List, ◌++◌}
use Prim.Native.Nat.{ℕ}
use native.Mathlib.Omega.{arith}
use lib.ListN.{drop}
use Rattle.std.proofs.Common.{length-take-le, take_all}
use Rattle.table.proofs.copy_spans.Goals as goal

pub copy_from_slice-requires : goal.copy_from_slice-requires
copy_from_slice-requires c = omega (arith, length-take-le 3072 c.args.words.now c.requires)

pub returns : goal.returns
returns c =
    ap (λ (l : List ℕ). l ++ drop 3072 c.args.words.now)
    (c.copy_from_slice.ensures.after ∙ sym (take_all 3072 c.args.spans.now (omega arith)))
