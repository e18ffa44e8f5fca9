-- `make::put_word` meets its contract. Assumes nothing.
use mathlib.Core.Path.{◌∙◌}
use Prim.Native.Nat.{◌*◌}
use native.Mathlib.Omega.{arith}
use Rattle.make.specs.Words.{put_is}
use Rattle.make.proofs.put_word.Goals as goal

pub returns : goal.returns
returns c =
    let a = c.args in
    put_is a.out.now (4 * a.k) _ a.u (omega arith) c.requires (c.copy_from_slice.ensures.after ∙ c.to_le_bytes.ensures)
