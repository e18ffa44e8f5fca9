-- `make::drawn_from` meets its contract: a remainder by at most 129 added to a number from −64 to 64 fits. Assumes nothing.
use mathlib.Core.Path.{◌≡◌, ◌∙◌, ap}
use Prim.Native.Nat.{ℕ, suc, ◌%◌, ◌≤◌, ◌<◌}
use native.Mathlib.Nat.{mod-lt}
use native.Mathlib.Omega.{arith}
use lib.IntN.{pos, ◌+ℤ◌}
use Rattle.integers.specs.Words.{fits, box, add, at, bits}
use Rattle.make.proofs.drawn_from.Goals as goal

-- a remainder by a size that is not 0
small : (x n : ℕ) {m : ℕ} → n ≡ suc m → n ≤ 129 → x % n ≤ 128
small x n e k = let h : 0 < n = omega arith in omega (arith, mod-lt x h)

pub overflow_cast-result : goal.overflow_cast-result
overflow_cast-result c =
    let h = c.size_of-size.ensures in record { sfits = omega (arith, small c.args.x c.size_of-size.result h.0 h.1) }

pub overflow_add-result : goal.overflow_add-result
overflow_add-result c =
    let h = c.size_of-size.ensures in fits tt (add (at tt c.requires.least) (bits {n = 128} tt (small _ _ h.0 h.1)))

pub returns : goal.returns
returns c =
    let a = c.args in
    let h = c.size_of-size.ensures in
    (box tt (add (at tt c.requires.least) (bits {n = 128} tt (small _ _ h.0 h.1)))).eq
    ∙ ap (λ (n : ℕ). a.r.least +ℤ pos (a.x % n)) h.0
