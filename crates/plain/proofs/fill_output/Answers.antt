-- `plain::fill_output` meets its contract. Assumes nothing.
use Rattle.std.proofs.Common.{◌≡◌, sym, ◌∙◌, ap, arith}
use Rattle.std.proofs.Math.ListN.{length}
use Prim.Native.Nat.{ℕ, ◌+◌}
use Rattle.words.specs.Stored.{stored, stored_zero, stored_step, stored_all}
use Rattle.plain.proofs.fill_output.Goals as goal

pub loop-i-init : goal.loop-i-init
loop-i-init c = sym (stored_zero _ _ _)

pub loop-i-preserved : goal.loop-i-preserved
loop-i-preserved c =
    let z : 0 + c.loop-i.i ≡ c.loop-i.i = omega arith in
    rw (stored_step, z, c.loop-i.invariant)

pub returns : goal.returns
returns c =
    let a = c.args in
    let e : c.loop-i.i ≡ length a.values.now = omega arith in
    c.loop-i.invariant ∙ ap (λ (n : ℕ). stored a.values.now 0 n a.output.now) e ∙ stored_all a.values.now a.output.now c.requires
