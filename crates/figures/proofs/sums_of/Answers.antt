-- `figures::sums_of` meets its contract: the sums are those of the pipes that begin before process p. Assumes nothing.
use mathlib.Core.Path.{◌≡◌, ◌∙◌, ap}
use Prim.Native.Nat.{suc, ◌+◌}
use native.Mathlib.Omega.{arith}
use Rattle.figures.specs.Sums.{sums_at, sums_zero, sums_all}
use Rattle.figures.proofs.sums_of.Goals as goal

pub loop-p-init : goal.loop-p-init
loop-p-init c = let f = c.args.f in sums_zero f.nest f.stream

pub added-sums-requires : goal.added-sums-requires
added-sums-requires c =
    (record { seen = c.requires.seen; lt = omega (arith, c.requires.counted) }, c.loop-p.invariant, c.requires.small)

pub loop-p-preserved : goal.loop-p-preserved
loop-p-preserved c =
    let f = c.args.f in
    let l = c.loop-p in
    let e : suc l.p ≡ l.p + 1 = omega arith in
    c.added-sums.ensures ∙ ap (sums_at f.nest f.stream) e

pub returns : goal.returns
returns c =
    let l = c.loop-p in
    l.invariant ∙ sums_all c.args.f.nest c.args.f.stream l.p (omega (arith, c.requires.counted))
