-- `body::scatter` meets its contract: what is left from turn i on gives the whole. Assumes nothing.
use mathlib.Core.Path.{◌≡◌, refl, sym, ◌∙◌}
use Prim.Native.Nat.{◌<◌}
use native.Mathlib.Omega.{arith}
use lib.ListN.{length}
use borrow.Author.Rules.{rules}
use Rattle.body.specs.Store.{scatter_next, scatter_end}
use Rattle.body.proofs.scatter.Goals as goal

pub loop-i-init : goal.loop-i-init
loop-i-init c = refl

pub offset_bounds-store-place : goal.offset_bounds-store-place
offset_bounds-store-place c = omega (arith, c.requires.within c.loop-i.i (omega arith))

pub bounds-store-place : goal.bounds-store-place
bounds-store-place c = omega (arith, c.requires.within c.loop-i.i (omega arith))

pub loop-i-preserved : goal.loop-i-preserved
loop-i-preserved c =
    let l : length c.args.registers ≡ 8 = search rules in
    let n : c.loop-i.i < length c.args.registers = omega (arith, c.requires.streams) in
    sym (scatter_next c.loop-i.store c.args.places.now c.args.registers c.loop-i.i (omega arith) n) ∙ c.loop-i.invariant

pub returns : goal.returns
returns c = sym (scatter_end c.loop-i.store c.args.places.now _ c.loop-i.i (omega arith)) ∙ c.loop-i.invariant
