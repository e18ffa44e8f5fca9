-- `walk::fill_walk` meets its contract: after p processes the walk of those is stored. Assumes nothing.
use mathlib.Core.Path.{◌≡◌, sym, ◌∙◌, ap, subst}
use Prim.Native.Nat.{ℕ, ◌+◌, ◌<◌}
use native.Mathlib.Numerals.{add-one}
use native.Mathlib.Omega.{arith}
use lib.ListN.{length}
use Rattle.meaning.specs.Space.{processes, count}
use Rattle.layout.specs.Spans.{process_of}
use Rattle.walk.specs.Walked.{passed, passed_none, passed_next, passed_all, passed_most, walked_on}
use Rattle.walk.proofs.fill_walk.Goals as goal

pub loop-p-init : goal.loop-p-init
loop-p-init c = (passed_none _, λ k h. absurd (omega arith))

pub put_line-from-requires : goal.put_line-from-requires
put_line-from-requires c =
    let l = c.loop-p in
    let p = c.requires in
    let h : l.p < length (processes c.args.n) = omega (arith, p.ground.processes_is) in
    record {
      walkable = p.walkable;
      held = p.held;
      words = p.words;
      process = h;
      increment = p.ground.increment_is;
      within = p.ground.increment_small;
      fits = omega (arith, l.invariant.0, passed_most p.walkable.layout l.p h, p.walkable.instances);
      room = l.auto.walk ∙ p.room;
    }

pub loop-p-preserved : goal.loop-p-preserved
loop-p-preserved c =
    let l = c.loop-p in
    let n = c.args.n in
    let h : l.p < length (processes n) = omega (arith, c.requires.ground.processes_is) in
    let e = c.put_line-from.ensures in (
      e.0 ∙ ap (λ (k : ℕ). k + count n (process_of n l.p)) l.invariant.0 ∙ sym (passed_next n l.p h)
          ∙ ap (passed n) (sym (add-one l.p)),
      λ k b. walked_on n l.p h l.invariant.0 l.invariant.1 e.1 k (subst (λ (r : ℕ). k < r) e.0 b),
    )

pub returns : goal.returns
returns c =
    let l = c.loop-p in
    let e : l.p ≡ length (processes c.args.n) = omega (arith, c.requires.ground.processes_is) in
    record { at = λ k h. l.invariant.1 k (omega (arith, passed_all c.args.n l.p e, l.invariant.0)) }
