-- `window::searched` meets its contract: the search in what is left of the processes has the answer of the whole; no start passes 32 bits,
-- since every pipe has at most 4,096 elements. Assumes nothing.
use mathlib.Core.Path.{refl, ◌∙◌, ap}
use Prim.Native.Nat.{◌+◌}
use native.Mathlib.Omega.{arith}
use lib.ListN.{drop}
use Rattle.meaning.specs.Space.{processes}
use Rattle.window.specs.declared.Search.{Search}
use Rattle.window.specs.Search.{searched as results, lengths_of, visit_next, visit_end}
use Rattle.window.proofs.searched.Goals as goal

pub loop-p-init : goal.loop-p-init
loop-p-init c = (omega arith, refl)

pub visited-w-requires : goal.visited-w-requires
visited-w-requires c =
    let l = c.loop-p in
    let p = c.requires.0 in (
      record { seen = p.seen; lt = omega (arith, p.counted) },
      omega (arith, l.invariant.0, c.requires.1, p.counted, p.seen.flows.laid.processes),
    )

pub loop-p-preserved : goal.loop-p-preserved
loop-p-preserved c =
    let f = c.args.f in
    let l = c.loop-p in (
      omega (arith, l.invariant.0, c.visited-w.ensures.1),
      ap (λ (w : Search). results w (lengths_of f.nest f.stream (drop (l.p + 1) (processes f.nest)))) c.visited-w.ensures.0
          ∙ visit_next f.nest f.stream l.w (processes f.nest) l.p (omega (arith, c.requires.0.counted)) ∙ l.invariant.1,
    )

pub returns : goal.returns
returns c =
    let f = c.args.f in
    let l = c.loop-p in
    let p = c.requires.0 in (
      visit_end f.nest f.stream l.w (processes f.nest) l.p (omega (arith, p.counted)) ∙ l.invariant.1,
      omega (arith, l.invariant.0, p.counted, p.seen.flows.laid.processes),
    )
