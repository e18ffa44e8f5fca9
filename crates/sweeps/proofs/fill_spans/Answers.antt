-- `sweeps::fill_spans` meets its contract: the pass over the instances that are left gives the whole pass. Assumes nothing.
use mathlib.Core.Path.{refl, sym, ◌∙◌, ap, subst}
use native.Mathlib.Omega.{arith}
use lib.ListN.{take}
use Rattle.sweeps.specs.Sweep.{sweep, sweep_step, sweep_done, taken_length}
use Rattle.sweeps.specs.Turns.{turn, Most, most_zero, most_turn, swept}
use Rattle.sweeps.proofs.fill_spans.Goals as goal

pub clear-requires : goal.clear-requires
clear-requires c = omega (arith, c.requires.words)

pub loop-k-init : goal.loop-k-init
loop-k-init c =
    let w = c.requires in (
      subst (Most 0 c.args.points) (sym c.clear.ensures) (most_zero _ _ w.few w.words),
      refl,
    )

pub point_of-p-requires : goal.point_of-p-requires
point_of-p-requires c = (c.requires.table, omega arith)

pub meet-requires : goal.meet-requires
meet-requires c =
    let l = c.loop-k in
    let p = c.point_of-p in
    record {
      point = omega (arith, p.ensures.1, c.requires.few);
      words = l.auto.spans ∙ c.clear.auto.out ∙ c.requires.words;
      number = omega arith;
      before = l.invariant.0.at p.result p.ensures.1;
    }

pub loop-k-preserved : goal.loop-k-preserved
loop-k-preserved c =
    let e = c.meet.ensures in
    let p = c.point_of-p in
    let l = c.loop-k in
    let h = taken_length c.requires.table in (
      rw e (most_turn c.args.back p.result c.requires.few p.ensures.1 (l.auto.spans ∙ c.clear.auto.out ∙ c.requires.words) l.invariant.0),
      rw (e, p.ensures.0) (sweep_step (turn c.args.back) _ _ _ (omega arith)) ∙ l.invariant.1,
    )

pub returns : goal.returns
returns c =
    let a = c.args in
    let h = taken_length c.requires.table in
    swept a.back c.requires
    (sym (sweep_done (turn a.back) _ _ _ (omega arith)) ∙ c.loop-k.invariant.1
    ∙ ap (sweep (turn a.back) 0 (take a.instances a.numbers.now)) c.clear.ensures)
