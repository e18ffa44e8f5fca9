-- `lanes::fill_lanes` meets its contract: the lanes say what the first p processes do to them, and the points are counted on with p.
-- Assumes nothing.
use mathlib.Core.Path.{◌≡◌, ap, subst, ◌∙◌}
use mathlib.Core.Bool.{Bool, not}
use Prim.Native.Nat.{ℕ}
use native.Mathlib.Omega.{arith}
use lib.Dec.{eqb}
use lib.ListN.{length}
use Rattle.meaning.specs.Space.{processes}
use Rattle.layout.specs.Points.{first_point_lem, points_next}
use Rattle.lanes.specs.Lanes.{Lanes, lanes_start, lanes_step, held_le}
use Rattle.lanes.specs.Held.{entry_number, computes}
use Rattle.lanes.specs.Flow.{spanning, point_lt, point_small}
use Rattle.lanes.proofs.fill_lanes.Goals as goal

pub loop-p-init : goal.loop-p-init
loop-p-init c =
    let f = c.requires.flowing in (
      lanes_start _ _ _ c.args.processes _ (omega (arith, f.counted, f.flows.laid.processes)) c.requires.words c.requires.zeros,
      λ l. first_point_lem (spanning f.flows) (point_lt f.flows (omega (arith, l, f.counted))),
    )

pub visit-requires : goal.visit-requires
visit-requires c =
    let f = c.requires.flowing in
    let l = c.loop-p in
    let e = c.entry_number-e in
    record {
      words = l.invariant.0.words;
      process = omega (arith, f.flows.laid.processes);
      entry = omega (arith, f.flows.laid.processes);
      held = omega (
        arith,
        l.invariant.0.held e.result (omega (arith, f.counted)),
        held_le (entry_number c.args.f.nest c.args.f.stream) (computes c.args.f.nest) l.p e.result,
        f.flows.laid.processes,
      );
    }

pub next_point-y-requires : goal.next_point-y-requires
next_point-y-requires c =
    let f = c.requires.flowing in
    (spanning f.flows, point_small f.flows (omega (arith, f.counted)) (c.loop-p.invariant.1 c.loop-p-test.true))

pub loop-p-preserved : goal.loop-p-preserved
loop-p-preserved c =
    let f = c.requires.flowing in
    let l = c.loop-p in
    let e = c.entry_number-e in
    let t = c.loop-p-test.true in (
      lanes_step _ _ (omega (arith, f.counted, f.flows.laid.processes)) t l.invariant.0 e.result e.ensures.0
          (omega (arith, f.counted)) _
          (ap (λ (k : ℕ). not (eqb k 0)) (f.of_spans.counts l.p (omega (arith, f.counted))))
          c.visit.ensures,
      λ m. c.next_point-y.ensures
          ∙ points_next (spanning f.flows) l.p (point_lt f.flows (omega (arith, m, f.counted))) (l.invariant.1 t),
    )

pub returns : goal.returns
returns c =
    let f = c.requires.flowing in
    let l = c.loop-p in
    let e : l.p ≡ c.args.processes = omega arith in
    let E = entry_number c.args.f.nest c.args.f.stream in
    let C = computes c.args.f.nest in
    let P = length (processes c.args.f.nest) in
    record {
      flows = f.flows;
      of_spans = f.of_spans;
      long = f.long;
      of_lanes = subst (λ (m : Bool). Lanes E C m P P l.lanes) f.flows.flow.moving_is
          (subst (λ (k : ℕ). Lanes E C c.args.f.moving k k l.lanes) f.counted
          (subst (λ (k : ℕ). Lanes E C c.args.f.moving c.args.processes k l.lanes) e l.invariant.0));
    }
