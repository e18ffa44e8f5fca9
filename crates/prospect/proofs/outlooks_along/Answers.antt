-- `prospect::outlooks_along` meets its contract: the outlooks are those of the first i streams. Assumes nothing.
use mathlib.Core.Path.{refl, sym, subst, subst₂}
use mathlib.Core.Bool.{Bool}
use Prim.Native.Nat.{ℕ, ◌<◌}
use native.Mathlib.Omega.{arith}
use lib.ListN.{get_or, length-set}
use Rattle.meaning.specs.declared.Nest.{Nest}
use Rattle.meaning.specs.declared.Stream.{Stream}
use Rattle.meaning.specs.Description.{no_stream, written}
use Rattle.lists.specs.Fills.{known_next}
use Rattle.outlook.specs.declared.Outlook.{Outlook}
use Rattle.outlook.specs.Outlooks.{OutlookOf, no_outlook}
use Rattle.survey.specs.InRange.{in_range_lem}
use Rattle.survey.specs.Surveys.{GroundOf, charted}
use Rattle.survey.specs.OfBytes.{flow_is}
use Rattle.walk.specs.Walked.{Along}
use Rattle.prospect.proofs.outlooks_along.Goals as goal

pub loop-i-init : goal.loop-i-init
loop-i-init c = (refl, λ i l. absurd (omega arith))

pub flow_at-f-requires : goal.flow_at-f-requires
flow_at-f-requires c =
    omega (arith, c.loop-i-test.true, c.requires.0.sized.most_streams)

pub outlook_of-requires : goal.outlook_of-requires
outlook_of-requires c =
    let l = c.loop-i in
    let k = flow_is c.args.v l.i c.loop-i-test.true c.flow_at-f.ensures in (
      charted (in_range_lem c.requires.0.nest (c.requires.0.streams l.i)) k,
      subst (λ (n : Nest). GroundOf n c.args.v.loops) (sym k.nest_is) c.args.v.surveyed.ground,
      subst (λ (n : Nest). Along n c.args.walk.now) (sym k.nest_is) c.requires.1,
    )

-- stream i is one of six
stream_lt : (c : goal.After-outlook_of) → c.loop-i.i < 6
stream_lt c =
    omega (arith, c.loop-i-test.true, c.requires.0.sized.most_streams)

pub overflow_cast-out : goal.overflow_cast-out
overflow_cast-out c = record { fits = omega (arith, stream_lt c) }

pub offset_bounds-out-i : goal.offset_bounds-out-i
offset_bounds-out-i c = record { fits = omega (arith, stream_lt c) }

pub bounds-out-i : goal.bounds-out-i
bounds-out-i c = omega (arith, stream_lt c)

pub loop-i-preserved : goal.loop-i-preserved
loop-i-preserved c =
    let l = c.loop-i in
    let t = c.loop-i-test.true in
    let d = c.args.v.description in
    let k = flow_is c.args.v l.i t c.flow_at-f.ensures in
    let o = c.outlook_of.result in (
      simp length-set l.invariant.0,
      known_next (λ (k : ℕ) (o : Outlook). OutlookOf d.nest (written d k) (get_or d.streams k no_stream) o) no_outlook l.out
          (omega (arith, stream_lt c, l.invariant.0)) l.invariant.1
          (subst (λ (b : Bool). OutlookOf d.nest b (get_or d.streams l.i no_stream) o) c.written.ensures
          (subst₂ (λ (n : Nest) (r : Stream). OutlookOf n c.written.result r o) k.nest_is k.stream_is c.outlook_of.ensures)),
    )

pub returns : goal.returns
returns c i h = c.loop-i.invariant.1 i (omega (arith, h))
