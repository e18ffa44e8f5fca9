-- `port_fill::stride_of` meets its contract: after i streams the sum is that of their ports and the one word of firings. Assumes nothing.
use mathlib.Core.Path.{◌≡◌, refl}
use native.Mathlib.Omega.{arith}
use Rattle.survey.specs.OfBytes.{flow_is}
use Rattle.figures.specs.Shares.{stream_sharing}
use Rattle.port_fill.specs.Filled.{six, sums_slack, stride_zero, stride_next, stride_all}
use Rattle.port_fill.proofs.stride_of.Goals as goal

pub loop-i-init : goal.loop-i-init
loop-i-init c = stride_zero c.args.v.description c.requires

pub flow_at-requires : goal.flow_at-requires
flow_at-requires c = omega (arith, six c.args.v.description c.requires)

pub overflow_add-sum : goal.overflow_add-sum
overflow_add-sum c =
    let i = c.loop-i.i in
    let k = flow_is c.args.v i (omega arith) c.flow_at.ensures in
    record { fits = omega (arith, k.hop_is, (stream_sharing c.args.v.description c.requires i (omega arith) refl).hop) }

pub overflow_add-sum-in-loop-i : goal.overflow_add-sum-in-loop-i
overflow_add-sum-in-loop-i c =
    let l = c.loop-i in
    let d = c.args.v.description in
    let k = flow_is c.args.v l.i (omega arith) c.flow_at.ensures in
    record {
      fits = omega (
        arith,
        k.hop_is,
        (stream_sharing d c.requires l.i (omega arith) refl).hop,
        l.invariant,
        (sums_slack d c.requires l.i (omega arith)).words,
      );
    }

pub loop-i-preserved : goal.loop-i-preserved
loop-i-preserved c =
    let l = c.loop-i in
    let k = flow_is c.args.v l.i (omega arith) c.flow_at.ensures in
    stride_next c.args.v.description c.requires l.i (omega arith) refl k.hop_is l.invariant

pub returns : goal.returns
returns c =
    let d = c.args.v.description in
    let e : c.loop-i.i ≡ d.sizes.streams = omega arith in
    stride_all d c.requires e c.loop-i.invariant
