-- `refuse::streams_refusal` meets its contract: what is left of the streams has the refusal of all. Assumes nothing.
use mathlib.Core.Path.{◌≡◌, refl, sym, ◌∙◌, ap₂, subst}
use mathlib.Core.Bool.{Bool}
use Prim.Native.Nat.{ℕ}
use native.Mathlib.Omega.{arith}
use Rattle.refusals.specs.declared.Refusal.{Refusal}
use Rattle.refusals.specs.Numbers.{number_of, refusal_number, number-positive}
use Rattle.meaning.specs.declared.Limits.{Limits}
use Rattle.meaning.specs.declared.Nest.{Nest}
use Rattle.meaning.specs.declared.Stream.{Stream}
use Rattle.meaning.specs.Tests.{refusal}
use Rattle.meaning.specs.Accept.{stream_tests}
use Rattle.survey.specs.InRange.{in_range_lem}
use Rattle.survey.specs.Stages.{stream_passed, stream_refused, streams_end}
use Rattle.survey.specs.Surveys.{GroundOf, FlowOf, charted}
use Rattle.survey.specs.OfBytes.{flow_is}
use Rattle.survey.specs.declared.Flow.{Flow}
use Rattle.walk.specs.Walked.{Along}
use borrow.Author.Rules.{rules}
use Rattle.refuse.proofs.streams_refusal.Goals as goal

pub loop-i-init : goal.loop-i-init
loop-i-init c = refl

pub flow_at-f-requires : goal.flow_at-f-requires
flow_at-f-requires c = omega (arith, c.loop-i-test.true, c.requires.0.sized.most_streams)

pub stream_refusal-requires : goal.stream_refusal-requires
stream_refusal-requires c =
    let l = c.loop-i in
    let k = flow_is c.args.v l.i c.loop-i-test.true c.flow_at-f.ensures in (
      charted (in_range_lem c.requires.0.nest (c.requires.0.streams l.i)) k,
      subst (λ (n : Nest). GroundOf n c.args.v.loops) (sym k.nest_is) c.args.v.surveyed.ground,
      subst (λ (n : Nest). Along n c.args.walk.now) (sym k.nest_is) c.requires.1,
    )

-- what is answered of a stream, by its nest and itself and not by its flow
answered : (l : Limits) {n : Nest} {s : Stream} {f : Flow} {w b : Bool} {r : ℕ} → FlowOf n s f → b ≡ w
    → r ≡ refusal (stream_tests l f.nest b f.stream) → r ≡ refusal (stream_tests l n w s)
answered l {w = w} k e h =
    rw e at h ∙ ap₂ (λ (n : Nest) (s : Stream). refusal (stream_tests l n w s)) k.nest_is k.stream_is

-- a refusal's number is not 0
some : (e : Refusal) {n r : ℕ} → number_of e ≡ n → r ≡ n → r ≡ 0 → ⊥
some e h k z = omega (arith, number-positive e)

pub returns-in_err-stream_refusal : goal.returns-in_err-stream_refusal
returns-in_err-stream_refusal c =
    let l = c.loop-i in
    let f = c.flow_at-f.result in
    let k = flow_is c.args.v l.i c.loop-i-test.true c.flow_at-f.ensures in
    let r : refusal_number c.from_residual.result ≡ refusal (stream_tests c.args.limits f.nest c.written.result f.stream)
    = search rules in
    stream_refused c.args.limits c.args.v.description c.args.v.surveyed.in_use l.i
    c.loop-i-test.true refl (answered c.args.limits k c.written.ensures r)
    (some c.in_err-stream_refusal.field-0.0 c.in_err-stream_refusal.ensures r)
    ∙ l.invariant

pub loop-i-preserved : goal.loop-i-preserved
loop-i-preserved c =
    let l = c.loop-i in
    let k = flow_is c.args.v l.i c.loop-i-test.true c.flow_at-f.ensures in
    stream_passed c.args.limits c.args.v.description c.args.v.surveyed.in_use l.i
    c.loop-i-test.true refl (answered c.args.limits k c.written.ensures c.in_ok-stream_refusal.ensures) refl
    ∙ l.invariant

pub returns : goal.returns
returns c =
    let l = c.loop-i in
    streams_end c.args.limits c.args.v.description c.args.v.surveyed.in_use l.i (omega arith) ∙ l.invariant
