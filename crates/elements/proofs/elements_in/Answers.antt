-- `elements::elements_in` meets its contract: after i turns the sum is the number of stream i's first element. Assumes nothing.
use mathlib.Core.Path.{refl, ◌∙◌, ap}
use Prim.Native.Nat.{ℕ, ◌+◌, ◌<◌}
use native.Mathlib.Omega.{arith}
use lib.ListN.{length}
use Rattle.meaning.specs.Lists.{total}
use Rattle.meaning.specs.Space.{Box, points}
use Rattle.survey.specs.InRange.{in_range_lem}
use Rattle.survey.specs.Surveys.{charted, spans}
use Rattle.survey.specs.OfBytes.{flow_is}
use Rattle.elements.specs.Counts.{start_next, start_most}
use Rattle.elements.proofs.elements_in.Goals as goal

pub loop-i-init : goal.loop-i-init
unfolding total
loop-i-init c = refl

pub size_of-sum-requires : goal.size_of-sum-requires
size_of-sum-requires c =
    let l = c.loop-i in
    let p = c.requires in
    let k = flow_is c.args.v l.i (omega arith) c.flow_at.ensures in
    spans (charted (in_range_lem p.0.ranged.nest (p.0.ranged.streams l.i)) k)

pub overflow_add-sum : goal.overflow_add-sum
overflow_add-sum c =
    let l = c.loop-i in
    let d = c.args.v.description in
    let t : l.i < d.sizes.streams = omega arith in
    let k = flow_is c.args.v l.i t c.flow_at.ensures in
    let e = c.size_of-sum.ensures.0 ∙ ap (λ (b : Box). length (points b)) k.elements_is in
    omega (
      arith,
      l.invariant,
      start_next d c.args.v.surveyed.in_use c.requires.0 l.i t refl e,
      start_most d c.args.v.surveyed.in_use c.requires.0 (l.i + 1) (omega (arith, t)),
      c.requires.0.ranged.sized.most_streams,
    )

pub loop-i-preserved : goal.loop-i-preserved
loop-i-preserved c =
    let l = c.loop-i in
    let d = c.args.v.description in
    let t : l.i < d.sizes.streams = omega arith in
    let k = flow_is c.args.v l.i t c.flow_at.ensures in
    let e = c.size_of-sum.ensures.0 ∙ ap (λ (b : Box). length (points b)) k.elements_is in
    ap (λ (n : ℕ). n + c.size_of-sum.result) l.invariant ∙ start_next d c.args.v.surveyed.in_use c.requires.0 l.i t refl e
