-- `window::all_searched` meets its contract: the search in what is left of the streams has the answer of the whole; a stream adds at most
-- 4,194,304 to the start. Assumes nothing.
use mathlib.Core.Path.{refl, ◌∙◌, ap, ap₂}
use Prim.Native.Nat.{◌+◌}
use native.Mathlib.Omega.{arith}
use lib.ListN.{drop}
use Rattle.meaning.specs.declared.Nest.{Nest}
use Rattle.meaning.specs.declared.Stream.{Stream}
use Rattle.meaning.specs.Description.{streams_of}
use Rattle.survey.specs.OfBytes.{flow_is}
use Rattle.figures.specs.Shares.{stream_is, share_at}
use Rattle.window.specs.declared.Search.{Search}
use Rattle.window.specs.Search.{searched as results, stream_lengths, all_lengths, stream_next, stream_end}
use Rattle.window.proofs.all_searched.Goals as goal

pub loop-i-init : goal.loop-i-init
loop-i-init c = (omega arith, refl)

pub flow_at-requires : goal.flow_at-requires
flow_at-requires c = omega (arith, c.requires.0.few.ranged.sized.most_streams)

pub stream_searched-w-requires : goal.stream_searched-w-requires
stream_searched-w-requires c =
    let p = c.requires in
    let l = c.loop-i in (
      share_at c.args.v p.0 l.i (omega arith) c.flow_at.ensures p.1 (omega arith),
      omega (arith, l.invariant.0, p.0.few.ranged.sized.most_streams),
    )

pub loop-i-preserved : goal.loop-i-preserved
loop-i-preserved c =
    let p = c.requires in
    let d = c.args.v.description in
    let l = c.loop-i in
    let k = flow_is c.args.v l.i (omega arith) c.flow_at.ensures in (
      omega (arith, l.invariant.0, c.stream_searched-w.ensures.1),
      ap (λ (w : Search). results w (all_lengths d.nest (drop (l.i + 1) (streams_of d))))
          (c.stream_searched-w.ensures.0
          ∙ ap₂ (λ (n : Nest) (s : Stream). results l.w (stream_lengths n s)) k.nest_is
          (k.stream_is ∙ stream_is d p.0 l.i (omega arith) refl))
          ∙ stream_next d.nest l.w (streams_of d) l.i (omega (arith, p.0.in_use)) ∙ l.invariant.1,
    )

pub returns : goal.returns
returns c =
    let d = c.args.v.description in
    let l = c.loop-i in (
      stream_end d.nest l.w (streams_of d) l.i (omega (arith, c.requires.0.in_use)) ∙ l.invariant.1,
      omega (arith, l.invariant.0, c.requires.0.few.ranged.sized.most_streams),
    )
