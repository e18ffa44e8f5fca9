-- `divisors::stream_divisor` meets its contract: past the streams in use the list of divisors ends, and reads as 0. Assumes nothing.
use mathlib.Core.Path.{sym, ◌∙◌, ap}
use native.Mathlib.Omega.{arith}
use lib.Seq.{get_or-take}
use Rattle.meaning.specs.declared.Stream.{Stream}
use Rattle.meaning.specs.Loops.{divisor}
use Rattle.meaning.specs.Description.{no_stream}
use Rattle.geometry.specs.Divisors.{in_use, past_use}
use Rattle.survey.specs.OfBytes.{flow_is}
use Rattle.divisors.proofs.stream_divisor.Goals as goal

pub returns-then-i-v : goal.returns-then-i-v
returns-then-i-v c =
    let d = c.args.v.description in
    let i = c.args.i in
    let t = c.if-i-v.true in
    (flow_is c.args.v i t c.flow_at-f.ensures).divisor_is
    ∙ ap (λ (r : Stream). divisor r.map) (sym (get_or-take d.sizes.streams d.streams i no_stream t))
    ∙ sym (in_use d c.args.v.surveyed.in_use i t)

pub returns-else-i-v : goal.returns-else-i-v
returns-else-i-v c =
    sym (past_use c.args.v.description c.args.v.surveyed.in_use c.args.i (omega (arith, c.if-i-v.false)))
