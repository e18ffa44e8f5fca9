-- `stream_tests::loading_refused` meets its contract: a stream moves exactly if it is not stationary, so the branches are the two cases of
-- refusal 16. Assumes nothing.
use mathlib.Core.Path.{sym, ◌∙◌, ap}
use mathlib.Core.Bool.{not}
use borrow.Author.Tests.{not-true, not-false}
use Rattle.integers.specs.Bounds.{Abs-wider}
use Rattle.meaning.specs.Streams.{stationary}
use Rattle.stream_tests.proofs.loading_refused.Goals as goal

pub zero2-requires : goal.zero2-requires
zero2-requires c =
    let p = c.requires.in_range_lem.loading in record { first = Abs-wider tt p.first; second = Abs-wider tt p.second }

pub zero2-requires-else-f : goal.zero2-requires-else-f
zero2-requires-else-f c =
    let p = c.requires.in_range_lem.loading in record { first = Abs-wider tt p.first; second = Abs-wider tt p.second }

pub returns-then-f : goal.returns-then-f
returns-then-f c =
    let f = c.args.f in
    rw (not-true (stationary f.nest f.stream) (sym c.requires.flow.moving_is ∙ c.if-f.true)) (ap not c.zero2.ensures)

pub returns-else-f : goal.returns-else-f
returns-else-f c =
    let f = c.args.f in
    rw (not-false (stationary f.nest f.stream) (sym c.requires.flow.moving_is ∙ c.if-f.false)) c.zero2-else-f.ensures
