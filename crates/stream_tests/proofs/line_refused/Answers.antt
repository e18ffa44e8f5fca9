-- `stream_tests::line_refused` meets its contract. Assumes nothing.
use mathlib.Core.Path.{◌∙◌, ap}
use lib.IntN.{pos}
use Rattle.integers.specs.Words.{eq_z}
use Rattle.integers.specs.declared.V3.{V3}
use Rattle.meaning.specs.Loops.{step_of}
use Rattle.stream_tests.proofs.line_refused.Goals as goal

pub still-requires : goal.still-requires
still-requires c = let p = c.requires in (p.in_range_lem.nest.step, p.flow.line_small)

pub returns : goal.returns
returns c =
    c.still.ensures ∙ ap (λ (v : V3). eq_z (step_of c.args.f.nest v) (pos 0)) c.requires.flow.line_is
