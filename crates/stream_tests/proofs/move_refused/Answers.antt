-- `stream_tests::move_refused` meets its contract: a loading vector's components are small. Assumes nothing.
use mathlib.Core.Path.{◌∙◌, ap}
use mathlib.Core.Bool.{not, ◌&&◌}
use Rattle.integers.specs.declared.V2.{V2}
use Rattle.meaning.specs.Accept.{small}
use Rattle.survey.specs.Accepted.{move_tested}
use Rattle.stream_tests.proofs.move_refused.Goals as goal

pub small2-requires : goal.small2-requires
small2-requires c = c.requires.flow.way_small

pub returns : goal.returns
returns c =
    ap not c.small2.ensures ∙ ap (λ (p : V2). not (small p.a && small p.b)) c.requires.flow.way_is
    ∙ move_tested c.args.f.nest c.args.f.stream c.requires.in_range_lem
