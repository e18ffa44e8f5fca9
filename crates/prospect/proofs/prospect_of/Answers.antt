-- `prospect::prospect_of` meets its contract. Assumes nothing.
use mathlib.Core.Path.{refl, sym, ◌∙◌}
use native.Mathlib.Omega.{arith}
use borrow.Author.Tests.{ltb-false}
use Rattle.survey.specs.Grounds.{ten}
use Rattle.prospect.proofs.prospect_of.Goals as goal

pub outlooks_within-requires : goal.outlooks_within-requires
outlooks_within-requires c =
    let g = c.args.v.surveyed.ground in
    let most = c.args.limits.processes in
    let some = c.args.v.loops.processes in (
      c.requires.0,
      λ e. omega (arith, ltb-false most some (sym c.processes_refused-crowded.ensures ∙ e), g.processes_is, c.requires.1.processes),
    )

pub returns : goal.returns
returns c =
    let p = c.requires.0 in
    let g = c.args.v.surveyed.ground in
    record {
      increment_is = g.increment_is;
      increment_small = g.increment_small;
      crowded_is = ten g c.args.limits c.processes_refused-crowded.ensures;
      streams_is = refl;
      hop_is = refl;
      few = p.ranged.sized.most_streams;
      in_use = c.args.v.surveyed.in_use;
      outlooks = c.outlooks_within.ensures;
    }
