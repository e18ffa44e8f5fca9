-- `window::piece_of` meets its contract: the limits of a board are at most the gauge's, as `piece_within` asks. Assumes nothing.
use mathlib.Core.Path.{◌∙◌, ap}
use Rattle.meaning.specs.declared.Limits.{Limits}
use Rattle.meaning.specs.Description.{description_of}
use Rattle.meaning.specs.Calls.{refused_by}
use Rattle.window.specs.Pieces.{own_tests}
use Rattle.window.proofs.piece_of.Goals as goal

pub piece_within-requires : goal.piece_within-requires
piece_within-requires c = c.limits_of.ensures.1

pub returns : goal.returns
returns c =
    let a = c.args in
    let d = description_of a.s.now in
    let e = c.piece_within.ensures in
    record {
      number = e.number ∙ ap (λ (l : Limits). refused_by l a.s.now (own_tests d a.pipe a.side a.waiting a.received)) c.limits_of.ensures.0;
      part = e.part;
    }
