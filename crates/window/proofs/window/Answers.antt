-- `window::window` meets its contract: the part lies within both lists, so it can be cut out of either. Assumes nothing.
use mathlib.Core.Path.{◌≡◌, sym, ◌∙◌}
use borrow.Author.Rules.{rules}
use Rattle.refusals.specs.Numbers.{number_of, refusal_number}
use Rattle.meaning.specs.Limits.{limits_of}
use Rattle.window.specs.Pieces.{number_is, part_is}
use Rattle.window.proofs.window.Goals as goal

pub returns : goal.returns
returns c =
    let a = c.args in
    let e = c.in_ok-piece.ensures in
    record {
      number = number_is (limits_of a.board) a.s.now a.pipe a.side a.waiting.now a.received.now e.number;
      part = part_is (limits_of a.board) a.s.now a.pipe a.side a.waiting.now a.received.now (sym e.number) e.part.0 c.part_of.ensures;
    }

pub returns-in_err-piece-clause-number : goal.returns-in_err-piece-clause-number
returns-in_err-piece-clause-number c =
    let a = c.args in
    let k : refusal_number c.from_residual.result ≡ number_of c.in_err-piece.field-0.0 = search rules in
    k ∙ number_is (limits_of a.board) a.s.now a.pipe a.side a.waiting.now a.received.now c.in_err-piece.ensures.number
