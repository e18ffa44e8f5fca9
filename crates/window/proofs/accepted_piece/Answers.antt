-- `window::accepted_piece` meets its contract: what the lists or the side are refused by comes before the pipe is looked for.
-- Assumes nothing.
use borrow.Author.Rules.{rules}
use mathlib.Core.Path.{◌≡◌, refl, ◌∙◌}
use native.Mathlib.Omega.{arith}
use Rattle.refusals.specs.Numbers.{number_of, refusal_number, number-positive}
use Rattle.window.specs.Pieces.{by_lists, lists_fit, by_pipe_lem, located_part}
use Rattle.window.proofs.accepted_piece.Goals as goal

pub returns : goal.returns
returns c =
    let e = c.element_count-e.ensures.0 in
    let a = c.args in
    let d = a.v.description in
    let l = lists_fit d a.pipe a.side a.waiting a.received e c.in_ok-of_window.ensures refl in
    let h = c.located.ensures in
    record {
      number = h.number ∙ by_pipe_lem d a.pipe a.side a.waiting a.received l.0 l.1 l.2;
      part = located_part d a.pipe a.side a.waiting a.received l.0 l.1 c.requires.0.laid _ h.number h.part;
    }

pub returns-in_err-of_window-clause-number : goal.returns-in_err-of_window-clause-number
returns-in_err-of_window-clause-number c =
    let a = c.args in
    let e = c.in_err-of_window.field-0.0 in
    let k : refusal_number c.from_residual.result ≡ number_of e = search rules in
    k ∙ by_lists a.v.description a.pipe a.side a.waiting a.received c.element_count-e.ensures.0 c.in_err-of_window.ensures
    (λ z. omega (arith, number-positive e))
