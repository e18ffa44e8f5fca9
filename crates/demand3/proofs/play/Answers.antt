-- `demand3::play` meets its contract: what is left, and demand 3. Assumes nothing.
use mathlib.Core.Path.{◌≡◌, refl, ◌∙◌}
use native.Mathlib.Omega.{arith}
use borrow.Author.Rules.{rules}
use Rattle.refusals.specs.Numbers.{number_of, numbered, number-positive}
use Rattle.meaning.specs.Answers.{Refused}
use Rattle.demand3.specs.Play.{lent_of, same_lent, played_on, played_off, promised}
use Rattle.demand3.proofs.play.Goals as goal

pub returns : goal.returns
returns c =
    let a = c.args in
    let s = c.in_ok-start.ensures in
    let L = lent_of a.waiting.now a.received.now a.state.now a.words.now a.output.now a.part.now a.answers.now in
    let m = played_on a.board a.s.now a.values.now a.calls.now L s.0 refl refl (same_lent s.1 refl refl refl refl) c.play_calls.ensures in
    (s.0, m, promised a.board a.s.now a.values.now a.calls.now L s.0 m)

pub returns-in_err-start : goal.returns-in_err-start
returns-in_err-start c =
    let a = c.args in
    let s = c.in_err-start.ensures in
    let e = c.in_err-start.field-0.0 in
    let k : numbered c.from_residual.result ≡ Refused (number_of e) = search rules in
    let L = lent_of a.waiting.now a.received.now a.state.now a.words.now a.output.now a.part.now a.answers.now in
    let m = played_off a.board a.s.now a.values.now a.calls.now L s.0 refl (λ z. omega (arith, number-positive e))
    (same_lent s.1 refl refl refl refl) in
    (k ∙ s.0, m, promised a.board a.s.now a.values.now a.calls.now L (k ∙ s.0) m)
