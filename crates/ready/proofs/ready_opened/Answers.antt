-- `ready::ready_opened` meets its contract: too few words, or those of the processes that can move. Assumes nothing.
use mathlib.Core.Path.{◌≡◌, refl, ◌∙◌, ap₂}
use native.Mathlib.Omega.{arith}
use borrow.Author.Rules.{rules}
use Rattle.refusals.specs.Numbers.{number_of, numbered, number-positive}
use Rattle.meaning.specs.Answers.{Ready, Refused}
use Rattle.ready.specs.Call.{answer_few, many_words, answer_marked}
use Rattle.ready.proofs.ready_opened.Goals as goal

pub returns-in_err-of_ready : goal.returns-in_err-of_ready
returns-in_err-of_ready c =
    let a = c.args in
    let e = c.in_err-of_ready.field-0.0 in
    let k : numbered c.from_residual.result ≡ Refused (number_of e) = search rules in
    let d = answer_few a.ports.now a.state.now a.z a.words.now c.in_err-of_ready.ensures (λ z. omega (arith, number-positive e)) in
    (k ∙ d.0, d.1)

pub mark_ready-requires : goal.mark_ready-requires
mark_ready-requires c =
    (c.requires, many_words c.args.words.now c.in_ok-of_ready.ensures refl)

pub count-requires : goal.count-requires
count-requires c =
    let a = c.args in
    omega (arith, c.mark_ready.auto.words, many_words a.words.now c.in_ok-of_ready.ensures refl)

pub lowest-requires : goal.lowest-requires
lowest-requires c =
    let a = c.args in
    omega (arith, c.mark_ready.auto.words, many_words a.words.now c.in_ok-of_ready.ensures refl)

pub returns : goal.returns
returns c =
    let a = c.args in
    let m = answer_marked _ _ _ a.words.now
    (many_words a.words.now c.in_ok-of_ready.ensures refl) c.mark_ready.ensures in
    (ap₂ Ready c.count.ensures c.lowest.ensures ∙ m.0, m.1)
